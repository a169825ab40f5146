-- `any_above` meets its contract: what `any` answers of the test by which the definition recurses.
use Rattle.std.proofs.Common.{refl, ◌∙◌, ◌||◌, ltb, rules, tests}
use Rattle.std.specs.List.{list_any}
use Rattle.std.proofs.lemmas.Iterator.{YieldsList-from_slice}
use Rattle.std.proofs.lemmas.Iterator.Search.{any_from_yields_List}
use Rattle.std.proofs.lemmas.List.Recursion.{same_from_clauses}
use Rattle.series.specs.Series.{MOST_CONTRACTS}
use Rattle.activity_rules.specs.Activity.{any_above}
use Rattle.activity.proofs.any_above.Goals as goal

pub returns : goal.returns
unfolding any_above
returns c =
    let counts = c.args.counts.now in
    any_from_yields_List (ltb MOST_CONTRACTS) _ _ _ c.any.ensures.ran (YieldsList-from_slice counts cc) (λ x b q k. search (rules, tests))
    ∙ same_from_clauses (list_any (ltb MOST_CONTRACTS)) any_above (λ n r. ltb MOST_CONTRACTS n || r) refl (λ n ns. refl) (λ n ns. refl) counts
