-- `Table::is_even` meets its contract: what `all` answers of the test by which the definition recurses.
use Rattle.std.proofs.Common.{◌∙◌, refl, ap, ◌&&◌, eqb, length, rules, tests}
use Rattle.std.specs.List.{list_all}
use Rattle.std.proofs.lemmas.Iterator.{YieldsList-from_slice}
use Rattle.std.proofs.lemmas.Iterator.Search.{all_from_yields_List}
use Rattle.std.proofs.lemmas.List.Recursion.{same_from_clauses}
use Rattle.text_rules.specs.Calls.{evenly}
use Rattle.text_writing.proofs.TableLaws.{behind}
use Rattle.text_writing.proofs.table.Table.is_even.Goals as goal

pub returns : goal.returns
unfolding evenly
returns c =
    let columns = c.args.self.now.columns.now in
    let n = c.lines-lines.result in
    all_from_yields_List (λ b. eqb (length b.now) n) _ _ _ c.all.ensures.ran (YieldsList-from_slice columns cc) (λ x b q k. search (rules, tests))
    ∙ same_from_clauses (list_all (λ b. eqb (length b.now) n)) (λ bs. evenly n (behind bs)) (λ b r. eqb (length b.now) n && r) refl (λ b bs. refl) (λ b bs. refl) columns
    ∙ ap (λ n. evenly n (behind columns)) c.lines-lines.ensures
