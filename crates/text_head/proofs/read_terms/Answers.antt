-- `read_terms` meets its contract: each exit is one of the definition's.
use mathlib.Core.Path.{◌≡◌, ap, ◌∙◌}
use native.Mathlib.Omega.{arith}
use mathlib.Core.List.{[], ◌∷◌}
use lib.ListN.{length}
use lib.Seq.{length-take-le}
use Rattle.std.specs.Prelude.{Err}
use Rattle.std.proofs.lemmas.Grind.{common_steps}
use Rattle.series.specs.Results.{value}
use Rattle.series.specs.declared.Refusal.{Refusal}
use Rattle.text_rules.specs.Fields.{COMMA, field_by}
use Rattle.text_rules.specs.Rows.{read_row}
use Rattle.text_head.proofs.HeadLaws.{terms-first, values_read, terms_unknown, terms_all, row_found}
use Rattle.text_head.proofs.read_terms.Goals as goal
use Rattle.text_head.proofs.read_terms.Goals.{In_ok-first, In-Some}

-- the first field
first : (c : In_ok-first) → value (record { found = c.in_ok-first.first.found.now; rest = c.in_ok-first.first.rest.now }) ≡ field_by COMMA c.args.text.now
first c = rw c.in_ok-first.ensures.ok_part at c.read_field.ensures

-- as many numbers were read as were asked for
told : (c : In-Some) → value (record { found = c.read_row.new.row; rest = c.in-Some.rest.now }) ≡ read_row c.args.numbers c.in_ok-first.first.rest.now
told c = c.in-Some.ensures.means ∙ ap (λ k. read_row k c.in_ok-first.first.rest.now) (length-take-le c.args.numbers (0 ∷ 0 ∷ 25 ∷ []) c.requires)

pub returns-in_err-first : goal.returns-in_err-first
returns-in_err-first c =
    let is : c.from_residual.result ≡ Err Refusal.Malformed = grind (arith, common_steps) in
    let missing = rw c.in_err-first.ensures.ok_part at c.read_field.ensures in
    rw is (terms-first _ _ missing)

pub returns-in_err-method : goal.returns-in_err-method
returns-in_err-method c =
    let is : c.from_residual-in_err-method.result ≡ Err Refusal.UnknownMethod = grind (arith, common_steps) in
    let p = goal.at.returns-in_err-method c in
    let unknown = rw c.in_err-method.ensures.ok_part at c.read_method.ensures in
    rw is (terms_unknown _ _ (first p.In_ok-first) (row_found _ _ (told p.In-Some)) unknown)

pub returns : goal.returns
returns c =
    let p = goal.at.returns c in
    let method = rw c.in_ok-method.ensures.ok_part at c.read_method.ensures in
    let long : length c.read_row.new.row ≡ c.args.numbers = c.read_row.auto.row ∙ length-take-le c.args.numbers (0 ∷ 0 ∷ 25 ∷ []) c.requires in
    rw c.terms_of-found.ensures (simp values_read (terms_all _ _ (first p.In_ok-first) method (told p.In-Some)))
