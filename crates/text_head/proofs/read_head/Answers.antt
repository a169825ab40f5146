-- `read_head` meets its contract: each line's answer is what the next step of the definition goes on with.
use mathlib.Core.Path.{◌≡◌}
use native.Mathlib.Omega.{arith}
use Rattle.std.specs.Prelude.{Err}
use Rattle.std.proofs.lemmas.Grind.{common_steps}
use Rattle.series.specs.Results.{value}
use Rattle.series.specs.declared.Refusal.{Refusal}
use Rattle.series.proofs.ResultLaws.{refusal_met}
use Rattle.text_rules.specs.Names.{terms_line, terms_numbers, line1, read_names}
use Rattle.text_rules.specs.Text.{read_terms}
use Rattle.text_head.proofs.HeadLaws.{head_long, head_names, head_terms, head_columns, head_all}
use Rattle.text_head.proofs.read_head.Goals as goal
use Rattle.text_head.proofs.read_head.Goals.{In_ok-names, In_ok-terms}

-- line 1
names : (c : In_ok-names) → value (record { found = c.in_ok-names.names.found; rest = c.in_ok-names.names.rest.now }) ≡ read_names terms_line line1 c.args.text.now
names c = rw c.in_ok-names.ensures.ok_part at c.read_terms_names.ensures

-- line 2
terms : (c : In_ok-terms) → value (record { found = c.in_ok-terms.terms.found; rest = c.in_ok-terms.terms.rest.now }) ≡ read_terms (terms_numbers c.in_ok-names.names.found) c.in_ok-names.names.rest.now
terms c = rw (← c.terms_numbers.ensures) c.in_ok-terms.ensures

pub returns-then-text-gt32768 : goal.returns-then-text-gt32768
returns-then-text-gt32768 c = head_long _ c.if-text-gt32768.true

pub returns-in_err-names : goal.returns-in_err-names
returns-in_err-names c =
    let is : c.from_residual.result ≡ Err Refusal.NamesLine = grind (arith, common_steps) in
    let missing = rw c.in_err-names.ensures.ok_part at c.read_terms_names.ensures in
    rw is (head_names _ c.if-text-gt32768.false missing)

pub returns-in_err-terms : goal.returns-in_err-terms
returns-in_err-terms c =
    let p = goal.at.returns-in_err-terms c in
    rw (refusal_met c.from_residual-in_err-terms.result _ c.from_residual-in_err-terms.ensures.1) (head_terms _ c.if-text-gt32768.false (names p.In_ok-names) (rw c.terms_numbers.ensures at c.in_err-terms.ensures))

pub returns-in_err-columns : goal.returns-in_err-columns
returns-in_err-columns c =
    let p = goal.at.returns-in_err-columns c in
    let is : c.from_residual-in_err-columns.result ≡ Err Refusal.NamesLine = grind (arith, common_steps) in
    let missing = rw c.in_err-columns.ensures.ok_part at c.read_position_names.ensures in
    rw is (head_columns _ c.if-text-gt32768.false (names p.In_ok-names) (terms p.In_ok-terms) missing)

pub returns : goal.returns
returns c =
    let p = goal.at.returns c in
    let columns = rw c.in_ok-columns.ensures.ok_part at c.read_position_names.ensures in
    head_all _ c.if-text-gt32768.false (names p.In_ok-names) (terms p.In_ok-terms) columns
