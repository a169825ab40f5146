-- `field::read_field` meets its contract: what `position` answers of the first byte that ends a field.
use Prim.Native.Nat.{◌<◌}
use mathlib.Core.Bool.{true, false}
use mathlib.Core.Path.{◌≡◌, sym, ap, ◌∙◌}
use native.Mathlib.Omega.{arith}
use borrow.Author.Tests.{ne_eqb}
use lib.ListN.{length}
use Rattle.std.proofs.Common.{rules, tests, None, Some}
use Rattle.std.proofs.lemmas.Iterator.{YieldsList-from_slice, IsFirst-from_position}
use Rattle.std.specs.List.{AllWithin, HoldsAt}
use Rattle.text_rules.specs.Fields.{ends}
use Rattle.text_fields.proofs.FieldLaws.{rest_from, read_passed, read_end, read_other, read_none}
use Rattle.text_fields.proofs.field.read_field.Goals as goal
use Rattle.text_fields.proofs.field.read_field.Goals.{In_ok-i}

-- the first byte that ends a field
first : (c : In_ok-i) → (c.in_ok-i.i < length c.args.text.now) × HoldsAt (λ b. ends b ≡ true) c.args.text.now c.in_ok-i.i × AllWithin (λ b. ends b ≡ false) c.args.text.now 0 c.in_ok-i.i
first c = IsFirst-from_position _ _ (Some c.in_ok-i.i) (λ b. ends b ≡ true) (λ b. ends b ≡ false) c.in_ok-i.ensures.ran (YieldsList-from_slice c.args.text.now cc) (λ x q k. search (rules, tests)) (λ x q k. search (rules, tests))

pub returns-in_err-i : goal.returns-in_err-i
returns-in_err-i c =
    let s = c.args.text.now in
    let none = IsFirst-from_position _ _ None (λ b. ends b ≡ true) (λ b. ends b ≡ false) c.in_err-i.ensures.ran (YieldsList-from_slice s cc) (λ x q k. search (rules, tests)) (λ x q k. search (rules, tests)) in
    rw c.from_residual.ensures (sym (read_none c.args.end s _ (read_passed c.args.end s _ (omega arith) none) (omega arith)))

pub returns-then-text-i : goal.returns-then-text-i
returns-then-text-i c =
    let s = c.args.text.now in
    let (within, ending, passed) = first (goal.at.returns-then-text-i c).In_ok-i in
    sym (read_other c.args.end s _ (read_passed c.args.end s _ (omega arith) passed) within (ending 0) (ne_eqb _ c.args.end c.if-text-i.true))

pub returns : goal.returns
returns c =
    let s = c.args.text.now in
    let (within, ending, passed) = first (goal.at.returns c).In_ok-i in
    rw rest_from (sym (read_end c.args.end s _ (read_passed c.args.end s _ (omega arith) passed) within c.if-text-i.false (sym (ap ends c.if-text-i.false) ∙ ending 0)))
