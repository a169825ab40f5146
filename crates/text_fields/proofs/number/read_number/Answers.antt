-- `number::read_number` meets its contract. The loop's invariant: the bytes passed are digits of the field, at most ten, and `n` is their number.
use Prim.Native.Nat.{◌+◌}
use mathlib.Core.Path.{◌≡◌, sym, ◌∙◌}
use native.Mathlib.Omega.{arith}
use Rattle.std.proofs.Common.{inl, inr}
use Rattle.std.proofs.lemmas.Grind.{common_steps}
use Rattle.text_rules.specs.Numbers.{digit}
use Rattle.text_fields.proofs.FieldLaws.{rest_from, number_start, number_more, number-long, number_other, number_none, number-end, number_empty, number_large}
use Rattle.text_fields.proofs.number.read_number.Goals as goal

pub loop-i-init : goal.loop-i-init
loop-i-init c = number_start c.args.end c.args.text.now

pub returns-then-byte-end : goal.returns-then-byte-end
unfolding digit
returns-then-byte-end c =
    elim c.then-byte-end.either [
      | inl other ↦ number_other c.args.end c.args.text.now c.loop-i.i c.loop-i.n c.loop-i.invariant c.loop-i-test.true (sym c.is_ascii_digit.ensures.value ∙ c.if-not-is_ascii_digit.true) other
      | inr empty ↦ number_empty c.args.end c.args.text.now c.loop-i.i c.loop-i.n c.loop-i.invariant c.loop-i-test.true empty.0 c.requires empty.1
    ]

pub returns-in_err-found : goal.returns-in_err-found
returns-in_err-found c =
    rw c.from_residual.ensures (number_large c.args.end c.args.text.now c.loop-i.i c.loop-i.n c.loop-i.invariant c.loop-i-test.true c.if-byte-end.false c.requires (grind (arith, common_steps)))

pub returns-then-not-is_ascii_digit : goal.returns-then-not-is_ascii_digit
returns-then-not-is_ascii_digit c =
    let is : c.in_ok-found.found ≡ c.loop-i.n = grind (arith, common_steps) in
    rw (is, rest_from (c.loop-i.i + 1) c.args.text.now) (number-end c.args.end c.args.text.now c.loop-i.i c.loop-i.n c.loop-i.invariant c.loop-i-test.true c.if-byte-end.false c.requires c.if-i-eq0.false (grind (arith, common_steps)))

pub returns-then-i-ge10 : goal.returns-then-i-ge10
unfolding digit
returns-then-i-ge10 c = number-long c.args.end c.args.text.now c.loop-i.i c.loop-i.n c.loop-i.invariant c.loop-i-test.true (sym c.is_ascii_digit.ensures.value ∙ c.if-not-is_ascii_digit.false) c.if-i-ge10.true

pub loop-i-preserved : goal.loop-i-preserved
unfolding digit
loop-i-preserved c = rw c.from.ensures (number_more c.args.end c.args.text.now c.loop-i.i c.loop-i.n c.loop-i.invariant c.loop-i-test.true (sym c.is_ascii_digit.ensures.value ∙ c.if-not-is_ascii_digit.false) c.if-i-ge10.false)

pub returns : goal.returns
returns c = number_none c.args.end c.args.text.now c.loop-i.i c.loop-i.n c.loop-i.invariant c.loop-i-test.false
