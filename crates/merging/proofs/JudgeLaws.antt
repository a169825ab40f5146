-- What a judged list has, and two lists judged one after the other.
use Prim.Native.Nat.{ℕ, ◌+◌, ◌<◌}
use mathlib.Core.Path.{◌≡◌, refl, sym, ◌∙◌}
use mathlib.Core.List.{List, [], ◌++◌}
use native.Mathlib.Omega.{arith}
use lib.ListN.{length}
use borrow.Author.Tests.{ltb-false, eqb-true, eqb-false, not-false}
use Rattle.series.specs.Results.{refused, value}
use Rattle.series.specs.Places.{total}
use Rattle.series.specs.Refusals.{Row, NoneApplies, length_rows, position_rows}
use Rattle.series.specs.declared.Method.{Method}
use Rattle.series.proofs.AcceptedLaws.{or-false, positive, list_verdict_lem, positions-total}
use Rattle.series.proofs.RowLaws.{value_passed, value_same, passed_append}
use Rattle.merging.specs.Merging.{PositionList, judged_alone}
use Rattle.merging.specs.Walks.{judged_both, Bounded}

-- ---- a list that meets no refusal

-- its facts, and that no row of a position applies
pub record Faultless (l : PositionList) (T : ℕ) : Type 0 where
  pub bounded : Bounded l
  pub some : 0 < length l.shorts
  pub sum : T ≡ total l.shorts
  pub passed : NoneApplies (position_rows Method.ProRata [] 0 0 l.accounts l.accounts l.shorts)

pub faultless : (l : PositionList) (T : ℕ) → judged_alone l ≡ value T → Faultless l T
unfolding NoneApplies length_rows
faultless l T e =
    let lengths : List Row = length_rows l.accounts l.accounts l.shorts in
    let each : List Row = position_rows Method.ProRata [] 0 0 l.accounts l.accounts l.shorts in
    let is = sym (list_verdict_lem Method.ProRata l.accounts l.accounts l.shorts) ∙ e in
    let none = passed_append lengths each (value_passed (lengths ++ each) (total l.shorts) T is) in
    let same : length l.accounts ≡ length l.shorts = eqb-true _ _ (not-false _ (or-false _ _ none.0.0).0) in
    record {
      bounded = record {
        even = same;
        few = ltb-false _ _ none.0.1.0;
        small = omega (arith, positions-total Method.ProRata [] 0 0 l.accounts l.accounts l.shorts same same (omega arith) none.1);
      };
      some = positive (eqb-false _ _ none.0.1.1.0);
      sum = sym (value_same (lengths ++ each) (total l.shorts) T is);
      passed = none.1;
    }

-- ---- both lists

module _ (one two : PositionList) where
  pub first-refused : (n : ℕ) → judged_alone one ≡ refused n → refused n ≡ judged_both one two
  unfolding judged_both
  first-refused n e = rw e refl

  pub second-refused : (T n : ℕ) → judged_alone one ≡ value T → judged_alone two ≡ refused n → refused n ≡ judged_both one two
  unfolding judged_both
  second-refused T n e f = rw (e, f) refl

  pub both_judged : (T U : ℕ) → judged_alone one ≡ value T → judged_alone two ≡ value U → value (T + U) ≡ judged_both one two
  unfolding judged_both
  both_judged T U e f = rw (e, f) refl
