-- The rows of the table, as the code tries them.
use Rattle.std.specs.Prelude.{Ok, Err, IfOk, Result as Result·}
use Prim.Native.Nat.{ℕ, suc, ◌+◌, ◌-◌, ◌*◌, ◌/◌, ◌≤◌, ◌<◌}
use mathlib.Core.Path.{◌≡◌, refl, sym, ap, ◌∙◌}
use mathlib.Core.Bool.{◌&&◌}
use mathlib.Core.List.{List, []}
use native.Mathlib.Omega.{arith}
use native.Mathlib.Nat.{mul-div-le, lt-mul-div-succ, mul-le-mul_left}
use native.Mathlib.Decide.{dec_le}
use lib.Dec.{ltb}
use lib.ListN.{length}
use borrow.Author.Tests.{lt-ltb, le-ltb, ltb-false, eqb-true, ne_eqb, not-false}
use Rattle.series.specs.Results.{Result, refused, value, ◌>>=◌}
use Rattle.series.specs.Places.{total}
use Rattle.series.specs.Series.{Series, MOST_POSITIONS, MOST_CONTRACTS, method, held, ordered_by, order}
use Rattle.series.specs.Wheel.{MOST_BLOCKS, blocks}
use Rattle.series.specs.Refusals.{Row, first, NoneApplies, exercised_rows, too_many_blocks, increment_rows, terms_rows, then_draw_rows, length_rows, room_rows, list_rows, rows, verdict, list_verdict_for}
use Rattle.series.specs.declared.Method.{Method}
use Rattle.series.specs.declared.Refusal.{Refusal}
use Rattle.series.specs.declared.Terms.{Terms}
use Rattle.judging.specs.declared.judged_list.JudgedList.{JudgedList}
use Rattle.judging.specs.Judged.{judged_after, ListOf}
use Rattle.series.proofs.RowLaws.{passed_first, first-append, value_passed, value_same}
use Rattle.series.proofs.AcceptedLaws.{or-false, positions-total}

-- ---- the increment

-- T1 is above 1,000,000 exactly where S is above 1,000,000 increments
blocks_by_increments : (I S : ℕ) → 0 < I → ltb (1000000 * I) S ≡ ltb MOST_BLOCKS (blocks I S)
unfolding blocks
blocks_by_increments I S some =
    let q : ℕ = (S + (I - 1)) / I in
    let low : I * q ≤ S + (I - 1) = mul-div-le (S + (I - 1)) I in
    let high : S + (I - 1) < I * (q + 1) = lt-mul-div-succ (S + (I - 1)) some in
    elim (dec_le q MOST_BLOCKS) [
      | yes l ↦ rw (le-ltb (1000000 * I) S (omega (arith, mul-le-mul_left I l)), le-ltb MOST_BLOCKS q l)
      | no g ↦ let more : suc MOST_BLOCKS ≤ q = omega arith in rw (lt-ltb (1000000 * I) S (omega (arith, mul-le-mul_left I more)), lt-ltb MOST_BLOCKS q more)
    ]

pub too_many : (I T S : ℕ) → 0 < I → (ltb S T && ltb (1000000 * I) S) ≡ too_many_blocks I T S
unfolding too_many_blocks
too_many I T S some = ap (ltb S T &&◌) (blocks_by_increments I S some)

-- ---- the terms

-- the rows of what is exercised passed, those of the increment, and then those of the draw
pub then_increment : (t : Terms) (T n : ℕ) → (t.exercised.0 ≡ 0 → ⊥) → t.exercised.0 ≤ T → first (terms_rows t T n) T ≡ (first (increment_rows t T) T >>= first (then_draw_rows t T n))
unfolding terms_rows exercised_rows NoneApplies
then_increment t T n some h = passed_first 2 (terms_rows t T n) T (ne_eqb _ 0 some, (le-ltb T _ h, tt)) ∙ first-append (increment_rows t T) (then_draw_rows t T n) T

-- ---- the whole table

-- what a list has that meets no refusal, T being its sum and room the length of an output
pub record Summed (shorts : List ℕ) (room T : ℕ) : Type 0 where
  pub few : length shorts ≤ MOST_POSITIONS
  pub sum : T ≡ total shorts
  pub small : total shorts ≤ MOST_CONTRACTS
  pub fits : length shorts ≤ room

pub list_facts : (m : Method) (keys accounts shorts : List ℕ) (room T : ℕ) → value T ≡ list_verdict_for m keys accounts shorts room → Summed shorts room T
unfolding list_rows length_rows room_rows NoneApplies
list_facts m keys accounts shorts room T v =
    let passed = value_passed (list_rows m keys accounts shorts room) (total shorts) T (sym v) in
    let even = or-false _ _ passed.0 in
    let same : length accounts ≡ length shorts = eqb-true _ _ (not-false _ even.0) in
    let beside : length keys ≡ length shorts = eqb-true _ _ (not-false _ even.1) in
    record {
      few = ltb-false _ _ passed.1.0;
      sum = sym (value_same (list_rows m keys accounts shorts room) (total shorts) T (sym v));
      small = omega (arith, positions-total m [] 0 0 keys accounts shorts same beside (omega arith) passed.1.1.1.1);
      fits = ltb-false _ _ passed.1.1.1.0;
    }

-- where every code is the account, the list rises by its accounts under any method
pub by_account : (m : Method) (accounts shorts : List ℕ) (room : ℕ) → list_verdict_for m accounts accounts shorts room ≡ list_verdict_for m (ordered_by m accounts accounts) accounts shorts room
by_account Method.Wheel accounts shorts room = refl
by_account Method.ProRata accounts shorts room = refl
by_account Method.Lottery accounts shorts room = refl
by_account Method.RemainderDraw accounts shorts room = refl

-- the list's rows, and then the terms', by the T that is handed on
verdict-parts : (s : Series) (room : ℕ) → verdict s room ≡ judged_after (list_verdict_for (method s) (order s) s.accounts s.shorts room) s.terms (length s.shorts)
unfolding verdict rows
verdict-parts s room =
    first-append (list_rows (method s) (order s) s.accounts s.shorts room) (terms_rows s.terms (held s) (length s.shorts)) (held s)
    ∙ handed-on (list_verdict_for (method s) (order s) s.accounts s.shorts room) refl
  where
    below : ℕ → List Row
    below T = terms_rows s.terms T (length s.shorts)

    handed-on : (r : Result ℕ) → list_verdict_for (method s) (order s) s.accounts s.shorts room ≡ r → (r >>= first (below (held s))) ≡ (r >>= (λ T. first (below T) T))
    handed-on (refused n) e = refl
    handed-on (value T) e = ap (λ x. first (below x) T) (value_same (list_rows (method s) (order s) s.accounts s.shorts room) (held s) T e)

-- a list that is judged, and then the terms
pub judged_parts : (s : Series) (room : ℕ) (v list : Result ℕ) → list ≡ list_verdict_for (method s) (order s) s.accounts s.shorts room
    → v ≡ judged_after list s.terms (length s.shorts) → v ≡ verdict s room
judged_parts s room v list e after = after ∙ ap (λ r. judged_after r s.terms (length s.shorts)) e ∙ sym (verdict-parts s room)

-- the list that is handed back, where an output is long enough for it
pub list_of : (shorts : List ℕ) (S room : ℕ) (r : Result· JudgedList Refusal) → length shorts ≤ room → IfOk r (λ l. (l.shorts.now ≡ shorts) × (l.exercised.0 ≡ S)) → IfOk r (ListOf shorts S room)
list_of shorts S room (Ok l) fits h = record { shorts_are = h.0; exercised_is = h.1; fits = rw h.0 fits }
list_of shorts S room (Err n) fits h = tt
