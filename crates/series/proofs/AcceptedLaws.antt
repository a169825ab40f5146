-- What an accepted series has: the rows of the table that do not apply, as facts; and what acceptance does not depend on.
use Prim.Native.Nat.{ℕ, ◌+◌, ◌≤◌, ◌<◌}
use mathlib.Core.Path.{◌≡◌, refl, sym, ap, ap₂, subst, ◌∙◌}
use mathlib.Core.Bool.{Bool, true, false, ◌||◌, cond}
use mathlib.Core.List.{List, [], ◌∷◌, ◌++◌, append-nil}
use native.Mathlib.Omega.{arith}
use native.Mathlib.Decide.{dec_lt}
use lib.Dec.{eqb, ltb}
use lib.ListN.{length}
use borrow.Author.Tests.{lt-ltb, ltb-false, eqb-false, eqb-true, not-false}
use Rattle.series.specs.Results.{value}
use Rattle.series.specs.Places.{total, OnWheel}
use Rattle.series.specs.Series.{Series, MOST_POSITIONS, MOST_CONTRACTS, method, exercised, increment, held, redrawn, ordered_by, order}
use Rattle.series.specs.Wheel.{MOST_INCREMENT, MOST_BLOCKS, blocks}
use Rattle.series.specs.Refusals.{Row, NoneApplies, stands_in, without, length_rows, room_rows, position_rows, exercised_rows, outside, too_many_blocks, increment_rows, undrawn, draw_rows, then_draw_rows, terms_rows, list_rows, rows, list_verdict, Accepted, first, verdict}
use Rattle.series.specs.declared.Method.{Method}
use Rattle.series.specs.declared.Terms.{Terms}
use Rattle.series.proofs.RowLaws.{value_passed, passed_append}

pub positive : {n : ℕ} → (n ≡ 0 → ⊥) → 0 < n
positive {n} h = elim (dec_lt 0 n) [ yes l ↦ l | no g ↦ absurd (h (omega arith)) ]

-- neither part of a test that fails holds
pub or-false : (a b : Bool) → (a || b) ≡ false → (a ≡ false) × (b ≡ false)
or-false false b h = (refl, h)
or-false true b h = let z : ◌≡◌ {A = ℕ} 0 1 = cc in absurd (omega arith)

pub not_outside : (most n : ℕ) → outside most n ≡ false → OnWheel most n
unfolding outside
not_outside most n h =
    let parts = or-false (eqb n 0) (ltb most n) h in
    record { low = positive (eqb-false n 0 parts.0); high = ltb-false most n parts.1 }

-- the blocks of an increment of 1 or more are not too many where S is less than T
few-enough : (I T S : ℕ) → too_many_blocks I T S ≡ false → S < T → blocks I S ≤ MOST_BLOCKS
unfolding too_many_blocks
few-enough I T S h less = ltb-false MOST_BLOCKS (blocks I S) (rw (lt-ltb S T less) at h)

-- what an accepted series has under W of its increment
pub record IncrementFacts (s : Series) : Type 0 where
  pub some : 0 < increment s
  pub most : increment s ≤ MOST_INCREMENT
  pub few_blocks : exercised s < held s → blocks (increment s) (exercised s) ≤ MOST_BLOCKS

-- the facts of an accepted series
pub record Facts (s : Series) : Type 0 where
  pub lengths : length s.accounts ≡ length s.shorts
  pub ordered : length (order s) ≡ length s.shorts
  pub few : length s.shorts ≤ MOST_POSITIONS
  pub some : 0 < length s.shorts
  pub total_some : 0 < held s
  pub total_most : held s ≤ MOST_CONTRACTS
  pub exercised_some : 0 < exercised s
  pub exercised_most : exercised s ≤ held s
  pub by_increment : method s ≡ Method.Wheel → IncrementFacts s

-- ---- rows without those of some numbers

pub without-append : (ns : List ℕ) (xs ys : List Row) → without ns (xs ++ ys) ≡ without ns xs ++ without ns ys
unfolding without
without-append ns [] ys = refl
without-append ns (x ∷ xs) ys = step (stands_in x.number ns) (without-append ns xs ys)
  where
    step : (b : Bool) → without ns (xs ++ ys) ≡ without ns xs ++ without ns ys → cond b (without ns (xs ++ ys)) (x ∷ without ns (xs ++ ys)) ≡ cond b (without ns xs) (x ∷ without ns xs) ++ without ns ys
    step true h = h
    step false h = ap (x ∷◌) h

-- what is left out of rows that all fail leaves rows that all fail
pub without_passed : (ns : List ℕ) (xs : List Row) → NoneApplies xs → NoneApplies (without ns xs)
unfolding without NoneApplies
without_passed ns [] h = tt
without_passed ns (x ∷ xs) h = step (stands_in x.number ns) (without_passed ns xs h.1)
  where
    step : (b : Bool) → NoneApplies (without ns xs) → NoneApplies (cond b (without ns xs) (x ∷ without ns xs))
    step true k = k
    step false k = (h.0, k)

-- none of the positions' numbers is left out
pub record KeepsPositions (ns : List ℕ) : Type 0 where
  pub five : stands_in 5 ns ≡ false
  pub nineteen : stands_in 19 ns ≡ false
  pub six : stands_in 6 ns ≡ false
  pub seven : stands_in 7 ns ≡ false

pub without-positions : (ns : List ℕ) → KeepsPositions ns → (m : Method) (earlier : List ℕ) (before sum : ℕ) (order accounts shorts : List ℕ)
    → without ns (position_rows m earlier before sum order accounts shorts) ≡ position_rows m earlier before sum order accounts shorts
unfolding without position_rows
without-positions ns keeps m earlier before sum [] rest hs = refl
without-positions ns keeps m earlier before sum (k ∷ ks) [] hs = refl
without-positions ns keeps m earlier before sum (k ∷ ks) (a ∷ rest) [] = refl
without-positions ns keeps m earlier before sum (k ∷ ks) (a ∷ rest) (h ∷ hs) =
    rw (keeps.five, keeps.nineteen, keeps.six, keeps.seven, without-positions ns keeps m (a ∷ earlier) k (sum + h) ks rest hs)

-- a list alone is judged by its lengths and its positions
pub list_verdict_lem : (m : Method) (codes accounts shorts : List ℕ)
    → list_verdict m codes accounts shorts ≡ first (length_rows (ordered_by m codes accounts) accounts shorts ++ position_rows m [] 0 0 (ordered_by m codes accounts) accounts shorts) (total shorts)
unfolding list_verdict list_rows length_rows room_rows without stands_in
list_verdict_lem m codes accounts shorts =
    ap (λ zs. first (length_rows (ordered_by m codes accounts) accounts shorts ++ zs) (total shorts))
    (without-positions (4 ∷ []) (record { five = refl; nineteen = refl; six = refl; seven = refl }) m [] 0 0 (ordered_by m codes accounts) accounts shorts)

-- ---- what an accepted series has

draw-left : (t : Terms) (T : ℕ) → without (4 ∷ 10 ∷ []) (draw_rows t T) ≡ []
unfolding draw_rows without stands_in
draw-left t T = by_cases t.method refl
  where
    by_cases : (m : Method) → t.method ≡ m → without (4 ∷ 10 ∷ []) (draw_rows t T) ≡ []
    by_cases Method.Wheel e = rw e refl
    by_cases Method.ProRata e = rw e refl
    by_cases Method.Lottery e = rw e refl
    by_cases Method.RemainderDraw e = rw e refl

then_draw_left : (t : Terms) (T n : ℕ) → without (4 ∷ 10 ∷ []) (then_draw_rows t T n) ≡ []
unfolding then_draw_rows without
then_draw_left t T n = step (undrawn t T n)
  where
    step : (b : Bool) → without (4 ∷ 10 ∷ []) (cond b [] (draw_rows t T)) ≡ []
    step true = refl
    step false = draw-left t T

increment-left : (t : Terms) (T : ℕ) → without (4 ∷ 10 ∷ []) (increment_rows t T) ≡ increment_rows t T
unfolding increment_rows without stands_in
increment-left t T = by_cases t.method refl
  where
    by_cases : (m : Method) → t.method ≡ m → without (4 ∷ 10 ∷ []) (increment_rows t T) ≡ increment_rows t T
    by_cases Method.Wheel e = rw e refl
    by_cases Method.ProRata e = rw e refl
    by_cases Method.Lottery e = rw e refl
    by_cases Method.RemainderDraw e = rw e refl

-- of the terms' rows the exercised and the increment are left
terms-left : (t : Terms) (T n : ℕ) → without (4 ∷ 10 ∷ []) (terms_rows t T n) ≡ exercised_rows T t.exercised.0 ++ increment_rows t T
unfolding without stands_in terms_rows exercised_rows
terms-left t T n =
    ap (λ zs. exercised_rows T t.exercised.0 ++ zs)
    (without-append (4 ∷ 10 ∷ []) (increment_rows t T) (then_draw_rows t T n) ∙ ap₂ (λ xs ys. xs ++ ys) (increment-left t T) (then_draw_left t T n) ∙ append-nil (increment_rows t T))

-- the rows that are left: neither the draw nor the room is in them
rows_left : (s : Series) (room : ℕ)
    → without (4 ∷ 10 ∷ []) (rows s room) ≡ length_rows (order s) s.accounts s.shorts ++ (position_rows (method s) [] 0 0 (order s) s.accounts s.shorts ++ (exercised_rows (held s) (exercised s) ++ increment_rows s.terms (held s)))
unfolding without stands_in rows list_rows length_rows room_rows
rows_left s room =
    let list : List Row = position_rows (method s) [] 0 0 (order s) s.accounts s.shorts in
    let kept : KeepsPositions (4 ∷ 10 ∷ []) = record { five = refl; nineteen = refl; six = refl; seven = refl } in
    ap (λ zs. length_rows (order s) s.accounts s.shorts ++ zs)
    (without-append (4 ∷ 10 ∷ []) list (terms_rows s.terms (held s) (length s.shorts))
    ∙ ap₂ (λ xs ys. xs ++ ys) (without-positions (4 ∷ 10 ∷ []) kept (method s) [] 0 0 (order s) s.accounts s.shorts) (terms-left s.terms (held s) (length s.shorts)))

-- what is accepted depends on neither the draw nor the room
pub accepted_any : (s : Series) (d room room2 : ℕ) → Accepted s room → Accepted (record { terms = redrawn d s.terms; codes = s.codes; accounts = s.accounts; shorts = s.shorts }) room2
unfolding Accepted redrawn increment_rows
accepted_any s d room room2 ok = subst NoneApplies (rows_left s room ∙ sym (rows_left (record { terms = redrawn d s.terms; codes = s.codes; accounts = s.accounts; shorts = s.shorts }) room2)) ok

-- positions that no row turns away have a sum of at most 10,000,000
pub positions-total : (m : Method) (earlier : List ℕ) (before sum : ℕ) (order accounts shorts : List ℕ) → length accounts ≡ length shorts → length order ≡ length shorts → sum ≤ MOST_CONTRACTS
    → NoneApplies (position_rows m earlier before sum order accounts shorts) → sum + total shorts ≤ MOST_CONTRACTS
unfolding position_rows total NoneApplies
positions-total m earlier before sum ks rest [] la lk s h = omega arith
positions-total m earlier before sum [] rest (x ∷ hs) la lk s h = absurd (omega arith)
positions-total m earlier before sum (k ∷ ks) [] (x ∷ hs) la lk s h = absurd (omega arith)
positions-total m earlier before sum (k ∷ ks) (a ∷ rest) (x ∷ hs) la lk s h =
    omega (arith, positions-total m (a ∷ earlier) k (sum + x) ks rest hs (omega arith) (omega arith) (ltb-false MOST_CONTRACTS (sum + x) h.1.1.1.0) h.1.1.1.1)

-- no row of the positions applies to an accepted series
pub positions_pass : (s : Series) (room : ℕ) → Accepted s room → NoneApplies (position_rows (method s) [] 0 0 (order s) s.accounts s.shorts)
unfolding Accepted NoneApplies length_rows
positions_pass s room ok =
    let left = subst NoneApplies (rows_left s room) ok in
    (passed_append (position_rows (method s) [] 0 0 (order s) s.accounts s.shorts) (exercised_rows (held s) (exercised s) ++ increment_rows s.terms (held s)) left.1.1.1).0

-- under W the rows of the increment tell what it is
increment_facts : (s : Series) → NoneApplies (increment_rows s.terms (held s)) → method s ≡ Method.Wheel → IncrementFacts s
unfolding increment_rows NoneApplies
increment_facts s passed w =
    let here = rw w at passed in
    let on = not_outside MOST_INCREMENT (increment s) here.0 in
    record { some = on.low; most = on.high; few_blocks = few-enough (increment s) (held s) (exercised s) here.1.0 }

pub accepted_facts : (s : Series) (room : ℕ) → Accepted s room → Facts s
unfolding Accepted NoneApplies length_rows exercised_rows
accepted_facts s room ok =
    let left = subst NoneApplies (rows_left s room) ok in
    let list = passed_append (position_rows (method s) [] 0 0 (order s) s.accounts s.shorts) (exercised_rows (held s) (exercised s) ++ increment_rows s.terms (held s)) left.1.1.1 in
    let even = or-false _ _ left.0 in
    let same : length s.accounts ≡ length s.shorts = eqb-true _ _ (not-false _ even.0) in
    let beside : length (order s) ≡ length s.shorts = eqb-true _ _ (not-false _ even.1) in
    let some-exercised : 0 < exercised s = positive (eqb-false _ _ list.1.0) in
    let most-exercised : exercised s ≤ held s = ltb-false _ _ list.1.1.0 in
    record {
      lengths = same;
      ordered = beside;
      few = ltb-false _ _ left.1.0;
      some = positive (eqb-false _ _ left.1.1.0);
      total_some = omega arith;
      total_most = omega (arith, positions-total (method s) [] 0 0 (order s) s.accounts s.shorts same beside (omega arith) list.0);
      exercised_some = some-exercised;
      exercised_most = most-exercised;
      by_increment = increment_facts s list.1.1.1;
    }

-- a call that meets no refusal is of an accepted series
pub verdict_accepted : (s : Series) (room T : ℕ) → verdict s room ≡ value T → Accepted s room
unfolding verdict Accepted
verdict_accepted s room T h = without_passed (4 ∷ 10 ∷ []) (rows s room) (value_passed (rows s room) (held s) T h)
