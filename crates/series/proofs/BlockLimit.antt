-- Why the number of blocks has a limit. Up to 1,000,000 blocks mark no contract twice (`wheel_once` of WheelLaws, `wheel_marks_once` of Demand3).
-- With more, what rounding at the sixth place adds to each skip can add up to a contract, and the wheel comes round before its last block.
use Prim.Native.Nat.{ℕ, zero, suc, ◌+◌, ◌-◌, ◌*◌, ◌/◌, ◌%◌, ◌≤◌, ◌<◌}
use mathlib.Core.Path.{◌≡◌, refl, sym, ap, ap₂, ◌∙◌}
use mathlib.Core.Bool.{true}
use mathlib.Core.List.{List, ◌++◌, append_assoc}
use native.Mathlib.Omega.{arith}
use native.Mathlib.Nat.{zero-add, suc-add}
use Rattle.series.specs.Places.{steps, marked, OnWheel}
use Rattle.series.specs.Wheel.{ONE, blocks, interval, wheel_marks}
use Rattle.series.specs.Refusals.{too_many_blocks}
use Rattle.series.proofs.PlaceLaws.{up_from, places_at, places_append, steps-turn, within_yes, marked_append}
use Rattle.series.proofs.WheelLaws.{offsets, BlockSum, blocks_are, wheel_offsets, wheel_places}

-- the offsets of the first j blocks, then those from the next block on: it begins j * I contracts and the whole contracts of j skips after a
pub block_begins : (I k l j n a r : ℕ) → r < ONE → offsets I k l (j + n) a r ≡ offsets I k 0 j a r ++ offsets I k l n (a + j * I + (j * k + r) / ONE) ((j * k + r) % ONE)
unfolding offsets up_from
block_begins I k l zero n a r h = ap (λ m. offsets I k l m a r) (zero-add n) ∙ ap₂ (offsets I k l n) (omega arith) (omega arith)
block_begins I k l (suc j) n a r h =
    let a' : ℕ = a + I + (k + r) / ONE in
    let r' : ℕ = (k + r) % ONE in
    let begins : a' + j * I + (j * k + r') / ONE ≡ a + suc j * I + (suc j * k + r) / ONE = omega arith in
    let reserve : (j * k + r') % ONE ≡ (suc j * k + r) % ONE = omega arith in
    ap (λ m. offsets I k l m a r) (suc-add j n) ∙
    ap (up_from a I ++◌) (block_begins I k l j n a' r' (omega arith) ∙ ap (offsets I k 0 j a' r' ++◌) (ap₂ (offsets I k l n) begins reserve)) ∙
    sym (append_assoc (up_from a I) (offsets I k 0 j a' r') (offsets I k l n (a + suc j * I + (suc j * k + r) / ONE) ((suc j * k + r) % ONE)))

-- one block, and then blocks, mark the contract at which they begin
run-first : (T n a m p : ℕ) → 0 < n → steps T a p ≡ suc m → 1 ≤ marked m (suc m) (places_at T (up_from a n) p)
unfolding up_from places_at marked
run-first T zero a m p h e = absurd (omega arith)
run-first T (suc n) a m p h e = omega (arith, within_yes m (suc m) (steps T a p) (omega arith) (omega arith))

blocks-first : (T I k l n a r m p : ℕ) → 0 < I → 0 < l + n → steps T a p ≡ suc m → 1 ≤ marked m (suc m) (places_at T (offsets I k l n a r) p)
unfolding offsets
blocks-first T I k l zero a r m p hi some e = run-first T l a m p (omega arith) e
blocks-first T I k l (suc n) a r m p hi some e =
    let after : List ℕ = offsets I k l n (a + I + (k + r) / ONE) ((k + r) % ONE) in
    rw (places_append T (up_from a I) after p, marked_append m (suc m) (places_at T (up_from a I) p) (places_at T after p)) (omega (arith, run-first T I a m p hi e))

-- ROUND TO THE START: where a block after the first begins T contracts after starting place m + 1, contract m + 1 is marked twice
pub round_twice : (I T S j m : ℕ) → 0 < I → 0 < S → 0 < j → j < blocks I S → j * I + j * interval I T (blocks I S) / ONE ≡ T → m < T → 2 ≤ marked m (suc m) (wheel_marks I T S (suc m))
unfolding wheel_offsets steps
round_twice I T S j m hi hs hj before-end turn on =
    let k : ℕ = interval I T (blocks I S) in
    let n : ℕ = blocks I S - 1 - j in
    let l : ℕ = S - I * (blocks I S - 1) in
    let b : BlockSum I S (blocks I S - 1) = blocks_are I S hi hs in
    let o : ℕ = 0 + j * I + (j * k + 0) / ONE in
    let whole : o ≡ T = omega arith in
    let all : blocks I S - 1 ≡ j + n = omega arith in
    let first : List ℕ = offsets I k 0 j 0 0 in
    let rest : List ℕ = offsets I k l n o ((j * k + 0) % ONE) in
    let parts : wheel_offsets I T S ≡ first ++ rest = ap (λ c. offsets I k l c 0 0) all ∙ block_begins I k l j n 0 0 (omega arith) in
    let again : steps T o (suc m) ≡ suc m = ap (λ c. steps T c (suc m)) whole ∙ steps-turn T (suc m) (record { low = omega arith; high = on }) in
    rw (wheel_places I T S (suc m), parts, places_append T first rest (suc m), marked_append m (suc m) (places_at T first (suc m)) (places_at T rest (suc m)))
    (omega (arith, blocks-first T I k 0 j 0 0 m (suc m) hi (omega arith) refl, blocks-first T I k l n o ((j * k + 0) % ONE) m (suc m) hi (omega (arith, b.above)) again))

-- all that `wheel_once` asks but the limit on blocks, and contract m + 1 marked twice from starting place p
pub record MarkedTwice (I T S p m : ℕ) : Type 0 where
  pub part : S < T
  pub start : OnWheel T p
  pub contract : m < T
  pub twice : 2 ≤ marked m (suc m) (wheel_marks I T S p)

-- 9,999,995 contracts in blocks of 1 are more blocks than there may be: such a call meets 24
pub blocks-above : too_many_blocks 1 10000000 9999995 ≡ true
unfolding too_many_blocks blocks
blocks-above = refl

-- 10,000,000 / 9,999,995 is 1.0000005.., rounded up to 1.000001: a skip of one millionth
skip : interval 1 10000000 (blocks 1 9999995) ≡ 1
unfolding interval blocks
skip = refl

-- after 9,999,991 blocks 9 contracts are skipped, and the next block begins at the starting place
round : 9999991 * 1 + 9999991 * interval 1 10000000 (blocks 1 9999995) / ONE ≡ 10000000
round = ap (λ k. 9999991 * 1 + 9999991 * k / ONE) skip

-- TWICE: with increment 1, 10,000,000 contracts and 9,999,995 of them exercised, the contract at any starting place is marked twice
pub marked_twice : (m : ℕ) → m < 10000000 → MarkedTwice 1 10000000 9999995 (suc m) m
unfolding blocks
marked_twice m on =
    record {
      part = omega arith;
      start = record { low = omega arith; high = on };
      contract = on;
      twice = round_twice 1 10000000 9999995 9999991 m (omega arith) (omega arith) (omega arith) (omega arith) round on;
    }
