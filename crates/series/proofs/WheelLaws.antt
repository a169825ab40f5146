-- The wheel's marks as places at offsets, which rise and stay below T.
use Prim.Native.Nat.{ℕ, zero, suc, ◌+◌, ◌-◌, ◌*◌, ◌/◌, ◌%◌, ◌≤◌, ◌<◌}
use mathlib.Core.Path.{◌≡◌, refl, sym, ap, ap₂, subst, ◌∙◌}
use mathlib.Core.Bool.{Bool, true, false, cond}
use mathlib.Core.List.{List, ◌++◌}
use native.Mathlib.Omega.{arith}
use native.Mathlib.Nat.{le_refl, mul-le-mul_left, div-add-mod, mul_comm, mul-div-le, lt-mul-div-succ}
use native.Mathlib.Decide.{dec_lt, dec_le}
use lib.Dec.{eqb}
use lib.ListN.{length, get_or, length-append}
use borrow.Author.Tests.{eq-eqb, ne_eqb}
use Rattle.series.specs.Places.{total, steps, marked, amounts, OnWheel, over_places}
use Rattle.series.specs.Wheel.{ONE, blocks, interval, marks, wheel_marks, wheel}
use Rattle.series.proofs.PlaceLaws.{steps-add, up_from, length-up_from, places_at, length-places, places_append, run_places, Rising, rising_up_from, rising_append, rising_more, over_cong, over_const, places_sum, places_share, places_most, places_once, length-amounts}

-- the offsets that n blocks of I and a last one of l mark, from offset a on, with skip interval k and reserve r
unfoldable pub offsets : ℕ → ℕ → ℕ → ℕ → ℕ → ℕ → List ℕ
offsets I k l zero a r = up_from a l
offsets I k l (suc n) a r = up_from a I ++ offsets I k l n (a + I + (k + r) / ONE) ((k + r) % ONE)

pub marks_places : (T I k l n a p r : ℕ) → marks T I k l n (steps T a p) r ≡ places_at T (offsets I k l n a r) p
unfolding marks offsets
marks_places T I k l zero a p r = run_places T l a p
marks_places T I k l (suc n) a p r =
    let at_next : steps T ((k + r) / ONE) (steps T I (steps T a p)) ≡ steps T (a + I + (k + r) / ONE) p = ap (steps T ((k + r) / ONE)) (sym (steps-add T a I p)) ∙ sym (steps-add T (a + I) ((k + r) / ONE) p) in
    ap₂ ◌++◌ (run_places T I a p) (ap (λ q. marks T I k l n q ((k + r) % ONE)) at_next ∙ marks_places T I k l n (a + I + (k + r) / ONE) p ((k + r) % ONE)) ∙
    sym (places_append T (up_from a I) (offsets I k l n (a + I + (k + r) / ONE) ((k + r) % ONE)) p)

pub length-offsets : (I k l n a r : ℕ) → length (offsets I k l n a r) ≡ n * I + l
unfolding offsets
length-offsets I k l zero a r = length-up_from a l ∙ omega arith
length-offsets I k l (suc n) a r =
    let a' : ℕ = a + I + (k + r) / ONE in
    let r' : ℕ = (k + r) % ONE in
    length-append (up_from a I) (offsets I k l n a' r') ∙ omega (arith, length-up_from a I, length-offsets I k l n a' r')

-- offset and reserve together are one number of millionths, which grows by I contracts and k at each block and skip
pub rising_offsets : (T I k l n a r : ℕ) → a * ONE + r + n * (I * ONE + k) + l * ONE < suc T * ONE → Rising a (offsets I k l n a r) T
unfolding offsets
rising_offsets T I k l zero a r h = rising_up_from a l T (omega arith)
rising_offsets T I k l (suc n) a r h =
    let a' : ℕ = a + I + (k + r) / ONE in
    let r' : ℕ = (k + r) % ONE in
    let same : a' * ONE + r' ≡ a * ONE + r + (I * ONE + k) = omega (arith, div-add-mod (k + r) ONE) in
    rising_append a I (offsets I k l n a' r') T (rising_more (a + I) a' (offsets I k l n a' r') T (omega arith) (rising_offsets T I k l n a' r' (omega arith)))

-- S lies above n whole blocks and within one more
pub record BlockSum (I S n : ℕ) : Type 0 where
  pub is : blocks I S ≡ suc n
  pub above : I * n < S
  pub most : S ≤ I * n + I

block_count : (I S q : ℕ) → 0 < I → 0 < S → blocks I S ≡ q → I * q ≤ S + (I - 1) → S + (I - 1) < I * (q + 1) → BlockSum I S (q - 1)
block_count I S zero hi hs e low high = absurd (omega arith)
block_count I S (suc n) hi hs e low high =
    let m : suc n - 1 ≡ n = omega arith in
    rw m (record { is = e; above = omega arith; most = omega arith })

pub blocks_are : (I S : ℕ) → 0 < I → 0 < S → BlockSum I S (blocks I S - 1)
unfolding blocks
blocks_are I S hi hs = block_count I S (blocks I S) hi hs refl (mul-div-le (S + (I - 1)) I) (lt-mul-div-succ (S + (I - 1)) hi)

-- the last mark stays below T, in millionths: rounding up at the sixth place adds less than one contract in ONE blocks
span_fits : (T I S n q : ℕ) → I * n < S → S ≤ I * n + I → S < T → n < ONE → 2 * suc n * q ≤ 2 * (T * ONE) + suc n → n * (I * ONE + (q - I * ONE)) + (S - I * n) * ONE < suc T * ONE
span_fits T I S n q low high less few near =
    elim (dec_le q (I * ONE)) [
      | yes z ↦
          let e : n * (I * ONE + (q - I * ONE)) ≡ n * (I * ONE) = ap (n *◌) (omega arith) in
          omega arith
      | no g ↦
          let e : n * (I * ONE + (q - I * ONE)) ≡ n * q = ap (n *◌) (omega arith) in
          omega arith
    ]

le_by_factor : (x n q : ℕ) → 2 * suc n * q ≤ 2 * x + suc n → q ≤ x
le_by_factor x n q h =
    elim (dec_le q x) [
      | yes l ↦ l
      | no g ↦ let m : suc n * suc x ≤ suc n * q = mul-le-mul_left (suc n) (omega arith) in absurd (omega (arith, mul-le-mul_left n (le_refl x)))
    ]

zero-sum : (x y z : ℕ) → x + y < z → 0 + x + y < z
zero-sum x y z h = omega arith

-- the wheel's offsets
unfoldable pub wheel_offsets : ℕ → ℕ → ℕ → List ℕ
wheel_offsets I T S = offsets I (interval I T (blocks I S)) (S - I * (blocks I S - 1)) (blocks I S - 1) 0 0

pub wheel_places : (I T S p : ℕ) → wheel_marks I T S p ≡ places_at T (wheel_offsets I T S) p
unfolding wheel_marks wheel_offsets steps
wheel_places I T S p = marks_places T I (interval I T (blocks I S)) (S - I * (blocks I S - 1)) (blocks I S - 1) 0 p 0

-- a skip interval is at least one contract short of the whole wheel
interval-most : (T n q I : ℕ) → 0 < I → 0 < T → 2 * suc n * q ≤ 2 * (T * ONE) + suc n → q - I * ONE + ONE ≤ T * ONE
interval-most T n q I hi ht near =
    let most : q ≤ T * ONE = le_by_factor (T * ONE) n q near in
    omega arith

pub length-wheel_offsets : (I T S : ℕ) → 0 < I → 0 < S → length (wheel_offsets I T S) ≡ S
unfolding wheel_offsets
length-wheel_offsets I T S hi hs =
    let n : ℕ = blocks I S - 1 in
    let b : BlockSum I S n = blocks_are I S hi hs in
    length-offsets I (interval I T (blocks I S)) (S - I * n) n 0 0 ∙ omega (arith, b.above)

pub rising_wheel_offsets : (I T S : ℕ) → 0 < I → 0 < S → S < T → blocks I S ≤ ONE → Rising 0 (wheel_offsets I T S) T
unfolding wheel_offsets interval
rising_wheel_offsets I T S hi hs less few =
    let n : ℕ = blocks I S - 1 in
    let b : BlockSum I S n = blocks_are I S hi hs in
    let T1 : ℕ = blocks I S in
    let q : ℕ = (2 * (T * ONE) + T1) / (2 * T1) in
    let near : 2 * T1 * q ≤ 2 * (T * ONE) + T1 = mul-div-le (2 * (T * ONE) + T1) (2 * T1) in
    let near-n : 2 * suc n * q ≤ 2 * (T * ONE) + suc n = subst (λ (t : ℕ). 2 * t * q ≤ 2 * (T * ONE) + t) b.is near in
    let fits : n * (I * ONE + (q - I * ONE)) + (S - I * n) * ONE < suc T * ONE = span_fits T I S n q b.above b.most less (omega (arith, b.is)) near-n in
    rising_offsets T I (q - I * ONE) (S - I * n) n 0 0 (zero-sum (n * (I * ONE + (q - I * ONE))) ((S - I * n) * ONE) (suc T * ONE) fits)

pub wheel-whole : (I : ℕ) (hs : List ℕ) (S p : ℕ) → S ≡ total hs → wheel I hs S p ≡ hs
unfolding wheel
wheel-whole I hs S p e = rw (eq-eqb S (total hs) e)

pub wheel_part : (I : ℕ) (hs : List ℕ) (S p : ℕ) → S < total hs → wheel I hs S p ≡ amounts hs (places_at (total hs) (wheel_offsets I (total hs) S) p)
unfolding wheel
wheel_part I hs S p h =
    let e : S ≡ total hs → ⊥ = λ q. omega arith in
    rw (ne_eqb S (total hs) e) (ap (amounts hs) (wheel_places I (total hs) S p))

module _ (I : ℕ) (hs : List ℕ) (S : ℕ) (hi : 0 < I) (some : 0 < S) (most : S ≤ total hs) where
  pub wheel-sum : (p : ℕ) → OnWheel (total hs) p → total (wheel I hs S p) ≡ S
  wheel-sum p on =
      elim (dec_lt S (total hs)) [
        | yes l ↦ ap total (wheel_part I hs S p l) ∙ places_sum hs (wheel_offsets I (total hs) S) p on ∙ length-wheel_offsets I (total hs) S hi some
        | no g ↦ let e : S ≡ total hs = omega arith in ap total (wheel-whole I hs S p e) ∙ sym e
      ]

  pub wheel-most : (S < total hs → blocks I S ≤ ONE) → (p : ℕ) → OnWheel (total hs) p → (i : ℕ) → i < length hs → get_or (wheel I hs S p) i 0 ≤ get_or hs i 0
  wheel-most few p on i h =
      elim (dec_lt S (total hs)) [
        | yes l ↦ rw (wheel_part I hs S p l) (places_most hs (wheel_offsets I (total hs) S) p i on (rising_wheel_offsets I (total hs) S hi some l (few l)) h)
        | no g ↦ rw (wheel-whole I hs S p (omega arith)) (le_refl (get_or hs i 0))
      ]

  pub wheel_share : (i : ℕ) → i < length hs → over_places (total hs) (λ p. get_or (wheel I hs S p) i 0) ≡ get_or hs i 0 * S
  wheel_share i h =
      elim (dec_lt S (total hs)) [
        | yes l ↦
            over_cong (total hs) (λ p. get_or (wheel I hs S p) i 0) (λ p. get_or (amounts hs (places_at (total hs) (wheel_offsets I (total hs) S) p)) i 0) (λ p _. ap (λ xs. get_or xs i 0) (wheel_part I hs S p l)) ∙
            places_share hs (wheel_offsets I (total hs) S) i h ∙
            ap (get_or hs i 0 *◌) (length-wheel_offsets I (total hs) S hi some)
        | no g ↦
            let e : S ≡ total hs = omega arith in
            over_cong (total hs) (λ p. get_or (wheel I hs S p) i 0) (λ _. get_or hs i 0) (λ p _. ap (λ xs. get_or xs i 0) (wheel-whole I hs S p e)) ∙
            over_const (total hs) (get_or hs i 0) ∙
            mul_comm (total hs) (get_or hs i 0) ∙
            ap (get_or hs i 0 *◌) (sym e)
      ]

pub wheel_once : (I T S : ℕ) → 0 < I → 0 < S → S < T → blocks I S ≤ ONE → (p m : ℕ) → OnWheel T p → m < T → marked m (suc m) (wheel_marks I T S p) ≤ 1
wheel_once I T S hi some less few p m on l =
    rw (wheel_places I T S p) (places_once T m p (wheel_offsets I T S) on (rising_wheel_offsets I T S hi some less few) l)

pub interval-short : (I T T1 : ℕ) → 0 < I → 0 < T → 0 < T1 → interval I T T1 + ONE ≤ T * ONE
unfolding interval
interval-short I T T1 hi ht h1 =
    let n : ℕ = T1 - 1 in
    let e : T1 ≡ suc n = omega arith in
    let q : ℕ = (2 * (T * ONE) + T1) / (2 * T1) in
    interval-most T n q I hi ht (subst (λ (t : ℕ). 2 * t * q ≤ 2 * (T * ONE) + t) e (mul-div-le (2 * (T * ONE) + T1) (2 * T1)))

pub length-wheel_marks : (I T S p : ℕ) → 0 < I → 0 < S → length (wheel_marks I T S p) ≡ S
length-wheel_marks I T S p hi hs = ap length (wheel_places I T S p) ∙ length-places T (wheel_offsets I T S) p ∙ length-wheel_offsets I T S hi hs

pub length-wheel : (I : ℕ) (hs : List ℕ) (S p : ℕ) → length (wheel I hs S p) ≡ length hs
unfolding wheel
length-wheel I hs S p = either (eqb S (total hs)) hs (amounts hs (wheel_marks I (total hs) S p)) (length-amounts hs (wheel_marks I (total hs) S p))
  where
    either : (b : Bool) (xs ys : List ℕ) → length ys ≡ length xs → length (cond b xs ys) ≡ length xs
    either true xs ys e = refl
    either false xs ys e = e
