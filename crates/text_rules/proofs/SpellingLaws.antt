-- The spellings of a number: a field that reads as a number is the digits that are written for it, with zeros in front or without, and these digits begin with no zero.
use Prim.Native.Nat.{ℕ, zero, suc, ◌+◌, ◌-◌, ◌*◌, ◌/◌, ◌%◌, ◌^◌, ◌≤◌, ◌<◌}
use mathlib.Core.Path.{◌≡◌, refl, sym, ap, ◌∙◌}
use mathlib.Core.Bool.{Bool, true, false, not, ◌&&◌, false≢true}
use mathlib.Core.List.{List, [], ◌∷◌, ◌++◌, append_assoc, append-nil}
use native.Mathlib.Omega.{arith}
use native.Mathlib.Nat.{add-zero, mul_comm, mul_assoc, mul-le-mul_right, pow-suc, pow-le-pow_right}
use native.Mathlib.Decide.{dec_lt}
use borrow.Author.Tests.{leb-true, not-true, not-false, eqb-false, ne_eqb}
use lib.Dec.{eqb, leb}
use lib.ListN.{length}
use Rattle.series.specs.Results.{value}
use Rattle.series.proofs.ResultLaws.{not_refused}
use Rattle.text_rules.specs.Numbers.{LARGEST, MOST_DIGITS, digit, digits, spelled, amount_from, amount, numeral, number, decimal_in, decimal}
use Rattle.text_rules.proofs.DecimalLaws.{decimal-small, decimal_large, digits-few}
use Rattle.text_rules.proofs.FieldLaws.{digits_read, and-true-parts, digit_bounds}
use Rattle.text_rules.proofs.NumberLaws.{padded, spelling_digits, spelling_reads}

-- ---- a field that reads as a number

-- the digits of a number that goes on with f
digits_go : (k n : ℕ) (f : List ℕ) → 0 < n → digits f ≡ true → decimal_in (k + length f) (amount_from n f) ≡ decimal_in k n ++ f
unfolding amount_from digits
digits_go k n [] pos e = rw (add-zero, append-nil)
digits_go k n (b ∷ f) pos e =
    let both = and-true-parts (digit b) (digits f) e in
    let bounds = digit_bounds b both.0 in
    let n' : ℕ = n * 10 + (b - 48) in
    let large : 10 ≤ n' = omega arith in
    let front : n' / 10 ≡ n = omega arith in
    let last : 48 + n' % 10 ≡ b = omega arith in
    let fuel : k + suc (length f) ≡ suc k + length f = omega arith in
    rw (fuel, digits_go (suc k) n' f (omega arith) both.1, decimal_large k n' large, front, last, append_assoc)

-- digits are zeros, and then the digits of their number
record Stripped (f : List ℕ) : Type 0 where
  zeros : ℕ
  text : f ≡ padded zeros (decimal (amount f))

-- one digit
stripped_one : (b : ℕ) → 48 ≤ b → b ≤ 57 → Stripped (b ∷ [])
unfolding amount amount_from decimal
stripped_one b low high =
    let one : 48 + (0 * 10 + (b - 48)) ≡ b = omega arith in
    record { zeros = 0; text = sym (rw (decimal-small 9 (0 * 10 + (b - 48)) (omega arith), one)) }

-- they begin with no zero
stripped_first : (b : ℕ) (f : List ℕ) → 48 < b → b ≤ 57 → digits f ≡ true → suc (length f) ≤ MOST_DIGITS → Stripped (b ∷ f)
unfolding amount amount_from decimal
stripped_first b f low high only few =
    let m : ℕ = length f in
    let d : ℕ = 0 * 10 + (b - 48) in
    let fuel : 10 ≡ suc (9 - m) + m = omega arith in
    let one : 48 + d ≡ b = omega arith in
    let all : decimal_in (suc (9 - m) + m) (amount_from d f) ≡ b ∷ f
    = rw (digits_go (suc (9 - m)) d f (omega arith) only, decimal-small (9 - m) d (omega arith), one) in
    record { zeros = 0; text = sym (ap (λ (k : ℕ). decimal_in k (amount_from d f)) fuel ∙ all) }

-- they begin with a zero
stripped_zero : (b : ℕ) (f : List ℕ) → b ≡ 48 → Stripped f → Stripped (b ∷ f)
unfolding amount amount_from
stripped_zero b f e h = rw e (record { zeros = suc h.zeros; text = ap (λ (l : List ℕ). 48 ∷ l) h.text })

stripped : (f : List ℕ) → digits f ≡ true → 1 ≤ length f → length f ≤ MOST_DIGITS → Stripped f
unfolding digits
stripped [] e some few = absurd (omega arith)
stripped (b ∷ []) e some few = let bounds = digit_bounds b (and-true-parts (digit b) true e).0 in stripped_one b bounds.0 bounds.1
stripped (b ∷ c ∷ f) e some few =
    let both = and-true-parts (digit b) (digits (c ∷ f)) e in
    go (digit_bounds b both.0) both.1 (stripped (c ∷ f) both.1 (omega arith) (omega arith)) (dec_lt 48 b)
  where
    go : (48 ≤ b) × (b ≤ 57) → digits (c ∷ f) ≡ true → Stripped (c ∷ f) → Dec (48 < b) → Stripped (b ∷ c ∷ f)
    go bounds only h (yes low) = stripped_first b (c ∷ f) low bounds.1 only few
    go bounds only h (no low) = stripped_zero b (c ∷ f) (omega arith) h

-- the field is the digits of the number, which fits 32 bits, with zeros in front or without, ten in all at most
pub record Spells (f : List ℕ) (n : ℕ) : Type 0 where
  pub zeros : ℕ
  pub text : f ≡ padded zeros (decimal n)
  pub few : length f ≤ MOST_DIGITS
  pub fits : n ≤ LARGEST

pub number_is : (f : List ℕ) (n : ℕ) → number f ≡ value n → Spells f n
unfolding number numeral spelled
number_is f n e =
    let p = not_refused (not (numeral f)) 13 (amount f) n e in
    let good = and-true-parts (digits f) (spelled f && leb (amount f) LARGEST) (not-false (numeral f) p.0) in
    let rest = and-true-parts (spelled f) (leb (amount f) LARGEST) good.1 in
    let count = and-true-parts (leb 1 (length f)) (leb (length f) MOST_DIGITS) rest.0 in
    let few : length f ≤ MOST_DIGITS = leb-true (length f) MOST_DIGITS count.1 in
    let fits : amount f ≤ LARGEST = leb-true (amount f) LARGEST rest.1 in
    let z : Stripped f = stripped f good.0 (leb-true 1 (length f) count.0) few in
    record {
      zeros = z.zeros;
      text = z.text ∙ ap (λ (m : ℕ). padded z.zeros (decimal m)) p.1;
      few = few;
      fits = omega (arith, p.1);
    }

-- and each such field reads as the number
pub spells_reads : (f : List ℕ) (n : ℕ) → Spells f n → number f ≡ value n
spells_reads f n so = ap number so.text ∙ spelling_reads so.zeros n so.fits (omega (arith, so.few, ap length so.text))

pub spells_digits : (f : List ℕ) (n : ℕ) → Spells f n → digits f ≡ true
spells_digits f n so = ap digits so.text ∙ spelling_digits so.zeros n

-- the digits that are written are a spelling
pub decimal_spells : (n : ℕ) → n ≤ LARGEST → Spells (decimal n) n
decimal_spells n fits = record { zeros = 0; text = refl; few = digits-few n; fits = fits }

-- ---- the digits that are written begin with no zero

-- at least one digit, and no zero in front of others
pub unpadded : List ℕ → Bool
unpadded [] = false
unpadded (b ∷ []) = true
unpadded (b ∷ c ∷ f) = not (eqb b 48)

-- the first byte is no zero
leading : List ℕ → Bool
leading [] = false
leading (b ∷ f) = not (eqb b 48)

leading-append : (f g : List ℕ) → leading f ≡ true → leading (f ++ g) ≡ true
unfolding leading
leading-append [] g e = let z : ◌≡◌ {A = Bool} false true = e in absurd (false≢true z)
leading-append (b ∷ f) g e = e

leading_in : (k n : ℕ) → 0 < n → n < 10 ^ k → leading (decimal_in k n) ≡ true
unfolding decimal_in leading
leading_in zero n pos lt = absurd (omega arith)
leading_in (suc k) n pos lt = go (leading_in k (n / 10)) (dec_lt n 10)
  where
    go : (0 < n / 10 → n / 10 < 10 ^ k → leading (decimal_in k (n / 10)) ≡ true) → Dec (n < 10) → leading (decimal_in (suc k) n) ≡ true
    go h (yes small) = rw (decimal-small k n small, ne_eqb (48 + n) 48 (omega arith))
    go h (no ge) =
        let le : 10 ≤ n = omega arith in
        let e : 10 ^ suc k ≡ 10 ^ k * 10 = pow-suc 10 k in
        rw (decimal_large k n le) (leading-append (decimal_in k (n / 10)) ((48 + n % 10) ∷ []) (h (omega arith) (omega arith)))

unpadded_leading : (f : List ℕ) → leading f ≡ true → unpadded f ≡ true
unfolding leading unpadded
unpadded_leading [] e = e
unpadded_leading (b ∷ []) e = refl
unpadded_leading (b ∷ c ∷ f) e = e

pub written_unpadded : (n : ℕ) → n ≤ LARGEST → unpadded (decimal n) ≡ true
unfolding unpadded decimal
written_unpadded n fits = go (dec_lt n 10)
  where
    go : Dec (n < 10) → unpadded (decimal_in 10 n) ≡ true
    go (yes small) = rw (decimal-small 9 n small)
    go (no ge) = unpadded_leading (decimal_in 10 n) (leading_in 10 n (omega arith) (omega arith))

-- ---- digits with no zero in front of others read as they did when no leading zero was taken

amount-low : (n : ℕ) (f : List ℕ) → n * 10 ^ length f ≤ amount_from n f
unfolding amount_from
amount-low n [] = omega arith
amount-low n (b ∷ f) =
    let e : n * 10 ^ suc (length f) ≡ n * 10 * 10 ^ length f = rw (pow-suc 10 (length f), mul_comm (10 ^ length f) 10) (sym (mul_assoc n 10 (10 ^ length f))) in
    let more : n * 10 * 10 ^ length f ≤ (n * 10 + (b - 48)) * 10 ^ length f = mul-le-mul_right (10 ^ length f) (omega arith) in
    omega (arith, amount-low (n * 10 + (b - 48)) f)

-- a number that fits, and begins with no zero, has at most nine digits after the first
short-number : (n : ℕ) (f : List ℕ) → 0 < n → amount_from n f ≤ LARGEST → length f ≤ 9
short-number n f pos fits = go (dec_lt 9 (length f))
  where
    go : Dec (9 < length f) → length f ≤ 9
    go (no few) = omega arith
    go (yes many) =
        let big : 10 ^ 10 ≤ 10 ^ length f = pow-le-pow_right {n = 10} (omega arith) many in
        let one : 1 * 10 ^ length f ≤ n * 10 ^ length f = mul-le-mul_right (10 ^ length f) pos in
        absurd (omega (arith, amount-low n f, fits))

pub still_read : (f : List ℕ) → digits f ≡ true → unpadded f ≡ true → amount f ≤ LARGEST → number f ≡ value (amount f)
unfolding unpadded digits amount amount_from
still_read [] only un fits = let bad : ◌≡◌ {A = Bool} false true = un in absurd (false≢true bad)
still_read (b ∷ []) only un fits = digits_read (b ∷ []) (amount (b ∷ [])) only (omega arith) (omega arith) refl fits
still_read (b ∷ c ∷ f) only un fits =
    let low : 48 ≤ b = (digit_bounds b (and-true-parts (digit b) (digits (c ∷ f)) only).0).0 in
    let other : b ≡ 48 → ⊥ = eqb-false b 48 (not-true (eqb b 48) un) in
    let few : length (c ∷ f) ≤ 9 = short-number (0 * 10 + (b - 48)) (c ∷ f) (omega arith) fits in
    digits_read (b ∷ c ∷ f) (amount (b ∷ c ∷ f)) only (omega arith) (omega arith) refl fits
