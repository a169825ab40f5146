-- A number reads back from its digits, with zeros in front of them or without.
use Prim.Native.Nat.{ℕ, zero, suc, ◌+◌, ◌*◌, ◌/◌, ◌%◌, ◌^◌, ◌≤◌, ◌<◌}
use mathlib.Core.Path.{◌≡◌, refl, ap, ◌∙◌}
use mathlib.Core.Bool.{true}
use mathlib.Core.List.{List, [], ◌∷◌, ◌++◌, append-nil}
use native.Mathlib.Omega.{arith}
use native.Mathlib.Nat.{pow-suc}
use native.Mathlib.Decide.{dec_lt}
use borrow.Author.Tests.{le-leb}
use lib.ListN.{length, replicate, length-append, length-replicate}
use Rattle.series.specs.Results.{value}
use Rattle.text_rules.specs.Fields.{Text, ends, field_by}
use Rattle.text_rules.specs.Numbers.{LARGEST, MOST_DIGITS, digit, digits, amount_from, amount, number, decimal_in, decimal}
use Rattle.text_rules.proofs.FieldLaws.{prefixed, prefixed_nil, prefixed_prefixed, field_byte, field_end, digits_read, and-true-parts, ends-digit, digits_append, amount-more}
use Rattle.text_rules.proofs.DecimalLaws.{decimal-small, decimal_large, digits-some}

-- ---- the digits of a number are digits

digit_is : (d : ℕ) → d < 10 → digit (48 + d) ≡ true
unfolding digit
digit_is d lt = rw (le-leb 48 (48 + d) (omega arith), le-leb (48 + d) 57 (omega arith))

digits-one : (d : ℕ) → d < 10 → digits ((48 + d) ∷ []) ≡ true
unfolding digits
digits-one d lt = rw (digit_is d lt)

digits_in : (k n : ℕ) → digits (decimal_in k n) ≡ true
unfolding decimal_in digits
digits_in zero n = refl
digits_in (suc k) n = go (digits_in k (n / 10)) (dec_lt n 10)
  where
    go : digits (decimal_in k (n / 10)) ≡ true → Dec (n < 10) → digits (decimal_in (suc k) n) ≡ true
    go h (yes lt) = rw (decimal-small k n lt) (digits-one n lt)
    go h (no ge) =
        let le : 10 ≤ n = omega arith in
        rw (decimal_large k n le, digits_append, h) (digits-one (n % 10) (omega arith))

-- ---- they stand for it

amount_in : (k n : ℕ) → n < 10 ^ k → amount (decimal_in k n) ≡ n
unfolding decimal_in amount amount_from
amount_in zero n lt = omega arith
amount_in (suc k) n lt = go (amount_in k (n / 10)) (dec_lt n 10)
  where
    go : (n / 10 < 10 ^ k → amount (decimal_in k (n / 10)) ≡ n / 10) → Dec (n < 10) → amount (decimal_in (suc k) n) ≡ n
    go h (yes small) = rw (decimal-small k n small) (omega arith)
    go h (no ge) =
        let le : 10 ≤ n = omega arith in
        let e : 10 ^ suc k ≡ 10 ^ k * 10 = pow-suc 10 k in
        rw (decimal_large k n le, amount-more, h (omega arith)) (omega arith)

-- ---- so a number reads back, with zeros in front or without

-- so many zeros in front of digits
abbrev pub padded : ℕ → List ℕ → List ℕ
padded zeros f = replicate zeros 48 ++ f

padded_digits : (zeros : ℕ) (f : List ℕ) → digits (padded zeros f) ≡ digits f
unfolding digits digit
padded_digits zero f = refl
padded_digits (suc k) f = padded_digits k f

padded_amount : (zeros : ℕ) (f : List ℕ) → amount (padded zeros f) ≡ amount f
unfolding amount amount_from
padded_amount zero f = refl
padded_amount (suc k) f = padded_amount k f

pub padded_length : (zeros : ℕ) (f : List ℕ) → length (padded zeros f) ≡ zeros + length f
padded_length zeros f = length-append (replicate zeros 48) f ∙ ap (◌+ length f) (length-replicate zeros 48)

-- a spelling of a number has digits only
pub spelling_digits : (zeros n : ℕ) → digits (padded zeros (decimal n)) ≡ true
unfolding decimal
spelling_digits zeros n = padded_digits zeros (decimal n) ∙ digits_in 10 n

-- any spelling of a number within ten digits reads as that number
pub spelling_reads : (zeros n : ℕ) → n ≤ LARGEST → length (padded zeros (decimal n)) ≤ MOST_DIGITS → number (padded zeros (decimal n)) ≡ value n
unfolding decimal
spelling_reads zeros n fits few =
    let f : List ℕ = padded zeros (decimal n) in
    digits_read f n (spelling_digits zeros n) (omega (arith, padded_length zeros (decimal n), digits-some n)) few
    (padded_amount zeros (decimal n) ∙ amount_in 10 n (omega arith)) fits

-- digits in front of a text belong to its first field
field-digits : (c : ℕ) (f s : Text) → digits f ≡ true → field_by c (f ++ s) ≡ prefixed f (field_by c s)
unfolding digits
field-digits c [] s e = prefixed_nil (field_by c s)
field-digits c (b ∷ f) s e =
    let both = and-true-parts (digit b) (digits f) e in
    field_byte c b (f ++ s) (ends-digit b both.0) ∙ ap (prefixed (b ∷ [])) (field-digits c f s both.1) ∙ prefixed_prefixed (b ∷ []) f (field_by c s)

-- digits and the byte that ends them are a field
pub field-spelled : (c : ℕ) (f s : Text) → ends c ≡ true → digits f ≡ true → field_by c (f ++ (c ∷ s)) ≡ value (record { found = f; rest = s })
unfolding prefixed
field-spelled c f s e only =
    field-digits c f (c ∷ s) only ∙ ap (prefixed f) (field_end c s e) ∙ ap (λ (g : Text). value (record { found = g; rest = s })) (append-nil f)
