-- Laws of the first field of a text, and of digits.
use Prim.Native.Nat.{ℕ, ◌+◌, ◌-◌, ◌*◌, ◌≤◌}
use mathlib.Core.Path.{◌≡◌, refl, sym}
use mathlib.Core.Bool.{Bool, true, false, ◌&&◌, false≢true, and_assoc}
use mathlib.Core.List.{[], ◌∷◌, ◌++◌, append_assoc}
use native.Mathlib.Omega.{arith}
use borrow.Author.Tests.{leb-true, le-leb, eq-eqb, ne_eqb}
use lib.Dec.{eqb, leb}
use lib.ListN.{length, drop}
use Rattle.series.specs.Results.{Result, refused, value, ◌>>=◌}
use Rattle.text_rules.specs.Fields.{Text, Read, ends, field, past, field_by}
use Rattle.text_rules.specs.Numbers.{LARGEST, MOST_DIGITS, digit, digits, spelled, amount_from, amount, numeral, number}

-- ---- the first field

-- the field f in front of what is read
unfoldable pub prefixed : Text → Result (Read Text) → Result (Read Text)
prefixed f (refused n) = refused n
prefixed f (value x) = value (record { found = f ++ x.found; rest = x.rest })

pub prefixed_nil : (r : Result (Read Text)) → r ≡ prefixed [] r
unfolding prefixed
prefixed_nil (refused n) = refl
prefixed_nil (value x) = refl

pub prefixed_prefixed : (f g : Text) (r : Result (Read Text)) → prefixed f (prefixed g r) ≡ prefixed (f ++ g) r
unfolding prefixed
prefixed_prefixed f g (refused n) = refl
prefixed_prefixed f g (value x) = rw append_assoc

pub field_byte : (c b : ℕ) (s : Text) → ends b ≡ false → field_by c (b ∷ s) ≡ prefixed (b ∷ []) (field_by c s)
unfolding field_by field prefixed
field_byte c b s e = rw e (go (past c (drop (length (field s)) s)))
  where
    go : (r : Result Text) → (r >>= λ rest. value (record { found = b ∷ field s; rest = rest })) ≡ prefixed (b ∷ []) (r >>= λ rest. value (record { found = field s; rest = rest }))
    go (refused n) = refl
    go (value rest) = refl

-- the byte c ends the field
pub field_end : (c : ℕ) (s : Text) → ends c ≡ true → field_by c (c ∷ s) ≡ value (record { found = []; rest = s })
unfolding field_by field past
field_end c s e = rw (e, eq-eqb c c refl)

-- another byte ends it
pub field_other : (c b : ℕ) (s : Text) → ends b ≡ true → eqb b c ≡ false → field_by c (b ∷ s) ≡ refused 13
unfolding field_by field past
field_other c b s e ne = rw (e, ne)

-- nothing ends it
pub field_none : (c : ℕ) → field_by c [] ≡ refused 13
unfolding field_by field past
field_none c = refl

-- ---- digits

pub digits_append : (f g : Text) → digits (f ++ g) ≡ (digits f && digits g)
unfolding digits
digits_append [] g = refl
digits_append (b ∷ f) g = rw (digits_append f g) (sym (and_assoc (digit b) (digits f) (digits g)))

amount-append : (n : ℕ) (f g : Text) → amount_from n (f ++ g) ≡ amount_from (amount_from n f) g
unfolding amount_from
amount-append n [] g = refl
amount-append n (b ∷ f) g = amount-append (n * 10 + (b - 48)) f g

-- the number of a field grows by a digit
pub amount-more : (f : Text) (b : ℕ) → amount (f ++ (b ∷ [])) ≡ amount f * 10 + (b - 48)
unfolding amount amount_from
amount-more f b = amount-append 0 f (b ∷ [])

-- one to ten digits that stand for a number read as it
pub digits_read : (f : Text) (n : ℕ) → digits f ≡ true → 1 ≤ length f → length f ≤ MOST_DIGITS → amount f ≡ n → n ≤ LARGEST → number f ≡ value n
unfolding number numeral spelled
digits_read f n only some few is fits = rw (only, le-leb 1 (length f) some, le-leb (length f) MOST_DIGITS few, is, le-leb n LARGEST fits)

-- both parts of a test that holds
pub and-true-parts : (a b : Bool) → (a && b) ≡ true → (a ≡ true) × (b ≡ true)
and-true-parts true b e = (refl, e)
and-true-parts false b e = absurd (false≢true e)

-- a digit is a byte from 48 to 57
pub digit_bounds : (b : ℕ) → digit b ≡ true → (48 ≤ b) × (b ≤ 57)
unfolding digit
digit_bounds b e =
    let both = and-true-parts (leb 48 b) (leb b 57) e in
    (leb-true 48 b both.0, leb-true b 57 both.1)

-- no digit ends a field
pub ends-digit : (b : ℕ) → digit b ≡ true → ends b ≡ false
unfolding ends
ends-digit b e =
    let low : 48 ≤ b = (digit_bounds b e).0 in
    rw (ends, ne_eqb b 44 (omega arith), ne_eqb b 10 (omega arith))
