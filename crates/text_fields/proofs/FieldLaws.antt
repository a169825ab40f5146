-- Laws of a field and of a line that are read byte by byte.
use Prim.Native.Nat.{ℕ, zero, suc, ◌+◌, ◌-◌, ◌*◌, ◌^◌, ◌≤◌, ◌<◌}
use mathlib.Core.Path.{◌≡◌, refl, sym, ap, ◌∙◌}
use mathlib.Core.Bool.{Bool, true, false, cond, ◌&&◌, and-false}
use mathlib.Core.List.{[], ◌∷◌, ◌++◌, append_assoc, append-nil}
use native.Mathlib.Omega.{arith}
use native.Mathlib.Nat.{pow-suc}
use native.Mathlib.Numerals.{add-one}
use borrow.Author.Tests.{eqb-true, lt-leb, ne_eqb}
use lib.Dec.{eqb}
use lib.Pointwise.{pointwise, pointwise_long}
use lib.ListN.{length, get_or, take, drop, length-append, length-drop, length-take, drop_of_length-le}
use lib.Seq.{take-suc, take_all, drop-cons, drop-drop, length-take-le}
use Rattle.std.specs.Prelude.{Option, Some, None, MatchOption}
use Rattle.std.specs.Borrow.{Bor}
use Rattle.std.specs.List.{AllWithin}
use Rattle.series.specs.Results.{Result, refused, value, ◌>>=◌}
use Rattle.series.proofs.ResultLaws.{never, value_is}
use Rattle.text_rules.specs.Fields.{Text, Read, ends, field, past, field_by}
use Rattle.text_rules.specs.Names.{after_line}
use Rattle.text_fields.specs.Parts.{Onward, RestOf, rest_of, number_by}
use Rattle.text_rules.specs.Numbers.{LARGEST, MOST_DIGITS, digit, digits, spelled, amount_from, amount, numeral, number}
use Rattle.text_rules.proofs.FieldLaws.{prefixed, prefixed_nil, prefixed_prefixed, field_byte, field_end, field_other, field_none, digits_append, amount-more, digits_read, digit_bounds, ends-digit}

-- ---- the index at which reading goes on

-- what is left of the text determines it
pub index_known : (s : Text) (at i j : ℕ) → Onward s at i → Onward s at j → drop i s ≡ drop j s → i ≡ j
index_known s at i j p q e = omega (arith, length-drop i s, length-drop j s, ap length e)

-- ---- a part of a text

-- the part grows by a byte
pub take_more : (i : ℕ) (s : Text) → i < length s → take (i + 1) s ≡ take i s ++ (get_or s i 0 ∷ [])
take_more i s lt = rw (add-one, take-suc s i 0 lt) refl

-- the text from an index on, by its first byte
pub drop_more : (i : ℕ) (s : Text) → i < length s → drop i s ≡ get_or s i 0 ∷ drop (i + 1) s
drop_more i s lt = rw (add-one, drop-cons s i 0)

-- what a part from an index to the end of the text holds
pub rest_from : (k : ℕ) (s : Text) → take (length s - k) (drop k s) ≡ drop k s
rest_from k s = take_all (length s - k) (drop k s) (omega (arith, length-drop k s))

-- ---- the first field

-- what a loop over the bytes of a field keeps: the first field, read up to index i
abbrev pub ReadTo : ℕ → Text → ℕ → Type 0
ReadTo c s i = field_by c s ≡ prefixed (take i s) (field_by c (drop i s))

pub read_start : (c : ℕ) (s : Text) → ReadTo c s 0
read_start c s = prefixed_nil _

module _ (c : ℕ) (s : Text) (i : ℕ) (so : ReadTo c s i) where
  pub read_more : i < length s → ends (get_or s i 0) ≡ false → ReadTo c s (i + 1)
  read_more lt e =
      so
      ∙ ap (λ (t : Text). prefixed (take i s) (field_by c t)) (drop_more i s lt)
      ∙ ap (prefixed (take i s)) (field_byte c (get_or s i 0) (drop (i + 1) s) e)
      ∙ prefixed_prefixed (take i s) (get_or s i 0 ∷ []) (field_by c (drop (i + 1) s))
      ∙ ap (λ (f : Text). prefixed f (field_by c (drop (i + 1) s))) (sym (take_more i s lt))

  -- the loop meets the byte that ends the field
  pub read_end : i < length s → get_or s i 0 ≡ c → ends c ≡ true → field_by c s ≡ value (record { found = take i s; rest = drop (i + 1) s })
  unfolding prefixed
  read_end lt e end =
      so
      ∙ ap (λ (t : Text). prefixed (take i s) (field_by c t)) (drop_more i s lt ∙ ap (λ (b : ℕ). b ∷ drop (i + 1) s) e)
      ∙ ap (prefixed (take i s)) (field_end c (drop (i + 1) s) end)
      ∙ ap (λ (f : Text). value (record { found = f; rest = drop (i + 1) s })) (append-nil (take i s))

  -- the loop meets another byte that ends a field
  pub read_other : i < length s → ends (get_or s i 0) ≡ true → eqb (get_or s i 0) c ≡ false → field_by c s ≡ refused 13
  unfolding prefixed
  read_other lt e ne =
      so
      ∙ ap (λ (t : Text). prefixed (take i s) (field_by c t)) (drop_more i s lt)
      ∙ ap (prefixed (take i s)) (field_other c (get_or s i 0) (drop (i + 1) s) e ne)

  -- the loop meets the end of the text
  pub read_none : length s ≤ i → field_by c s ≡ refused 13
  unfolding prefixed
  read_none le = so ∙ ap (λ (t : Text). prefixed (take i s) (field_by c t)) (drop_of_length-le s le) ∙ ap (prefixed (take i s)) (field_none c)

-- where no byte before an index ends a field, the first field is read up to it
pub read_passed : (c : ℕ) (s : Text) (i : ℕ) → i ≤ length s → AllWithin (λ b. ends b ≡ false) s 0 i → ReadTo c s i
read_passed c s zero le none = read_start c s
read_passed c s (suc i) le none = rw add-one at (read_more c s i (read_passed c s i (omega arith) (λ k d low lt. none k d low (omega arith))) (omega arith) (none i 0 (omega arith) (omega arith)))

-- ---- a number

-- the number in a field
unfoldable pub numbered : Result (Read Text) → Result (Read ℕ)
numbered r = r >>= λ f. number f.found >>= λ n. value (record { found = n; rest = f.rest })

pub number_by_numbered : (c : ℕ) (s : Text) → number_by c s ≡ numbered (field_by c s)
unfolding number_by numbered
number_by_numbered c s = refl

-- a field that no bytes after it can make a number
abbrev pub Spoilt : Text → Type 0
Spoilt f = (g : Text) → numeral (f ++ g) ≡ false

pub read_spoilt : (c : ℕ) (s : Text) (i : ℕ) → Spoilt (take i s) → ReadTo c s i → number_by c s ≡ refused 13
unfolding number_by numbered prefixed field_by past number
read_spoilt c s i bad so = ap numbered so ∙ go (drop (length (field (drop i s))) (drop i s))
  where
    g : Text
    g = field (drop i s)

    picked : (t : Bool) (u : Text) → numbered (prefixed (take i s) (cond t (value u) (refused 13) >>= λ rest. value (record { found = g; rest = rest }))) ≡ refused 13
    picked true u = rw (bad g)
    picked false u = refl

    go : (u : Text) → numbered (prefixed (take i s) (past c u >>= λ rest. value (record { found = g; rest = rest }))) ≡ refused 13
    go [] = refl
    go (b ∷ u) = picked (eqb b c) u

-- a byte that is no digit spoils a number
pub spoilt_byte : (f : Text) (b : ℕ) → digit b ≡ false → Spoilt (f ++ (b ∷ []))
unfolding numeral digits
spoilt_byte f b e g = simp (append_assoc, digits_append, e, and-false)

-- more digits than a number has spoil it
pub spoilt_long : (f : Text) → MOST_DIGITS < length f → Spoilt f
unfolding numeral spelled
spoilt_long f long g =
    let over : MOST_DIGITS < length (f ++ g) = rw (length-append f g) (omega arith) in
    simp (lt-leb (length (f ++ g)) MOST_DIGITS over, and-false)

-- what a loop over the digits of a number keeps: the first i bytes are digits, at most ten, and n is their number
pub record NumberTo (c : ℕ) (s : Text) (i n : ℕ) : Type 0 where
  pub few : i ≤ MOST_DIGITS
  pub read : ReadTo c s i
  pub only : digits (take i s) ≡ true
  pub amounts : amount (take i s) ≡ n
  pub small : n < 10 ^ i

pub number_start : (c : ℕ) (s : Text) → NumberTo c s 0 0
unfolding digits amount amount_from
number_start c s = record { few = omega arith; read = read_start c s; only = refl; amounts = refl; small = omega arith }

module _ (c : ℕ) (s : Text) (i n : ℕ) (so : NumberTo c s i n) where
  -- the field goes on with a digit
  digit_read : i < length s → digit (get_or s i 0) ≡ true → ReadTo c s (i + 1)
  digit_read lt d = read_more c s i so.read lt (ends-digit (get_or s i 0) d)

  -- another digit
  pub number_more : i < length s → digit (get_or s i 0) ≡ true → i < MOST_DIGITS → NumberTo c s (i + 1) (n * 10 + (get_or s i 0 - 48))
  unfolding digits
  number_more lt d few =
      let high : get_or s i 0 ≤ 57 = (digit_bounds (get_or s i 0) d).1 in
      let one : i + 1 ≡ suc i = omega arith in
      let tens : 10 ^ suc i ≡ 10 ^ i * 10 = pow-suc 10 i in
      record {
        few = omega arith;
        read = digit_read lt d;
        only = rw (take_more i s lt, digits_append, so.only, d);
        amounts = rw (take_more i s lt, amount-more, so.amounts);
        small = rw one (omega (arith, so.small));
      }

  -- an eleventh digit
  pub number-long : i < length s → digit (get_or s i 0) ≡ true → MOST_DIGITS ≤ i → refused 13 ≡ number_by c s
  number-long lt d many =
      let long : MOST_DIGITS < length (take (i + 1) s) = omega (arith, length-take-le (i + 1) s (omega arith)) in
      sym (read_spoilt c s (i + 1) (spoilt_long (take (i + 1) s) long) (digit_read lt d))

  -- a byte that is no digit, and does not end the field as it should
  pub number_other : i < length s → digit (get_or s i 0) ≡ false → (get_or s i 0 ≡ c → ⊥) → refused 13 ≡ number_by c s
  unfolding numbered
  number_other lt nd ne = sym (go (ends (get_or s i 0)) refl)
    where
      bad : Spoilt (take (i + 1) s)
      bad = rw (take_more i s lt) (spoilt_byte (take i s) (get_or s i 0) nd)

      go : (t : Bool) → ends (get_or s i 0) ≡ t → number_by c s ≡ refused 13
      go true e = number_by_numbered c s ∙ ap numbered (read_other c s i so.read lt e (ne_eqb (get_or s i 0) c ne))
      go false e = read_spoilt c s (i + 1) bad (read_more c s i so.read lt e)

  -- the end of the text
  pub number_none : length s ≤ i → refused 13 ≡ number_by c s
  unfolding numbered
  number_none le = sym (number_by_numbered c s ∙ ap numbered (read_none c s i so.read le))

  -- the byte that ends the field
  module _ (lt : i < length s) (e : get_or s i 0 ≡ c) (end : ends c ≡ true) where
    -- what stands before it is the field
    ended : number_by c s ≡ numbered (value (record { found = take i s; rest = drop (i + 1) s }))
    ended = number_by_numbered c s ∙ ap numbered (read_end c s i so.read lt e end)

    long : length (take i s) ≡ i
    long = length-take-le i s (omega arith)

    pub number-end : (i ≡ 0 → ⊥) → n ≤ LARGEST → value (record { found = n; rest = drop (i + 1) s }) ≡ number_by c s
    unfolding numbered
    number-end some fits = sym (ended ∙ rw (digits_read (take i s) n so.only (omega (arith, long)) (omega (arith, long, so.few)) so.amounts fits))

    -- no digit stands before it
    pub number_empty : i ≡ 0 → refused 13 ≡ number_by c s
    unfolding numbered number numeral spelled
    number_empty none =
        let zero' : length (take i s) ≡ 0 = long ∙ none in
        sym (ended ∙ rw (so.only, zero'))

    -- the number does not fit
    pub number_large : LARGEST < n → refused 13 ≡ number_by c s
    unfolding numbered number numeral
    number_large over =
        let bad : numeral (take i s) ≡ false = simp (so.amounts, lt-leb n LARGEST over, and-false) in
        sym (ended ∙ rw bad)

-- ---- a fixed line

eqb_turned : (a b : ℕ) → eqb a b ≡ eqb b a
eqb_turned a b = go (eqb a b) refl (eqb b a) refl
  where
    go : (t : Bool) → eqb a b ≡ t → (u : Bool) → eqb b a ≡ u → eqb a b ≡ eqb b a
    go true e true h = e ∙ sym h
    go false e false h = e ∙ sym h
    go true e false h = let same = eqb-true a b e in rw same
    go false e true h = let same = eqb-true b a h in rw same

-- the text after a line, by a comparison of the line with as many bytes of the text
after_starts : (p u : Text) → after_line p u ≡ cond (pointwise eqb (take (length p) u) p) (value (drop (length p) u)) (refused 12)
unfolding after_line
after_starts [] u = refl
after_starts (a ∷ p) [] = refl
after_starts (a ∷ p) (b ∷ u) = rw (eqb_turned b a) (elim (eqb a b) as (λ t. cond t (after_line p u) (refused 12) ≡ cond (t && pointwise eqb (take (length p) u) p) (value (drop (length p) u)) (refused 12)) [ true ↦ after_starts p u | false ↦ refl ])

-- what `strip_prefix` answers
pub line_read : (p u : Text) (r : Option (Bor Text)) → MatchOption r (pointwise eqb (take (length p) u) p ≡ false) (λ x. (pointwise eqb (take (length p) u) p ≡ true) × (x.now ≡ drop (length p) u) × (length x.now + length p ≡ length u)) → rest_of 12 r ≡ after_line p u
line_read p u None m = sym (after_starts p u ∙ rw m)
line_read p u (Some x) m = sym (after_starts p u ∙ rw (m.0, ← m.1))

-- ---- the text after what was read

-- what stands after a line is the text from an index on, at which reading goes on
pub line_onward : (p s rest : Text) → value rest ≡ after_line p s → (rest ≡ drop (length p) s) × Onward s 0 (length p)
line_onward p s rest e = go (pointwise eqb (take (length p) s) p) refl (e ∙ after_starts p s)
  where
    go : (t : Bool) → pointwise eqb (take (length p) s) p ≡ t → value rest ≡ cond t (value (drop (length p) s)) (refused 12) → (rest ≡ drop (length p) s) × Onward s 0 (length p)
    go false h e = absurd (never 12 rest (sym e))
    go true h e = let long = pointwise_long eqb (take (length p) s) p h in (value_is e, record { from = omega arith; within = omega (arith, long, length-take (length p) s) })

-- so is what stands after a field
pub field_onward : (c : ℕ) (s : Text) (f : Read Text) → value f ≡ field_by c s → (f.rest ≡ drop (length f.found + 1) s) × Onward s 0 (length f.found + 1)
unfolding field_by past
field_onward c s f e = go (drop n s) refl e
  where
    n : ℕ
    n = length (field s)

    after : (u : Text) → value f ≡ (◌>>=◌ {A = Text} (value u) (λ rest. value (record { found = field s; rest = rest }))) → f ≡ record { found = field s; rest = u }
    after u e = value_is e

    go : (u : Text) → drop n s ≡ u → value f ≡ (past c u >>= λ rest. value (record { found = field s; rest = rest })) → (f.rest ≡ drop (length f.found + 1) s) × Onward s 0 (length f.found + 1)
    go [] d e = absurd (never 13 f (sym e))
    go (b ∷ u) d e = picked (eqb b c) e
      where
        long : n + 1 ≤ length s
        long = omega (arith, length-drop n s, ap length d)

        picked : (t : Bool) → value f ≡ (cond t (value u) (refused 13) >>= λ rest. value (record { found = field s; rest = rest })) → (f.rest ≡ drop (length f.found + 1) s) × Onward s 0 (length f.found + 1)
        picked false e = absurd (never 13 f (sym e))
        picked true e =
            let is = after u e in
            rw is (ap (drop 1) (sym d) ∙ drop-drop 1 n s, record { from = omega arith; within = omega (arith, long) })

-- both, as a text that goes on
pub line_rest : (p s rest : Text) → value rest ≡ after_line p s → RestOf s rest
line_rest p s rest e = let on = line_onward p s rest e in record { next = length p; is = on.0; onward = on.1 }

pub field_rest : (c : ℕ) (s : Text) (f : Read Text) → value f ≡ field_by c s → RestOf s f.rest
field_rest c s f e = let on = field_onward c s f e in record { next = length f.found + 1; is = on.0; onward = on.1 }

-- what stands after a part, and after another part of that
pub rest_more : {s t u : Text} → RestOf s t → RestOf t u → RestOf s u
rest_more {s} {t} {u} p q = record {
  next = p.next + q.next;
  is = q.is ∙ ap (drop q.next) p.is ∙ drop-drop q.next p.next s;
  onward = record { from = omega arith; within = omega (arith, ap length p.is, length-drop p.next s) };
}

module _ {A : Type 0} (s : Text) (r : Read A) where
  -- nothing more is read
  pub rest_end : (a : A) → value r ≡ value (record { found = a; rest = s }) → RestOf s r.rest
  rest_end a e = rw (value_is e) (record { next = 0; is = refl; onward = record { from = omega arith; within = omega arith } })

  module _ {B : Type 0} where
    -- a part is read, and then what follows it
    pub rest_part : (q : Result (Read B)) (f : Read B → Result (Read A)) → ((b : Read B) → value b ≡ q → RestOf s b.rest) → ((b : Read B) → value r ≡ f b → RestOf b.rest r.rest) → value r ≡ (q >>= f) → RestOf s r.rest
    rest_part (refused n) f part on e = absurd (never n r (sym e))
    rest_part (value b) f part on e = rest_more (part b refl) (on b e)

    -- what was read is judged
    pub rest_kept : (q : Result B) (f : B → Result (Read A)) → ((b : B) → value r ≡ f b → RestOf s r.rest) → value r ≡ (q >>= f) → RestOf s r.rest
    rest_kept (refused n) f on e = absurd (never n r (sym e))
    rest_kept (value b) f on e = on b e
