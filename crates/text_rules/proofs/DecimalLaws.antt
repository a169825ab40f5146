-- Laws of the digits of a number: how many there are, and each from the last to the first.
use Prim.Native.Nat.{ℕ, zero, suc, ◌+◌, ◌*◌, ◌/◌, ◌%◌, ◌^◌, ◌≤◌, ◌<◌}
use mathlib.Core.Path.{◌≡◌, refl, sym, ap, ◌∙◌}
use mathlib.Core.Bool.{Bool, true, false, cond}
use mathlib.Core.List.{List, [], ◌∷◌, ◌++◌, append_assoc, append-nil}
use native.Mathlib.Omega.{arith}
use native.Mathlib.Nat.{pow-suc}
use native.Mathlib.Numerals.{add-one}
use native.Mathlib.Decide.{dec_lt}
use borrow.Author.Tests.{lt-ltb, le-ltb}
use lib.Dec.{ltb}
use lib.ListN.{length, drop, length-append}
use lib.Seq.{drop-length, drop_at}
use Rattle.text_rules.specs.Numbers.{decimal_in, decimal}

pub decimal-small : (k n : ℕ) → n < 10 → decimal_in (suc k) n ≡ (48 + n) ∷ []
unfolding decimal_in
decimal-small k n lt = rw (lt-ltb n 10 lt)

pub decimal_large : (k n : ℕ) → 10 ≤ n → decimal_in (suc k) n ≡ decimal_in k (n / 10) ++ ((48 + n % 10) ∷ [])
unfolding decimal_in
decimal_large k n le = rw (le-ltb n 10 le)

-- ---- how many digits there are

length-snoc : (l : List ℕ) (b : ℕ) → length (l ++ (b ∷ [])) ≡ suc (length l)
length-snoc l b = length-append l (b ∷ []) ∙ add-one (length l)

places : (k j n : ℕ) → j ≤ k → 10 ^ j ≤ n → n < 10 ^ suc j → length (decimal_in (suc k) n) ≡ suc j
places k zero n le low high = rw (decimal-small k n high)
places zero (suc j) n le low high = absurd (omega arith)
places (suc k) (suc j) n le low high =
    let e : 10 ^ suc j ≡ 10 ^ j * 10 = pow-suc 10 j in
    let e' : 10 ^ suc (suc j) ≡ 10 ^ suc j * 10 = pow-suc 10 (suc j) in
    let p : 1 ≤ 10 ^ j = one_le_pow j in
    let large : 10 ≤ n = omega arith in
    rw (decimal_large (suc k) n large, length-snoc) (ap suc (places k j (n / 10) (omega arith) (omega arith) (omega arith)))
  where
    one_le_pow : (j : ℕ) → 1 ≤ 10 ^ j
    one_le_pow zero = omega arith
    one_le_pow (suc j) = let e : 10 ^ suc j ≡ 10 ^ j * 10 = pow-suc 10 j in omega (arith, one_le_pow j)

-- a number from 10 ^ j up to 10 ^ (j + 1) has j + 1 digits
pub digits-at : (j n : ℕ) → j ≤ 9 → 10 ^ j ≤ n → n < 10 ^ suc j → suc j ≡ length (decimal n)
unfolding decimal
digits-at j n le low high = sym (places 9 j n le low high)

pub digits-one : (n : ℕ) → n < 10 → 1 ≡ length (decimal n)
unfolding decimal
digits-one n lt = rw (decimal-small 9 n lt)

few_in : (k n : ℕ) → length (decimal_in k n) ≤ k
unfolding decimal_in
few_in zero n = omega arith
few_in (suc k) n = go (few_in k (n / 10)) (ltb n 10)
  where
    go : length (decimal_in k (n / 10)) ≤ k → (t : Bool) → length (cond t ((48 + n) ∷ []) (decimal_in k (n / 10) ++ ((48 + n % 10) ∷ []))) ≤ suc k
    go h true = omega arith
    go h false = rw length-snoc (omega arith)

pub digits-few : (n : ℕ) → length (decimal n) ≤ 10
unfolding decimal
digits-few n = few_in 10 n

within_in : (k j n : ℕ) → n < 10 ^ suc j → length (decimal_in k n) ≤ suc j
unfolding decimal_in
within_in zero j n high = omega arith
within_in (suc k) zero n high = rw (decimal-small k n high) (omega arith)
within_in (suc k) (suc j) n high =
    let e : 10 ^ suc (suc j) ≡ 10 ^ suc j * 10 = pow-suc 10 (suc j) in
    elim (dec_lt n 10) [
      | yes small ↦ rw (decimal-small k n small) (omega arith)
      | no large ↦ let le : 10 ≤ n = omega arith in rw (decimal_large k n le, length-snoc) (omega (arith, within_in k j (n / 10) (omega arith)))
    ]

-- a number below 10 ^ (j + 1) has at most j + 1 digits
pub digits-within : (j n : ℕ) → n < 10 ^ suc j → length (decimal n) ≤ suc j
unfolding decimal
digits-within j n high = within_in 10 j n high

pub digits-some : (n : ℕ) → 1 ≤ length (decimal n)
unfolding decimal decimal_in
digits-some n = go (ltb n 10)
  where
    go : (t : Bool) → 1 ≤ length (cond t ((48 + n) ∷ []) (decimal_in 9 (n / 10) ++ ((48 + n % 10) ∷ [])))
    go true = omega arith
    go false = rw length-snoc (omega arith)

-- ---- the digits from the last to the first

-- the last k digits of n
pub last_digits : ℕ → ℕ → List ℕ
last_digits zero n = []
last_digits (suc k) n = last_digits k (n / 10) ++ ((48 + n % 10) ∷ [])

length_last : (k n : ℕ) → length (last_digits k n) ≡ k
unfolding last_digits
length_last zero n = refl
length_last (suc k) n = length-snoc (last_digits k (n / 10)) (48 + n % 10) ∙ ap suc (length_last k (n / 10))

decimal-last : (k n : ℕ) → decimal_in k n ≡ last_digits (length (decimal_in k n)) n
unfolding decimal_in last_digits
decimal-last zero n = refl
decimal-last (suc k) n = go (decimal-last k (n / 10)) (dec_lt n 10)
  where
    go : decimal_in k (n / 10) ≡ last_digits (length (decimal_in k (n / 10))) (n / 10) → Dec (n < 10) → decimal_in (suc k) n ≡ last_digits (length (decimal_in (suc k) n)) n
    go h (yes lt) =
        let e : n % 10 ≡ n = omega arith in
        rw (decimal-small k n lt, e)
    go h (no ge) =
        let le : 10 ≤ n = omega arith in
        rw (decimal_large k n le, length-snoc) (ap (λ (l : List ℕ). l ++ ((48 + n % 10) ∷ [])) h)

-- what the loop that puts the digits keeps: of the digits of n, the first i are the last i digits of rest
abbrev pub LeftOf : ℕ → ℕ → ℕ → Type 0
LeftOf n i rest = decimal n ≡ last_digits i rest ++ drop i (decimal n)

pub left_start : (n : ℕ) → LeftOf n (length (decimal n)) n
unfolding decimal
left_start n = decimal-last 10 n ∙ sym (rw (drop-length (decimal_in 10 n)) (append-nil (last_digits (length (decimal_in 10 n)) n)))

-- the next digit
pub left-digit : (n i rest : ℕ) → LeftOf n (suc i) rest → drop i (decimal n) ≡ (48 + rest % 10) ∷ drop (suc i) (decimal n)
unfolding last_digits
left-digit n i rest so =
    ap (drop i) (so ∙ append_assoc (last_digits i (rest / 10)) ((48 + rest % 10) ∷ []) (drop (suc i) (decimal n)))
    ∙ drop_at (last_digits i (rest / 10)) ((48 + rest % 10) ∷ drop (suc i) (decimal n)) i (length_last i (rest / 10))

pub left-more : (n i rest : ℕ) → LeftOf n (suc i) rest → LeftOf n i (rest / 10)
unfolding last_digits
left-more n i rest so =
    so
    ∙ append_assoc (last_digits i (rest / 10)) ((48 + rest % 10) ∷ []) (drop (suc i) (decimal n))
    ∙ ap (λ (l : List ℕ). last_digits i (rest / 10) ++ l) (sym (left-digit n i rest so))
