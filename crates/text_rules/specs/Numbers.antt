-- A number in a text: one to ten digits, leading zeros allowed, at most 4,294,967,295. What is written has no leading zero.
use Rattle.std.specs.Prelude.{ℕ, zero, suc, ◌+◌, ◌-◌, ◌*◌, ◌/◌, ◌%◌, Bool, true, not, ◌&&◌, cond, List, [], ◌∷◌, ◌++◌, ltb, leb, length}
use Rattle.series.specs.Results.{Result, refuse}

-- the largest number
abbrev pub LARGEST : ℕ
LARGEST = 4294967295

-- the most digits of a number, leading zeros among them
abbrev pub MOST_DIGITS : ℕ
MOST_DIGITS = 10

-- the byte is a digit
unfoldable pub digit : ℕ → Bool
digit b = leb 48 b && leb b 57

-- digits only
unfoldable pub digits : List ℕ → Bool
digits [] = true
digits (b ∷ f) = digit b && digits f

-- how digits may spell a number: at least one, at most ten
unfoldable pub spelled : List ℕ → Bool
spelled f = leb 1 (length f) && leb (length f) MOST_DIGITS

-- the number whose digits are those of n followed by f
unfoldable pub amount_from : ℕ → List ℕ → ℕ
amount_from n [] = n
amount_from n (b ∷ f) = amount_from (n * 10 + (b - 48)) f

-- the number that digits stand for
unfoldable pub amount : List ℕ → ℕ
amount f = amount_from 0 f

-- the field f is a number
unfoldable pub numeral : List ℕ → Bool
numeral f = digits f && (spelled f && leb (amount f) LARGEST)

-- the number that the field f is, else 13
unfoldable pub number : List ℕ → Result ℕ
number f = refuse (not (numeral f)) 13 (amount f)

-- the digits of n, no leading zero, where they are at most k
unfoldable pub decimal_in : ℕ → ℕ → List ℕ
decimal_in zero n = []
decimal_in (suc k) n = cond (ltb n 10) ((48 + n) ∷ []) (decimal_in k (n / 10) ++ ((48 + n % 10) ∷ []))

-- the digits of n, of which a number of 32 bits has at most ten
unfoldable pub decimal : ℕ → List ℕ
decimal n = decimal_in 10 n
