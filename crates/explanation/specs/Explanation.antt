-- One line of English for each number of a refusal, in the order of the numbers, and one for any other number.
use Rattle.std.specs.Prelude.{ℕ, zero, suc, List, [], ◌∷◌, get_or}
use Rattle.series.specs.Ascii.{ascii}

-- the line of a number that is no refusal's
unfoldable pub no_refusal : List ℕ
no_refusal = ascii "no refusal has this number\n"

-- the lines of the refusals 1 to 24
unfoldable pub refusals : List (List ℕ)
refusals =
    ascii "codes, accounts and numbers differ in length\n" ∷
    ascii "there are more than 4,096 positions\n" ∷
    ascii "there are no positions\n" ∷
    ascii "an output is too short\n" ∷
    ascii "a code (W) or account (P,L,R) is 0 or not rising\n" ∷
    ascii "a position has no short contracts\n" ∷
    ascii "the positions hold more than 10,000,000 contracts\n" ∷
    ascii "no contract is exercised\n" ∷
    ascii "more is exercised than the positions hold\n" ∷
    ascii "the draw is outside 1 to T (W) or 1 to 10,000 (L)\n" ∷
    ascii "the text has, or would have, over 32,768 bytes\n" ∷
    ascii "line 1 or line 3 is missing or not exact\n" ∷
    ascii "bad line 2 or position line (number: 1-10 digits)\n" ∷
    ascii "the method is not W, P, L or R\n" ∷
    ascii "there are more than 1,024 positions in a text\n" ∷
    ascii "a count of the day is above 10,000,000\n" ∷
    ascii "closing purchases exceed short plus opening sales\n" ∷
    ascii "more is exercised than the day's limit\n" ∷
    ascii "an account is 0 or stands earlier in the list\n" ∷
    ascii "a last number is 0 or not above the one before\n" ∷
    ascii "there are more than 64 jobs\n" ∷
    ascii "a stretch ends past the list or begins too early\n" ∷
    ascii "the increment is 0 or above 1,000 (W)\n" ∷
    ascii "the increment makes more than 1,000,000 blocks\n" ∷ []

-- the line of a number
unfoldable pub explanation : ℕ → List ℕ
explanation zero = no_refusal
explanation (suc n) = get_or refusals n no_refusal

-- no line is longer
abbrev pub LONGEST : ℕ
LONGEST = 50
