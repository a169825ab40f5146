-- What the answers of the functions mean, and the promises about each.
use Rattle.std.specs.Prelude.{ℕ, zero, suc, ◌≤◌, max, ◌≡◌, Bool, true, false, List, [], ◌∷◌, length, drop, Option, Some, None}
use Rattle.std.specs.Borrow.{Bor}
use Rattle.series.specs.Results.{Result, refused, value, ◌>>=◌, after}
use Rattle.series.specs.Outputs.{onto}
use Rattle.text_rules.specs.Numbers.{number}
use Rattle.text_rules.specs.Fields.{Text, COMMA, NEWLINE, Read, field_by, end_before}
use Rattle.text_rules.specs.Rows.{read_row}
use Rattle.text_fields.specs.declared.Read.{Read as Read·}

-- an index of s at which reading goes on: not before index at, and not past the end of s unless index at is
pub record Onward (s : Text) (at next : ℕ) : Type 0 where
  pub from : at ≤ next
  pub within : next ≤ max at (length s)

-- the text rest is s from an index on at which reading goes on
pub record RestOf (s rest : Text) : Type 0 where
  pub next : ℕ
  pub is : rest ≡ drop next s
  pub onward : Onward s 0 next

-- the text after what was read, or the refusal n where nothing was
abbrev pub rest_of : ℕ → Option (Bor Text) → Result Text
rest_of n (Some rest) = value rest.now
rest_of n None = refused n

-- what was read, by its value, with the text after it; or the refusal n where nothing was
abbrev pub read_of : {A B : Type 0} → ℕ → (A → B) → Option (Read· A) → Result (Read B)
read_of n f (Some r) = value (record { found = f r.found; rest = r.rest.now })
read_of n f None = refused n

-- the fields are there
abbrev pub found_fields : {A : Type 0} → Result A → Bool
found_fields (value a) = true
found_fields (refused n) = false

-- ---- a number

-- the first field as a number, where the byte c ends it, else 13
unfoldable pub number_by : ℕ → Text → Result (Read ℕ)
number_by c s = do
  f ← field_by c s
  n ← number f.found
  value (record { found = n; rest = f.rest })

-- ---- a row

-- the numbers of a line of k fields before its first malformed one
unfoldable pub leading : ℕ → Text → List ℕ
leading zero s = []
leading (suc k) s = after (number_by (end_before COMMA NEWLINE k) s) (λ x. x.found ∷ leading k x.rest) []

-- the answer r on a row at the start of s, and the list that goes from old to new: the numbers before the first malformed one, and past them what stood there
pub record RowRead (s : Text) (old new : List ℕ) (r : Option (Bor Text)) : Type 0 where
  pub means : (rest_of 13 r >>= λ rest. value (record { found = new; rest = rest })) ≡ read_row (length old) s
  pub written : new ≡ onto (leading (length old) s) old
