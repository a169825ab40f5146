-- What the answers of the functions under the call mean, and the promises about each.
use Rattle.std.specs.Prelude.{ℕ, ◌≤◌, ◌≡◌, Bool, true, false, List, ◌∷◌, length, get_or, take, Option, IfSome, IfOk, Result as Result·}
use Rattle.series.specs.Results.{Result, value, ◌>>=◌}
use Rattle.series.specs.Answers.{outcome_of}
use Rattle.series.specs.declared.Refusal.{Refusal}
use Rattle.series.specs.declared.Terms.{Terms}
use Rattle.forms.specs.Forms.{Listing}
use Rattle.forms.specs.declared.Form.{Form}
use Rattle.text_rules.specs.Fields.{Text, Read}
use Rattle.text_rules.specs.Rows.{read_row}
use Rattle.text_rules.specs.Text.{MOST_LINES, line_width, read_positions}
use Rattle.text_fields.specs.Parts.{read_of}
use Rattle.text_fields.specs.declared.Read.{Read as Read·}

-- the numbers of a position line, its code first: without one of its own the code is the account
abbrev pub with_code : Bool → List ℕ → List ℕ
with_code true row = row
with_code false row = get_or row 0 0 ∷ row

-- a position line as a code, an account and its shorts or last number, else 13
unfoldable pub read_position : Bool → Text → Result (Read (List ℕ))
read_position c s = do
  r ← read_row (line_width c) s
  value (record { found = with_code c r.found; rest = r.rest })

-- the answer r on a position line at the start of s: three numbers, and the text after them
pub record PositionRead (c : Bool) (s : Text) (r : Option (Read· (List ℕ))) : Type 0 where
  pub means : read_of 13 (λ row. row) r ≡ read_position c s
  pub three : IfSome r (λ p. length p.found ≡ 3)

-- the listing whose positions stand first in three lists
abbrev pub positions_mean : Form → Terms → List ℕ → List ℕ → List ℕ → Result· ℕ Refusal → Result Listing
positions_mean f t codes accounts numbers r = outcome_of (λ n. record { form = f; terms = t; codes = take n codes; accounts = take n accounts; numbers = take n numbers }) r

-- the answer r on the position lines u, whatever the form and the values of line 2 are, with the lists after it: they are at most 1,024, and stand within the lists
pub record LinesRead (c : Bool) (u : Text) (codes accounts numbers : List ℕ) (r : Result· ℕ Refusal) : Type 0 where
  pub means : (f : Form) (t : Terms) → positions_mean f t codes accounts numbers r ≡ read_positions (record { terms = t; form = f; coded = c }) u
  pub within : IfOk r (λ n. (n ≤ MOST_LINES) × (n ≤ length codes) × (n ≤ length accounts) × (n ≤ length numbers))
