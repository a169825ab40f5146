-- The lists of a listing whose text is written or read.
use Rattle.std.specs.Prelude.{ℕ, ◌≤◌, ◌≡◌, Bool, false, List, length}
use Rattle.series.specs.Series.{DEFAULT_INCREMENT}
use Rattle.forms.specs.Forms.{Listing}
use Rattle.text_rules.specs.Text.{MOST_LINES, Optional}
use Rattle.text_rules.specs.declared.TermsColumns.{TermsColumns}

-- a code and a number, its shorts or its last number, for each account, and at most 1,024 accounts
pub record Columns (codes' accounts' numbers' : List ℕ) : Type 0 where
  pub codes : length codes' ≡ length accounts'
  pub numbers : length numbers' ≡ length accounts'
  pub few : length accounts' ≤ MOST_LINES

-- without the code column each code is its account
abbrev pub PlainCodes : Bool → List ℕ → List ℕ → Type 0
PlainCodes c codes accounts = c ≡ false → codes ≡ accounts

-- what is left out can be told: without its column the increment is 25, and each code its account
pub record Plain (o : Optional) (t : Listing) : Type 0 where
  pub increment : o.terms ≡ TermsColumns.MethodExercisedDraw → t.terms.increment.0 ≡ DEFAULT_INCREMENT
  pub codes : PlainCodes o.coded t.codes t.accounts
