-- The names lines: line 1, and line 3, which is put together from the names of its columns.
use Rattle.std.specs.Prelude.{ℕ, Bool, true, false, cond, List, [], ◌∷◌, ◌++◌, eqb}
use Rattle.series.specs.Ascii.{ascii}
use Rattle.series.specs.Results.{Result, refused, value}
use Rattle.forms.specs.declared.Form.{Form}
use Rattle.text_rules.specs.Fields.{Text, Read}
use Rattle.text_rules.specs.declared.TermsColumns.{TermsColumns}
use Rattle.text_rules.specs.declared.PositionColumns.{PositionColumns}

-- line 1
unfoldable pub terms_line : TermsColumns → Text
terms_line TermsColumns.MethodExercisedDraw = ascii "method,exercised,draw\n"
terms_line TermsColumns.MethodExercisedDrawIncrement = ascii "method,exercised,draw,increment\n"

-- how many numbers line 2 has after the method
abbrev pub terms_numbers : TermsColumns → ℕ
terms_numbers TermsColumns.MethodExercisedDraw = 2
terms_numbers TermsColumns.MethodExercisedDrawIncrement = 3

-- the name of the code column, where there is one
unfoldable pub code_name : Bool → Text
code_name true = ascii "code,"
code_name false = []

-- the name of the account column
unfoldable pub account_name : Text
account_name = ascii "account,"

-- the name of the last column: the form's word
unfoldable pub form_name : Form → Text
form_name Form.Shorts = ascii "short\n"
form_name Form.LastNumbers = ascii "last\n"

-- line 3 from the account column on: `account,` and the form's word
unfoldable pub account_line : PositionColumns → Text
account_line c = account_name ++ form_name c.form

-- line 3: `code,` or nothing before it
unfoldable pub positions_line : PositionColumns → Text
positions_line c = code_name c.coded ++ account_line c

-- what line 1 may name
abbrev pub line1 : List TermsColumns
line1 = TermsColumns.MethodExercisedDraw ∷ TermsColumns.MethodExercisedDrawIncrement ∷ []

-- the columns of position lines in a form, with a code or without one
abbrev pub columns_in : Form → Bool → PositionColumns
columns_in f c = record { form = f; coded = c }

-- those of either form
abbrev pub in_forms : Bool → List PositionColumns
in_forms c = columns_in Form.Shorts c ∷ columns_in Form.LastNumbers c ∷ []

-- what line 3 may name
abbrev pub line3 : List PositionColumns
line3 = columns_in Form.Shorts false ∷ columns_in Form.Shorts true ∷ columns_in Form.LastNumbers false ∷ columns_in Form.LastNumbers true ∷ []

-- the text after the line p, else 12
unfoldable pub after_line : Text → Text → Result Text
after_line [] s = value s
after_line (a ∷ p) [] = refused 12
after_line (a ∷ p) (b ∷ s) = cond (eqb a b) (after_line p s) (refused 12)

-- the columns c and the text after their line, else what the other lines give
unfoldable pub names_or : {A : Type 0} → A → Result Text → Result (Read A) → Result (Read A)
names_or c (value rest) other = value (record { found = c; rest = rest })
names_or c (refused n) other = other

-- the first of the known columns whose line the text begins with, else 12
unfoldable pub read_names : {A : Type 0} → (A → Text) → List A → Text → Result (Read A)
read_names line [] s = refused 12
read_names line (c ∷ known) s = names_or c (after_line (line c) s) (read_names line known s)
