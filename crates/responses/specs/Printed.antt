-- What the program prints for a text: the amounts of an allocation, or the number of a refusal.
use Rattle.std.specs.Prelude.{ℕ, List, [], ◌∷◌, ◌++◌, length}
use Rattle.series.specs.Ascii.{ascii}
use Rattle.series.specs.Results.{Result, refused, value, ◌>>=◌}
use Rattle.series.specs.Sums.{listed}
use Rattle.series.specs.Series.{Series, method, by_method}
use Rattle.series.specs.RemainderDraw.{first_range, second_range}
use Rattle.series.specs.Refusals.{verdict}
use Rattle.series.specs.Call.{assigned}
use Rattle.series.specs.declared.Method.{Method}
use Rattle.forms.specs.Forms.{series_in, in_form}
use Rattle.forms.specs.declared.Form.{Form}
use Rattle.text_rules.specs.Fields.{Text}
use Rattle.text_rules.specs.Rows.{write_row, write_rows, rows_of}
use Rattle.text_rules.specs.Text.{read_text}

-- for a refusal the line `refused` and a line with the number
unfoldable pub refused_lines : ℕ → Text
refused_lines n = ascii "refused\n" ++ write_row (n ∷ [])

-- for an allocation the line `account,assigned`, then one line for each position in list order, zero amounts too
unfoldable pub assigned_lines : List ℕ → List ℕ → Text
assigned_lines accounts amounts = ascii "account,assigned\n" ++ write_rows (rows_of (accounts ∷ amounts ∷ []))

-- the columns of the ranges: the account, its first range and its second
unfoldable pub range_columns : List ℕ → List ℕ → List (List ℕ)
range_columns accounts shorts =
    accounts ∷
    listed (λ i. (first_range shorts i).first) (length shorts) ∷
    listed (λ i. (first_range shorts i).last) (length shorts) ∷
    listed (λ i. (second_range shorts i).first) (length shorts) ∷
    listed (λ i. (second_range shorts i).last) (length shorts) ∷
    []

-- the line `account,first,last,first2,last2`, then one line for each position in list order
unfoldable pub range_lines : List ℕ → List ℕ → Text
range_lines accounts shorts = ascii "account,first,last,first2,last2\n" ++ write_rows (rows_of (range_columns accounts shorts))

-- after the amounts: under R the ranges, else nothing
unfoldable pub ranges_by : Method → List ℕ → List ℕ → Text
ranges_by m accounts shorts = by_method m [] [] [] (range_lines accounts shorts)

-- a series that was listed in a form, called with an output as long as its list; or the first refusal that it meets
unfoldable pub series_or_refusal : Form → Series → Result Series
series_or_refusal f t = do
  T ← in_form f (verdict t (length t.shorts))
  value t

-- the series of a text, or the first refusal of reading it or of its call
unfoldable pub text_or_refusal : Text → Result Series
text_or_refusal s = do
  l ← read_text s
  series_or_refusal l.form (series_in l)

-- what is printed for either
unfoldable pub lines_for : Result Series → Text
lines_for (value t) = assigned_lines t.accounts (assigned t.terms t.shorts) ++ ranges_by (method t) t.accounts t.shorts
lines_for (refused n) = refused_lines n

-- what is printed for a text
unfoldable pub printed : Text → Text
printed s = lines_for (text_or_refusal s)

-- the most bytes that are printed: two names lines, 1,024 lines of at most 22 bytes and as many of at most 47
abbrev pub MOST_PRINTED : ℕ
MOST_PRINTED = 70705
