-- The text of a series, read and written line by line.
use Rattle.std.specs.Prelude.{ℕ, List, [], ◌∷◌, ◌++◌, Bool, true, false, not, ◌&&◌, cond, eqb, ltb, length, get_or}
use Rattle.series.specs.Results.{Result, value, ◌>>=◌, refuse}
use Rattle.series.specs.Series.{DEFAULT_INCREMENT, terms_of}
use Rattle.series.specs.declared.Method.{Method}
use Rattle.series.specs.declared.Terms.{Terms}
use Rattle.forms.specs.Forms.{Listing}
use Rattle.forms.specs.declared.Form.{Form}
use Rattle.text_rules.specs.Fields.{Text, COMMA, Read, field_by, read_fields}
use Rattle.text_rules.specs.Rows.{numbers, read_rows, write_row, write_rows, rows_of, column}
use Rattle.text_rules.specs.Names.{line1, line3, terms_line, terms_numbers, columns_in, positions_line, read_names}
use Rattle.text_rules.specs.Letters.{letter, method_of}
use Rattle.text_rules.specs.declared.TermsColumns.{TermsColumns}

-- the most bytes that a text has
abbrev pub MOST_BYTES : ℕ
MOST_BYTES = 32768

-- the most positions that a text has
abbrev pub MOST_LINES : ℕ
MOST_LINES = 1024

-- the terms of a method and of the numbers after it in line 2: S, the draw and the increment, which is 25 where no third number is given
abbrev pub terms_from : Method → List ℕ → Terms
terms_from how ns = terms_of how (get_or ns 0 0) (get_or ns 1 0) (get_or ns 2 DEFAULT_INCREMENT)

-- line 2 with k numbers after the method: 13 not so many fields and byte 10; then 14 method unknown; then 13 a number malformed
unfoldable pub read_terms : ℕ → Text → Result (Read Terms)
read_terms k s = do
  m ← field_by COMMA s
  fs ← read_fields k m.rest
  how ← method_of m.found
  ns ← numbers fs.found
  value (record { found = terms_from how ns; rest = fs.rest })

-- what lines 1 to 3 hold: the values of line 2, the form of the position lines, and whether each begins with a code
pub record Head : Type 0 where
  pub terms : Terms
  pub form : Form
  pub coded : Bool

-- lines 1 to 3 of a text that is not too long, and the position lines
unfoldable pub read_head : Text → Result (Read Head)
read_head s = do
  s ← refuse (ltb MOST_BYTES (length s)) 11 s
  names ← read_names terms_line line1 s
  t ← read_terms (terms_numbers names.found) names.rest
  columns ← read_names positions_line line3 t.rest
  value (record { found = record { terms = t.found; form = columns.found.form; coded = columns.found.coded }; rest = columns.rest })

-- how many numbers a position line has: code, account and its shorts or last number, or the latter two
abbrev pub line_width : Bool → ℕ
line_width true = 3
line_width false = 2

-- the listing of position lines; without a code column the code is the account number
abbrev pub listing_of : Bool → Form → Terms → List (List ℕ) → Listing
listing_of true f t ps = record { form = f; terms = t; codes = column 0 ps; accounts = column 1 ps; numbers = column 2 ps }
listing_of false f t ps = record { form = f; terms = t; codes = column 0 ps; accounts = column 0 ps; numbers = column 1 ps }

-- the position lines after lines 1 to 3
unfoldable pub read_positions : Head → Text → Result Listing
read_positions h s = do
  ps ← read_rows MOST_LINES (line_width h.coded) s
  value (listing_of h.coded h.form h.terms ps)

-- a text, its lines in the order of the text
unfoldable pub read_text : Text → Result Listing
read_text s = do
  h ← read_head s
  read_positions h.found h.rest

-- the numbers of line 2
abbrev pub terms_row : TermsColumns → Terms → List ℕ
terms_row TermsColumns.MethodExercisedDraw t = t.exercised.0 ∷ t.draw ∷ []
terms_row TermsColumns.MethodExercisedDrawIncrement t = t.exercised.0 ∷ t.draw ∷ t.increment.0 ∷ []

-- line 2
unfoldable pub write_terms : TermsColumns → Terms → Text
write_terms c t = letter t.method ∷ COMMA ∷ write_row (terms_row c t)

-- the columns of a text that may be left out: the increment in lines 1 and 2, the code in line 3 and the position lines
pub record Optional : Type 0 where
  pub terms : TermsColumns
  pub coded : Bool

-- lines 1 to 3, for position lines in a form
unfoldable pub write_head : Optional → Form → Terms → Text
write_head o f t = terms_line o.terms ++ (write_terms o.terms t ++ positions_line (columns_in f o.coded))

-- the columns of the position lines, with the codes or without them
abbrev pub columns_by : Bool → List ℕ → List ℕ → List ℕ → List (List ℕ)
columns_by true codes accounts numbers = codes ∷ accounts ∷ numbers ∷ []
columns_by false codes accounts numbers = accounts ∷ numbers ∷ []

-- those of a listing
abbrev pub columns : Bool → Listing → List (List ℕ)
columns c t = columns_by c t.codes t.accounts t.numbers

-- the text of a listing, with the optional columns or without them
unfoldable pub text_with : Optional → Listing → Text
text_with o t = write_head o t.form t.terms ++ write_rows (rows_of (columns o.coded t))

-- the two lists hold the same numbers
unfoldable pub same_numbers : List ℕ → List ℕ → Bool
same_numbers [] [] = true
same_numbers [] (n ∷ ns) = false
same_numbers (m ∷ ms) [] = false
same_numbers (m ∷ ms) (n ∷ ns) = eqb m n && same_numbers ms ns

-- the code column is written: not every code is its account
unfoldable pub writes_codes : Listing → Bool
writes_codes t = not (same_numbers t.codes t.accounts)

-- line 1: the increment is named where it is not 25, whatever the method
unfoldable pub terms_columns : Terms → TermsColumns
terms_columns t = cond (eqb t.increment.0 DEFAULT_INCREMENT) TermsColumns.MethodExercisedDraw TermsColumns.MethodExercisedDrawIncrement

-- the optional columns that are written
unfoldable pub written_columns : Listing → Optional
written_columns t = record { terms = terms_columns t.terms; coded = writes_codes t }

-- the text of a listing: a column is left out exactly where the text without it reads back as the same listing (`left_out_lem` and `left_out_only` in RoundTrip)
unfoldable pub write_text : Listing → Text
write_text t = text_with (written_columns t) t
