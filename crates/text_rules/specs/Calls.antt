-- The calls: what each hands back, and what its outputs then hold.
use Rattle.std.specs.Prelude.{ℕ, ◌≡◌, Bool, true, not, ◌&&◌, ◌||◌, List, [], ◌∷◌, ◌++◌, eqb, ltb, length}
use Rattle.series.specs.Results.{Result, value, ◌>>=◌, refuse, after}
use Rattle.series.specs.Outputs.{onto, Lent}
use Rattle.series.specs.declared.Terms.{Terms}
use Rattle.forms.specs.Forms.{Listing, changed}
use Rattle.forms.specs.declared.Form.{Form}
use Rattle.text_rules.specs.Fields.{Text}
use Rattle.text_rules.specs.Rows.{write_rows, rows_of}
use Rattle.text_rules.specs.Text.{MOST_BYTES, MOST_LINES, read_text, write_head, writes_codes, written_columns, columns}

-- what reading hands back: the form, the values of line 2 and the number of positions
pub record Handed : Type 0 where
  pub form : Form
  pub terms : Terms
  pub positions : ℕ

-- reading a text into lists of these lengths: last of all 4, where one is shorter than the positions
unfoldable pub read_into : Text → ℕ → ℕ → ℕ → Result Listing
read_into s codes accounts numbers = do
  t ← read_text s
  refuse (ltb codes (length t.accounts) || (ltb accounts (length t.accounts) || ltb numbers (length t.accounts))) 4 t

-- what reading hands back of a listing
unfoldable pub handed : Result Listing → Result Handed
handed r = do
  t ← r
  value (record { form = t.form; terms = t.terms; positions = length t.accounts })

-- the lists that a reading r came to, in three lent lists: its positions and what stood past them, or all that stood there
pub record ListsRead (r : Result Listing) (codes' accounts' numbers' : Lent (List ℕ)) : Type 0 where
  pub codes : codes'.new ≡ after r (λ l. onto l.codes codes'.old) codes'.old
  pub accounts : accounts'.new ≡ after r (λ l. onto l.accounts accounts'.old) accounts'.old
  pub numbers : numbers'.new ≡ after r (λ l. onto l.numbers numbers'.old) numbers'.old

-- reading a text into three lent lists
abbrev pub read_lent : Text → Lent (List ℕ) → Lent (List ℕ) → Lent (List ℕ) → Result Listing
read_lent s codes accounts numbers = read_into s (length codes.old) (length accounts.old) (length numbers.old)

-- the call that reads the text s answers a and writes to three lent lists, both as defined
pub record ReadingCall (s : Text) (a : Result Handed) (codes accounts numbers : Lent (List ℕ)) : Type 0 where
  pub answered : a ≡ handed (read_lent s codes accounts numbers)
  pub written : ListsRead (read_lent s codes accounts numbers) codes accounts numbers

-- the columns have n numbers each
unfoldable pub evenly : ℕ → List (List ℕ) → Bool
evenly n [] = true
evenly n (c ∷ cs) = eqb (length c) n && evenly n cs

-- how many numbers the first column has
unfoldable pub line_count : List (List ℕ) → ℕ
line_count [] = 0
line_count (c ∷ cs) = length c

-- a head and a line for each row of the columns: 1 where the columns differ in length, then 15
unfoldable pub head_and_lines : Text → List (List ℕ) → Result Text
head_and_lines head cs = do
  s ← refuse (not (evenly (line_count cs) cs)) 1 (head ++ write_rows (rows_of cs))
  refuse (ltb MOST_LINES (line_count cs)) 15 s

-- writing them to an output of length room: then 4
unfoldable pub lines_into : Text → List (List ℕ) → ℕ → Result Text
lines_into head cs room = do
  lines ← head_and_lines head cs
  refuse (ltb room (length lines)) 4 lines

-- writing a listing to an output of length room: 1, then 15, then 11 where the text would pass 32,768 bytes, then 4.
-- Codes of another length than the accounts are not the same numbers, so that their column stands among the others, and 1 is met
unfoldable pub write_into : Listing → ℕ → Result Text
write_into t room = do
  s ← head_and_lines (write_head (written_columns t) t.form t.terms) (columns (writes_codes t) t)
  s ← refuse (ltb MOST_BYTES (length s)) 11 s
  refuse (ltb room (length s)) 4 s

-- the change of a listing, written to an output of length room: its list is judged by its method (S, the draw and the increment are not), and it is written in the other form
unfoldable pub changed_into : Listing → ℕ → Result Text
changed_into l room = do
  o ← changed l
  write_into o room

-- the change of a text
unfoldable pub change_into : Text → ℕ → Result Text
change_into s room = do
  l ← read_text s
  changed_into l room

-- no changed text is longer: lines 1 to 3, and 1,024 lines of at most 31 bytes
abbrev pub MOST_CHANGED : ℕ
MOST_CHANGED = 31830

-- writing a table: a names line as given, then a line for each account and its count
unfoldable pub table_into : Text → List ℕ → List ℕ → ℕ → Result Text
table_into names accounts counts room = lines_into names (accounts ∷ counts ∷ []) room

-- writing a note: a line as given, then a line with the number
unfoldable pub note_into : Text → ℕ → ℕ → Result Text
note_into names n room = lines_into names ((n ∷ []) ∷ []) room

-- what writing hands back: the length of the text
unfoldable pub length_of : Result Text → Result ℕ
length_of r = do
  s ← r
  value (length s)

-- a call that writes the text w, or meets its refusal, answers a, and its output goes from old to new, both as defined
pub record WritingCall (w : Result Text) (a : Result ℕ) (old new : Text) : Type 0 where
  pub answered : a ≡ length_of w
  pub written : new ≡ after w (λ s. onto s old) old
