-- Document 02's other increments in a text: read, written and changed with the column and without it, proved of the definitions by computation. The spellings of a number: `spellings_judged` in Claims; the names of line 1: `names_judged`.
use Prim.Native.Nat.{ℕ, ◌+◌, ◌-◌, ◌*◌}
use Prim.Native.String.{String}
use mathlib.Core.Path.{◌≡◌, refl}
use mathlib.Core.Bool.{true}
use mathlib.Core.List.{List, [], ◌∷◌, ◌++◌, map}
use lib.ListN.{length}
use Rattle.series.specs.Ascii.{ascii}
use Rattle.series.specs.Results.{refused, value}
use Rattle.series.specs.Series.{MOST_CONTRACTS, terms_of}
use Rattle.series.specs.declared.Method.{Method}
use Rattle.forms.specs.Forms.{Listing, other_form}
use Rattle.forms.specs.declared.Form.{Form}
use Rattle.text_rules.specs.Numbers.{LARGEST}
use Rattle.text_rules.specs.Fields.{Text}
use Rattle.text_rules.specs.Rows.{write_row}
use Rattle.text_rules.specs.Names.{terms_line, positions_line, columns_in}
use Rattle.text_rules.specs.Text.{MOST_LINES, read_text, write_terms, write_text}
use Rattle.text_rules.specs.Calls.{write_into, change_into, MOST_CHANGED}
use Rattle.text_rules.specs.declared.TermsColumns.{TermsColumns}
use Rattle.text_rules.proofs.Claims.{reading, writing, changing, methods}

-- line 1, line 2 after the letter of its method, and the increment that they give; S is 3 and the draw 4
pub record FirstLines : Type 0 where
  pub first : String
  pub second : String
  pub increment : ℕ

abbrev without : String → FirstLines
without s = record { first = "method,exercised,draw\n"; second = s; increment = 25 }

abbrev with : String → ℕ → FirstLines
with s n = record { first = "method,exercised,draw,increment\n"; second = s; increment = n }

-- as they are written: the column is left out where the increment is 25, and no increment is judged
pub as_written : List FirstLines
as_written =
    with ",3,4,0\n" 0 ∷
    with ",3,4,7\n" 7 ∷
    with ",3,4,10\n" 10 ∷
    with ",3,4,24\n" 24 ∷
    without ",3,4\n" ∷
    with ",3,4,26\n" 26 ∷
    with ",3,4,1001\n" 1001 ∷
    with ",3,4,4294967295\n" 4294967295 ∷ []

-- as they may stand besides
pub as_read : List FirstLines
as_read =
    with ",3,4,25\n" 25 ∷
    with ",3,4,0000000010\n" 10 ∷
    with ",3,4,0000000000\n" 0 ∷
    with ",03,0000000004,00025\n" 25 ∷
    without ",0000000003,04\n" ∷ []

-- the lines of two positions in a form, and their listing with these codes
abbrev positions : Form → String
positions Form.Shorts = "account,short\n7,2\n8,5\n"
positions Form.LastNumbers = "account,last\n7,2\n8,7\n"

abbrev coded : List ℕ → Form → Method → ℕ → Listing
coded codes Form.Shorts m n = record { form = Form.Shorts; terms = terms_of m 3 4 n; codes = codes; accounts = 7 ∷ 8 ∷ []; numbers = 2 ∷ 5 ∷ [] }
coded codes Form.LastNumbers m n = record { form = Form.LastNumbers; terms = terms_of m 3 4 n; codes = codes; accounts = 7 ∷ 8 ∷ []; numbers = 2 ∷ 7 ∷ [] }

-- with the accounts as codes
abbrev listing : Form → Method → ℕ → Listing
listing = coded (7 ∷ 8 ∷ [])

-- a text of it, by the letter of its method
abbrev text_by : Form → ℕ → FirstLines → Text
text_by f l c = ascii c.first ++ (l ∷ (ascii c.second ++ ascii (positions f)))

abbrev forms : List Form
forms = Form.Shorts ∷ Form.LastNumbers ∷ []

abbrev letters : List ℕ
letters = ascii "WPLR"

-- the increment is handed back under each method, 25 without the column
pub increments_read : map (λ f. map (λ l. map (λ c. read_text (text_by f l c)) (as_written ++ as_read)) letters) forms ≡ map (λ f. map (λ m. map (λ c. value (listing f m c.increment)) (as_written ++ as_read)) methods) forms
unfolding reading as_written as_read
increments_read = refl

-- it is written under each method
pub increments_written : map (λ f. map (λ m. map (λ c. write_text (listing f m c.increment)) as_written) methods) forms ≡ map (λ f. map (λ l. map (λ c. text_by f l c) as_written) letters) forms
unfolding writing as_written
increments_written = refl

-- it is kept by the change to the other form and back
pub increments_changed : map (λ f. map (λ l. map (λ c. change_into (text_by f l c) 32768) as_written) letters) forms ≡ map (λ f. map (λ l. map (λ c. value (text_by (other_form f) l c)) as_written) letters) forms
unfolding changing as_written
increments_changed = refl

-- and spelled as it is written
pub spellings_changed : map (λ f. map (λ l. map (λ c. change_into (text_by f l c) 32768) as_read) letters) forms ≡ map (λ f. map (λ m. map (λ c. value (write_text (listing (other_form f) m c.increment))) as_read) methods) forms
unfolding changing as_read
spellings_changed = refl

-- ---- both columns that may be left out

-- a listing, and its text
pub record WrittenAs : Type 0 where
  pub listing : Listing
  pub text : String

-- neither, the increment, the codes, both
pub both_columns : List WrittenAs
both_columns =
    record { listing = coded (7 ∷ 8 ∷ []) Form.Shorts Method.Wheel 25; text = "method,exercised,draw\nW,3,4\naccount,short\n7,2\n8,5\n" } ∷
    record { listing = coded (7 ∷ 8 ∷ []) Form.Shorts Method.Wheel 10; text = "method,exercised,draw,increment\nW,3,4,10\naccount,short\n7,2\n8,5\n" } ∷
    record { listing = coded (1 ∷ 8 ∷ []) Form.Shorts Method.Wheel 25; text = "method,exercised,draw\nW,3,4\ncode,account,short\n1,7,2\n8,8,5\n" } ∷
    record { listing = coded (1 ∷ 8 ∷ []) Form.Shorts Method.Wheel 10; text = "method,exercised,draw,increment\nW,3,4,10\ncode,account,short\n1,7,2\n8,8,5\n" } ∷ []

-- each is written with all its bytes as room, meets 4 with one byte less, and is read again
pub both-written : map (λ c. let n = length (ascii c.text) in write_into c.listing n ∷ write_into c.listing (n - 1) ∷ []) both_columns ≡ map (λ c. value (ascii c.text) ∷ refused 4 ∷ []) both_columns
unfolding writing both_columns
both-written = refl

pub both_read : map (λ c. read_text (ascii c.text)) both_columns ≡ map (λ c. value c.listing) both_columns
unfolding reading both_columns
both_read = refl

-- ---- lengths

-- the largest numbers, and in the position the most contracts of a list
pub largest : Listing
largest = record { form = Form.Shorts; terms = terms_of Method.Wheel LARGEST LARGEST LARGEST; codes = 4294967294 ∷ []; accounts = LARGEST ∷ []; numbers = MOST_CONTRACTS ∷ [] }

pub largest_text : String
largest_text = "method,exercised,draw,increment\nW,4294967295,4294967295,4294967295\ncode,account,short\n4294967294,4294967295,10000000\n"

pub largest_written : (write_text largest ≡ ascii largest_text) × (read_text (ascii largest_text) ≡ value largest) × (length (ascii largest_text) ≡ 117)
unfolding reading writing largest largest_text
largest_written = (refl, refl, refl)

-- its lines: 32, 35, 19 and 31 bytes
abbrev lengths : List ℕ
lengths =
    length (terms_line TermsColumns.MethodExercisedDrawIncrement) ∷
    length (write_terms TermsColumns.MethodExercisedDrawIncrement largest.terms) ∷
    length (positions_line (columns_in Form.Shorts true)) ∷
    length (write_row (4294967294 ∷ LARGEST ∷ MOST_CONTRACTS ∷ [])) ∷ []

pub longest_lines : lengths ≡ 32 ∷ 35 ∷ 19 ∷ 31 ∷ []
unfolding writing largest
longest_lines = refl

-- the first three, and 1,024 of the last
pub most-changed : (32 + 35 + 19 ≡ 86) × (MOST_CHANGED ≡ 86 + 31 * MOST_LINES) × (MOST_CHANGED ≡ 31830)
most-changed = (refl, refl, refl)
