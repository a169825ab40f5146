-- Texts of exactly 32,768 and 32,769 bytes, written and read. Their lengths go by the laws of lines, since the texts themselves take long to compute.
use Prim.Native.Nat.{ℕ, zero, suc, ◌+◌, ◌*◌, ◌≤◌, ◌<◌}
use mathlib.Core.Path.{◌≡◌, refl, sym, ap, ap₂, ◌∙◌}
use mathlib.Core.Bool.{true}
use mathlib.Core.List.{List, [], ◌∷◌, ◌++◌, map}
use native.Mathlib.Omega.{arith}
use native.Mathlib.Numerals.{add-one}
use borrow.Author.Tests.{lt-ltb, le-ltb}
use lib.ListN.{length, get_or, replicate, length-append, length-replicate, get_or-append, get_or-replicate}
use lib.Seq.{get_or-append-add}
use Rattle.series.specs.Ascii.{ascii}
use Rattle.series.specs.Series.{DEFAULT_INCREMENT, terms_of}
use Rattle.series.specs.Results.{refused, value, status}
use Rattle.forms.specs.Forms.{Listing}
use Rattle.forms.specs.declared.Form.{Form}
use Rattle.series.specs.Sums.{listed}
use Rattle.series.specs.declared.Method.{Method}
use Rattle.text_rules.specs.Numbers.{LARGEST, decimal_in, decimal}
use Rattle.text_rules.specs.Fields.{Text, end_before, write_number}
use Rattle.text_rules.specs.Rows.{write_parted, write_row, write_rows, row_of, rows_of}
use Rattle.text_rules.specs.Names.{terms_line, code_name, account_name, form_name, account_line, positions_line}
use Rattle.text_rules.specs.Letters.{letter}
use Rattle.text_rules.specs.Text.{MOST_BYTES, read_head, read_text, write_terms, Optional, write_head, text_with, same_numbers, writes_codes, terms_columns, written_columns, write_text}
use Rattle.text_rules.specs.declared.TermsColumns.{TermsColumns}
use Rattle.text_rules.specs.Calls.{evenly, line_count, head_and_lines, write_into, length_of}
use Rattle.text_rules.specs.Lists.{Columns}
use Rattle.text_rules.proofs.RowLaws.{Fits, fits_none, fits_more}
use Rattle.text_rules.proofs.LengthLaws.{lines_of, lines_next_length, lines_all, lines_written}
use Rattle.text_rules.proofs.RoundTrip.{Writable, round_trip, too_long}

-- n positions of the largest numbers, of 33 bytes each with the code column, and then one more
pub large : ℕ → ℕ → ℕ → ℕ → Listing
large n code account number =
    let then : ℕ → List ℕ = λ k. replicate n 4294967295 ++ (k ∷ []) in
    record { form = Form.Shorts; terms = terms_of Method.Lottery 13 4855 DEFAULT_INCREMENT; codes = then code; accounts = then account; numbers = then number }

-- the definitions that a line, the head and the tests before them compute with
computing : Listing → Text
unfolding large end_before terms_line code_name account_name form_name account_line positions_line letter ascii decimal_in decimal write_number write_parted write_terms write_head same_numbers writes_codes terms_columns written_columns evenly line_count head_and_lines write_into length_of
computing t = write_text t

-- a series whose text has 32,768 bytes, and one whose text has one more
pub most : Listing
most = large 991 10000 100 101

pub over : Listing
over = large 991 100000 100 101

-- ---- n of the largest number, and then k

abbrev filled : ℕ → ℕ → List ℕ
filled n k = replicate n LARGEST ++ (k ∷ [])

filled_length : (n k : ℕ) → length (filled n k) ≡ n + 1
filled_length n k = length-append (replicate n LARGEST) (k ∷ []) ∙ ap (◌+ 1) (length-replicate n LARGEST)

filled_first : (n k i : ℕ) → i < n → get_or (filled n k) i 0 ≡ LARGEST
filled_first n k i lt = get_or-append (replicate n LARGEST) (k ∷ []) 0 i (omega (arith, length-replicate n LARGEST)) ∙ get_or-replicate n i LARGEST 0 lt

filled_last : (n k : ℕ) → get_or (filled n k) n 0 ≡ k
filled_last n k =
    let end : n ≡ length (replicate n LARGEST) + 0 = omega (arith, length-replicate n LARGEST) in
    ap (λ i. get_or (filled n k) i 0) end ∙ get_or-append-add (replicate n LARGEST) (k ∷ []) 0 0

filled_fits : (n k : ℕ) → k ≤ LARGEST → Fits (filled n k)
filled_fits zero k h = fits_more k [] h fits_none
filled_fits (suc n) k h = fits_more LARGEST (filled n k) (omega arith) (filled_fits n k h)

filled_columns : (n code account short : ℕ) → n < 1024 → Columns (filled n code) (filled n account) (filled n short)
filled_columns n code account short lt =
    record {
      codes = filled_length n code ∙ sym (filled_length n account);
      numbers = filled_length n short ∙ sym (filled_length n account);
      few = omega (arith, filled_length n account);
    }

-- ---- how long the text is

-- a line of the largest numbers
largest_line : length (write_row (LARGEST ∷ LARGEST ∷ LARGEST ∷ [])) ≡ 33
unfolding computing
largest_line = refl

module _ (n code account short : ℕ) where
  abbrev rows : ℕ → List ℕ
  rows i = row_of (filled n code ∷ filled n account ∷ filled n short ∷ []) i

  row_first : (i : ℕ) → i < n → rows i ≡ LARGEST ∷ LARGEST ∷ LARGEST ∷ []
  row_first i lt = rw (filled_first n code i lt, filled_first n account i lt, filled_first n short i lt)

  row_last : rows n ≡ code ∷ account ∷ short ∷ []
  row_last = rw (filled_last n code, filled_last n account, filled_last n short)

  lines_first : (m : ℕ) → m ≤ n → length (lines_of rows m) ≡ 33 * m
  unfolding listed write_rows
  lines_first zero h = refl
  lines_first (suc m) h =
      let line : length (write_row (rows m)) ≡ 33 = ap (λ r. length (write_row r)) (row_first m (omega arith)) ∙ largest_line in
      ap (λ k. length (lines_of rows k)) (sym (add-one m)) ∙ lines_next_length rows m ∙ omega (arith, lines_first m (omega arith))

  lines_long : length (write_rows (rows_of (filled n code ∷ filled n account ∷ filled n short ∷ []))) ≡ 33 * n + length (write_row (code ∷ account ∷ short ∷ []))
  lines_long =
      let line : length (write_row (rows n)) ≡ length (write_row (code ∷ account ∷ short ∷ [])) = ap (λ r. length (write_row r)) row_last in
      sym (ap length (lines_all (filled n code) (filled n account ∷ filled n short ∷ []) (n + 1) (sym (filled_length n code)))) ∙ lines_next_length rows n ∙ omega (arith, lines_first n (omega arith))

-- without the increment, with the codes
abbrev coded : Optional
coded = record { terms = TermsColumns.MethodExercisedDraw; coded = true }

head_long : length (write_head coded Form.Shorts (large 0 0 0 0).terms) ≡ 51
unfolding computing
head_long = refl

-- ---- what is written

most-columns : Columns most.codes most.accounts most.numbers
unfolding most large
most-columns = filled_columns 991 10000 100 101 (omega arith)

over_columns : Columns over.codes over.accounts over.numbers
unfolding over large
over_columns = filled_columns 991 100000 100 101 (omega arith)

most-coded : writes_codes most ≡ true
unfolding computing most
most-coded = refl

over_coded : writes_codes over ≡ true
unfolding computing over
over_coded = refl

-- the length of a text with the code column
text-long : (n code account short : ℕ) → writes_codes (large n code account short) ≡ true → length (write_text (large n code account short)) ≡ 51 + (33 * n + length (write_row (code ∷ account ∷ short ∷ [])))
unfolding write_text text_with written_columns terms_columns large
text-long n code account short is = rw is (length-append (write_head coded _ _) (write_rows (rows_of (filled n code ∷ filled n account ∷ filled n short ∷ []))) ∙ ap₂ ◌+◌ head_long (lines_long n code account short))

most-long : length (write_text most) ≡ 32768
unfolding computing most
most-long = text-long 991 10000 100 101 most-coded

over_long : length (write_text over) ≡ 32769
unfolding computing over
over_long = text-long 991 100000 100 101 over_coded

-- an output that is too short, and one that is not
module _ (t : Listing) (l : Columns t.codes t.accounts t.numbers) (fits : length (write_text t) ≤ MOST_BYTES) (room : ℕ) where
  room-short : room < length (write_text t) → write_into t room ≡ refused 4
  unfolding write_into write_text text_with written_columns
  room-short lt = rw (lines_written (write_head (written_columns t) t.form t.terms) (writes_codes t) t.codes t.accounts t.numbers l, le-ltb MOST_BYTES _ fits, lt-ltb room _ lt)

  room-enough : length (write_text t) ≤ room → write_into t room ≡ value (write_text t)
  unfolding write_into write_text text_with written_columns
  room-enough le = rw (lines_written (write_head (written_columns t) t.form t.terms) (writes_codes t) t.codes t.accounts t.numbers l, le-ltb MOST_BYTES _ fits, le-ltb room _ le)

too_many : length_of (write_into (large 1024 1 2 3) 0) ≡ refused 15
unfolding computing
too_many = refl

-- the first is written; of the second no text is, whether or not there is room, and 15 comes before
pub written_at_limit : map length_of (write_into most 32767 ∷ write_into most 32768 ∷ write_into over 0 ∷ write_into over 32769 ∷ write_into (large 1024 1 2 3) 0 ∷ [])
    ≡ refused 4 ∷ value 32768 ∷ refused 11 ∷ refused 11 ∷ refused 15 ∷ []
unfolding length_of
written_at_limit = rw (room-short most most-columns fits 32767 (omega (arith, most-long)), room-enough most most-columns fits 32768 (omega (arith, most-long)), too_long over over_columns past 0, too_long over over_columns past 32769, too_many, most-long)
  where
    fits : length (write_text most) ≤ MOST_BYTES
    fits = omega (arith, most-long)

    past : MOST_BYTES < length (write_text over)
    past = omega (arith, over_long)

-- ---- what is read

most_writable : Writable most
unfolding most large
most_writable =
    record {
      exercised = omega arith;
      draw = omega arith;
      increment = omega arith;
      codes = filled_fits 991 10000 (omega arith);
      accounts = filled_fits 991 100 (omega arith);
      numbers = filled_fits 991 101 (omega arith);
      lists = filled_columns 991 10000 100 101 (omega arith);
    }

text_over : (s : Text) → MOST_BYTES < length s → read_text s ≡ refused 11
unfolding read_text read_head
text_over s lt = rw (lt-ltb MOST_BYTES (length s) lt)

-- the first reads back, and a text of the second is refused
pub read_at_limit : map (λ s. status (read_text s)) (write_text most ∷ write_text over ∷ []) ≡ 0 ∷ 11 ∷ []
read_at_limit = rw (round_trip most most_writable (omega (arith, most-long)), text_over (write_text over) (omega (arith, over_long)))
