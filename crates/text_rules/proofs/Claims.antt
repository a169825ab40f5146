-- Document 01's case M and its refusals, and document 02's leading zeros, codes, last numbers and change, proved of the definitions by computation. Texts at the limit of 32,768 bytes: `series_text_test/proofs/LargestTexts.antt`.
use Prim.Native.Nat.{ℕ, zero, suc, ◌-◌}
use Prim.Native.String.{String}
use mathlib.Core.Path.{◌≡◌, refl}
use mathlib.Core.Bool.{Bool, true, false}
use mathlib.Core.List.{List, [], ◌∷◌, ◌++◌, map}
use lib.ListN.{length, replicate}
use Rattle.series.specs.Ascii.{ascii}
use Rattle.series.specs.Results.{Result, refused, value, ◌>>=◌, status}
use Rattle.series.specs.Series.{DEFAULT_INCREMENT, terms_of}
use Rattle.series.specs.Outputs.{onto, lent}
use Rattle.series.specs.Places.{total}
use Rattle.series.specs.Refusals.{first, length_rows, room_rows, stands_in, without, account_refused, position_rows, list_rows, list_verdict}
use Rattle.forms.specs.Forms.{Listing, differences, sums, list_verdict_in, changed}
use Rattle.forms.specs.declared.Form.{Form}
use Rattle.series.specs.Sums.{listed}
use Rattle.series.specs.declared.Method.{Method}
use Rattle.text_rules.specs.Numbers.{digit, digits, spelled, amount_from, amount, numeral, number, decimal_in, decimal}
use Rattle.text_rules.specs.Fields.{Text, Read, ends, field, past, field_by, end_before, read_fields, write_number}
use Rattle.text_rules.specs.Rows.{numbers, read_row, read_rows, write_parted, write_rows, rows_of, column}
use Rattle.text_rules.specs.Names.{line1, line3, terms_line, code_name, account_name, form_name, account_line, positions_line, columns_in, after_line, names_or, read_names}
use Rattle.text_rules.specs.Letters.{letter, method_among, method_by, method_of}
use Rattle.text_rules.specs.Text.{read_terms, read_head, read_positions, read_text, write_terms, write_head, text_with, same_numbers, writes_codes, terms_columns, written_columns, write_text}
use Rattle.text_rules.specs.Calls.{ListsRead, read_into, evenly, line_count, head_and_lines, lines_into, write_into, changed_into, change_into, table_into, note_into, length_of}
use Rattle.text_rules.specs.declared.TermsColumns.{TermsColumns}
use Rattle.text_rules.specs.declared.PositionColumns.{PositionColumns}

-- the line `unfolding` names every definition that reading computes with
unfoldable pub reading : Text → Result Listing
unfolding digit digits spelled amount_from amount numeral number ends field past field_by end_before read_fields numbers read_row read_rows column terms_line code_name account_name form_name account_line positions_line after_line names_or read_names letter method_among method_by method_of read_terms read_head read_positions read_text ascii
reading s = read_text s

-- case M: each code is its account
pub M : Listing
M =
    record {
      form = Form.Shorts;
      terms = terms_of Method.Lottery 13 4855 DEFAULT_INCREMENT;
      codes = 1 ∷ 2 ∷ 3 ∷ 4 ∷ 5 ∷ [];
      accounts = 1 ∷ 2 ∷ 3 ∷ 4 ∷ 5 ∷ [];
      numbers = 5 ∷ 8 ∷ 2 ∷ 10 ∷ 11 ∷ [];
    }

pub M_text : Text
M_text = ascii "method,exercised,draw\nL,13,4855\naccount,short\n1,5\n2,8\n3,2\n4,10\n5,11\n"

pub M_read : read_text M_text ≡ value M
unfolding reading M M_text
M_read = refl

-- with the code column it reads as the same series
pub M_long : Text
M_long = ascii "method,exercised,draw\nL,13,4855\ncode,account,short\n1,1,5\n2,2,8\n3,3,2\n4,4,10\n5,5,11\n"

pub M_long_read : read_text M_long ≡ value M
unfolding reading M M_long
M_long_read = refl

-- M under W, with codes of its own, and an account lower than the one before it
pub M_coded : Listing
M_coded =
    record {
      form = Form.Shorts;
      terms = terms_of Method.Wheel 13 4855 DEFAULT_INCREMENT;
      codes = 10 ∷ 20 ∷ 30 ∷ 40 ∷ 50 ∷ [];
      accounts = 1 ∷ 3 ∷ 2 ∷ 4 ∷ 5 ∷ [];
      numbers = 5 ∷ 8 ∷ 2 ∷ 10 ∷ 11 ∷ [];
    }

pub coded-text : Text
coded-text = ascii "method,exercised,draw\nW,13,4855\ncode,account,short\n10,1,5\n20,3,8\n30,2,2\n40,4,10\n50,5,11\n"

pub coded_read : read_text coded-text ≡ value M_coded
unfolding reading M_coded coded-text
coded_read = refl

-- the definitions that writing computes with
unfoldable pub writing : Listing → ℕ → Result Text
unfolding ascii decimal_in decimal write_number end_before write_parted write_rows listed rows_of terms_line code_name account_name form_name account_line positions_line letter write_terms write_head text_with same_numbers writes_codes terms_columns written_columns write_text evenly line_count head_and_lines write_into
writing t room = write_into t room

-- without the code column
pub M_written : write_text M ≡ M_text
unfolding writing M M_text
M_written = refl

-- with it
pub coded-written : write_text M_coded ≡ coded-text
unfolding writing M_coded coded-text
coded-written = refl

-- n times the text t
pub repeated : ℕ → Text → Text
repeated zero t = []
repeated (suc n) t = t ++ repeated n t

-- lines 1 to 3, as they should be, with the code column or without it
pub head : Bool → Text
head c = ascii "method,exercised,draw\nW,1,1\n" ++ positions_line (columns_in Form.Shorts c)

-- a text and the number of its refusal, 0 where it is read
pub record TextCase : Type 0 where
  pub number : ℕ
  pub text : Text

-- a text from its first line on
abbrev whole : ℕ → String → TextCase
whole n s = record { number = n; text = ascii s }

-- a text after a good line 1
abbrev terms : ℕ → String → TextCase
terms n s = record { number = n; text = terms_line TermsColumns.MethodExercisedDraw ++ ascii s }

-- a text after a good line 1 with the increment
abbrev incremented : ℕ → String → TextCase
incremented n s = record { number = n; text = terms_line TermsColumns.MethodExercisedDrawIncrement ++ ascii s }

-- a text after three good lines
abbrev after_head : Bool → ℕ → String → TextCase
after_head c n s = record { number = n; text = head c ++ ascii s }

abbrev lines : ℕ → String → TextCase
lines = after_head false

abbrev coded_lines : ℕ → String → TextCase
coded_lines = after_head true

-- a text after three good lines and 1,024 times a good position line
abbrev most : Bool → String → ℕ → String → TextCase
most c line n s = record { number = n; text = head c ++ (repeated 1024 (ascii line) ++ ascii s) }

-- n bytes, after the text s
abbrev long : ℕ → Text → ℕ → TextCase
long r s n = record { number = r; text = s ++ replicate n 49 }

pub texts : List TextCase
texts =
    -- read: no positions, the largest number, zero, leading zeros in every field, 1,024 positions, all also with the code column
    lines 0 "" ∷
    lines 0 "4294967295,0\n" ∷
    terms 0 "P,0,4294967295\naccount,short\n0,0\n" ∷
    terms 0 "P,01,00\naccount,short\n001,0002\n" ∷
    most false "1,1\n" 0 "" ∷
    coded_lines 0 "" ∷
    coded_lines 0 "4294967295,0,4294967295\n0,4294967295,0\n" ∷
    terms 0 "P,01,00\ncode,account,short\n0003,001,0002\n" ∷
    most true "1,1,1\n" 0 "" ∷
    -- 32,769 bytes, whatever they are; 32,768 bytes are judged by their lines
    long 11 [] 32769 ∷
    long 11 (head false) 32727 ∷
    long 13 (head false) 32726 ∷
    long 12 [] 32768 ∷
    -- line 1: missing, a carriage return, no byte 10, another name
    whole 12 "" ∷
    whole 12 "method,exercised,draw\r\nW,1,1\naccount,short\n" ∷
    whole 12 "method,exercised,draw" ∷
    whole 12 "method,exercised,drew\nW,1,1\naccount,short\n" ∷
    -- with the increment: before the draw, no byte 10, a carriage return, another name, a capital letter
    whole 12 "method,exercised,increment,draw\nW,1,10,1\naccount,short\n" ∷
    whole 12 "method,exercised,draw,increment" ∷
    whole 12 "method,exercised,draw,increment\r\nW,1,1,10\naccount,short\n" ∷
    whole 12 "method,exercised,draw,increments\nW,1,1,10\naccount,short\n" ∷
    whole 12 "Method,exercised,draw,increment\nW,1,1,10\naccount,short\n" ∷
    -- line 3: missing, no byte 10, a carriage return, another name
    terms 12 "W,1,1\n" ∷
    terms 12 "W,1,1\naccount,short" ∷
    terms 12 "W,1,1\naccount,short\r\n1,1\n" ∷
    terms 12 "W,1,1\naccount,shorts\n1,1\n" ∷
    terms 12 "W,1,1\ncode,account,short" ∷
    terms 12 "W,1,1\ncode,account,short\r\n1,1,1\n" ∷
    terms 12 "W,1,1\ncode,account,shorts\n1,1,1\n" ∷
    incremented 12 "W,1,1,10\naccount,shorts\n1,1\n" ∷
    -- line 2: missing, empty, two fields, four fields, no byte 10
    terms 13 "" ∷
    terms 13 "\naccount,short\n" ∷
    terms 13 "W,1\naccount,short\n" ∷
    terms 13 "W,1,1,1\naccount,short\n" ∷
    terms 13 "W,1,1" ∷
    -- where line 1 has the increment: missing, three fields, five fields, no byte 10
    incremented 13 "" ∷
    incremented 13 "W,1,1\naccount,short\n" ∷
    incremented 13 "W,1,1,10,1\naccount,short\n" ∷
    incremented 13 "W,1,1,10" ∷
    -- an unknown method with a field missing or too many; line 2 and line 3 both faulty
    terms 13 "X,1\naccount,short\n" ∷
    terms 13 "X,1,1,10\naccount,short\n" ∷
    incremented 13 "X,1,1\naccount,short\n" ∷
    incremented 13 "X,1,1,10,1\naccount,short\n" ∷
    terms 13 "W,1,x\naccount,shorts\n" ∷
    incremented 13 "W,1,1,x\naccount,shorts\n" ∷
    -- the method: unknown, a small letter, missing, two letters, unknown with a malformed number or empty fields and a faulty line 3
    terms 14 "X,1,1\naccount,short\n" ∷
    terms 14 "w,1,1\naccount,short\n" ∷
    terms 14 ",1,1\naccount,short\n" ∷
    terms 14 "WW,1,1\naccount,short\n" ∷
    terms 14 "X,x1,1\naccount,short\n" ∷
    terms 14 "X,,\naccount\n" ∷
    incremented 14 "X,1,1,10\naccount,short\n" ∷
    incremented 14 ",1,1,10\naccount,short\n" ∷
    incremented 14 "X,1,1,x\naccount,short\n" ∷
    incremented 14 "X,,,\naccount\n" ∷
    -- a number of line 2: empty, one above the largest, a sign, a space, a carriage return
    terms 13 "W,,1\naccount,short\n" ∷
    terms 13 "W,4294967296,1\naccount,short\n" ∷
    terms 13 "W,-1,1\naccount,short\n" ∷
    terms 13 "W, 1,1\naccount,short\n" ∷
    terms 13 "W,1,1\r\naccount,short\n" ∷
    -- the increment: empty, a space after it or before it, a sign, a carriage return; the draw before it
    incremented 13 "W,1,1,\naccount,short\n" ∷
    incremented 13 "W,1,1,25 \naccount,short\n" ∷
    incremented 13 "W,1,1, 25\naccount,short\n" ∷
    incremented 13 "W,1,1,-1\naccount,short\n" ∷
    incremented 13 "W,1,1,25\r\naccount,short\n" ∷
    incremented 13 "W,1,,25\naccount,short\n" ∷
    -- a position line: empty, one number, three numbers, the last one without byte 10, empty fields
    lines 13 "\n" ∷
    lines 13 "1,1\n\n" ∷
    lines 13 "1\n" ∷
    lines 13 "1,1,1\n" ∷
    lines 13 "1,1\n2,2" ∷
    lines 13 ",\n" ∷
    lines 13 "1,\n" ∷
    -- with the code column: two numbers, four numbers, an empty code
    coded_lines 13 "1,1\n" ∷
    coded_lines 13 "1,1,1,1\n" ∷
    coded_lines 13 ",1,1\n" ∷
    -- one above the largest, eleven digits, a carriage return, a letter after good lines
    lines 13 "4294967296,1\n" ∷
    lines 13 "1,42949672950\n" ∷
    lines 13 "1,1\r\n" ∷
    lines 13 "1,1\n2,2\n3,x\n" ∷
    -- a 1,025th line, also where it is malformed
    most false "1,1\n" 15 "1,1\n" ∷
    most false "1,1\n" 15 "x" ∷
    most false "1,1\n" 15 "\n" ∷
    most true "1,1,1\n" 15 "1,1,1\n" ∷
    most true "1,1,1\n" 15 "x" ∷ []

-- the number of the refusal that each text meets, 0 where it is read
pub judged : map (λ r. status (read_text r.text)) texts ≡ map (λ r. r.number) texts
unfolding reading repeated head texts
judged = refl

-- ---- leading zeros

-- digits, and what they read as
pub record Spelling : Type 0 where
  pub digits : Text
  pub number : Result ℕ

abbrev reads : String → ℕ → Spelling
reads s n = record { digits = ascii s; number = value n }

abbrev malformed : String → Spelling
malformed s = record { digits = ascii s; number = refused 13 }

pub spellings : List Spelling
spellings =
    reads "0001" 1 ∷
    reads "0000000000" 0 ∷
    reads "0000000001" 1 ∷
    malformed "00000000001" ∷
    malformed "00000000000" ∷
    reads "4294967295" 4294967295 ∷
    malformed "04294967295" ∷
    malformed "4294967296" ∷
    malformed "9999999999" ∷ []

-- a field of a text: the text with these digits in the field, and the series with this number there
pub record FieldCase : Type 0 where
  pub text : Text → Text
  pub series : ℕ → Listing

-- a series of one position under W
abbrev one_by : ℕ → ℕ → ℕ → ℕ → ℕ → ℕ → Listing
one_by increment exercised draw code account short =
    record { form = Form.Shorts; terms = terms_of Method.Wheel exercised draw increment; codes = code ∷ []; accounts = account ∷ []; numbers = short ∷ [] }

abbrev one : ℕ → ℕ → ℕ → ℕ → ℕ → Listing
one = one_by DEFAULT_INCREMENT

-- the account, which is the code too, the shorts, the code, S, the draw and the increment
pub fields : List FieldCase
fields =
    record { text = λ d. head false ++ d ++ ascii ",2\n"; series = λ n. one 1 1 n n 2 } ∷
    record { text = λ d. head false ++ ascii "7," ++ d ++ ascii "\n"; series = λ n. one 1 1 7 7 n } ∷
    record { text = λ d. head true ++ d ++ ascii ",7,2\n"; series = λ n. one 1 1 n 7 2 } ∷
    record { text = λ d. head true ++ ascii "9," ++ d ++ ascii ",2\n"; series = λ n. one 1 1 9 n 2 } ∷
    record { text = λ d. head true ++ ascii "9,7," ++ d ++ ascii "\n"; series = λ n. one 1 1 9 7 n } ∷
    record { text = λ d. terms_line TermsColumns.MethodExercisedDraw ++ ascii "W," ++ d ++ ascii ",1\naccount,short\n7,2\n"; series = λ n. one n 1 7 7 2 } ∷
    record { text = λ d. terms_line TermsColumns.MethodExercisedDraw ++ ascii "W,1," ++ d ++ ascii "\naccount,short\n7,2\n"; series = λ n. one 1 n 7 7 2 } ∷
    record { text = λ d. terms_line TermsColumns.MethodExercisedDrawIncrement ++ ascii "W,1,1," ++ d ++ ascii "\naccount,short\n7,2\n"; series = λ n. one_by n 1 1 7 7 2 } ∷ []

-- each spelling in each field: the series with its number there, or 13
pub spellings_judged : map (λ f. map (λ c. read_text (f.text c.digits)) spellings) fields ≡ map (λ f. map (λ c. c.number >>= λ n. value (f.series n)) spellings) fields
unfolding reading head spellings fields
spellings_judged = refl

-- ---- the names lines

-- a text, and what reading its names line gives
pub record NamesRow (A : Type 0) : Type 0 where
  pub text : Text
  pub answer : Result (Read A)

-- the columns c are found in the text, and what follows their line is left
abbrev found : {A : Type 0} → String → A → String → NamesRow A
found s c rest = record { text = ascii s; answer = value (record { found = c; rest = ascii rest }) }

-- no known line is found in the text
abbrev unknown : {A : Type 0} → String → NamesRow A
unknown s = record { text = ascii s; answer = refused 12 }

-- line 1
pub terms_names : List (NamesRow TermsColumns)
terms_names =
    -- the line, and nothing after it or a byte too many
    found "method,exercised,draw\n" TermsColumns.MethodExercisedDraw "" ∷
    found "method,exercised,draw\nW" TermsColumns.MethodExercisedDraw "W" ∷
    found "method,exercised,draw,increment\n" TermsColumns.MethodExercisedDrawIncrement "" ∷
    found "method,exercised,draw,increment\nW" TermsColumns.MethodExercisedDrawIncrement "W" ∷
    -- no byte 10, a byte too many before it, a byte too few
    unknown "method,exercised,draw" ∷
    unknown "method,exercised,draws\n" ∷
    unknown "method,exercised,dra\n" ∷
    unknown "method,exercised,draw,increment" ∷
    unknown "method,exercised,draw,increments\n" ∷
    unknown "method,exercised,draw,incremen\n" ∷
    -- a capital letter
    unknown "Method,exercised,draw\n" ∷
    unknown "Method,exercised,draw,increment\n" ∷
    unknown "method,exercised,draw,Increment\n" ∷
    -- a comma and no name, the increment before the draw
    unknown "method,exercised,draw," ∷
    unknown "method,exercised,draw,\n" ∷
    unknown "method,exercised,increment,draw\n" ∷
    -- the words of line 3
    unknown "account,short\n" ∷
    unknown "code,account,short\n" ∷
    unknown "account,last\n" ∷
    unknown "code,account,last\n" ∷
    -- no text
    unknown "" ∷ []

-- line 3
pub position_names : List (NamesRow PositionColumns)
position_names =
    -- the line, and nothing after it or a byte too many
    found "account,short\n" (columns_in Form.Shorts false) "" ∷
    found "account,short\n1" (columns_in Form.Shorts false) "1" ∷
    found "code,account,short\n" (columns_in Form.Shorts true) "" ∷
    found "code,account,short\n1" (columns_in Form.Shorts true) "1" ∷
    found "account,last\n" (columns_in Form.LastNumbers false) "" ∷
    found "account,last\n1" (columns_in Form.LastNumbers false) "1" ∷
    found "code,account,last\n" (columns_in Form.LastNumbers true) "" ∷
    found "code,account,last\n1" (columns_in Form.LastNumbers true) "1" ∷
    -- no byte 10, a byte too many before it, a byte too few
    unknown "account,short" ∷
    unknown "account,shorts\n" ∷
    unknown "account,shor\n" ∷
    unknown "code,account,short" ∷
    unknown "code,account,shorts\n" ∷
    unknown "code,account,shor\n" ∷
    unknown "account,last" ∷
    unknown "account,lasts\n" ∷
    unknown "account,las\n" ∷
    unknown "code,account,last" ∷
    unknown "code,account,lasts\n" ∷
    unknown "code,account,las\n" ∷
    -- the words in another order, twice, or not all of them
    unknown "account,code,short\n" ∷
    unknown "code,code,account,short\n" ∷
    unknown "code,short\n" ∷
    unknown "account,\n" ∷
    unknown "short\n" ∷
    -- the words of line 1
    unknown "method,exercised,draw\n" ∷
    -- no text
    unknown "" ∷ []

pub names_judged : (map (λ r. read_names terms_line line1 r.text) terms_names ≡ map (λ r. r.answer) terms_names) × (map (λ r. read_names positions_line line3 r.text) position_names ≡ map (λ r. r.answer) position_names)
unfolding reading terms_names position_names
names_judged = (refl, refl)

-- ---- writing

-- M's terms with so many codes, accounts and numbers
abbrev counted : ℕ → ℕ → ℕ → Listing
counted codes accounts numbers = record { form = Form.Shorts; terms = M.terms; codes = replicate codes 1; accounts = replicate accounts 1; numbers = replicate numbers 1 }

-- a series, the length of the output, and the length of the text that is written, or the refusal
pub record WritingCase : Type 0 where
  pub series : Listing
  pub room : ℕ
  pub answer : Result ℕ

abbrev writes : Listing → ℕ → Result ℕ → WritingCase
writes t room answer = record { series = t; room = room; answer = answer }

pub writings : List WritingCase
writings =
    -- one list is longer or shorter than the others, before 15
    writes (counted 1024 1025 1025) 0 (refused 1) ∷
    writes (counted 1025 1024 1025) 0 (refused 1) ∷
    writes (counted 1025 1025 1024) 0 (refused 1) ∷
    writes (counted 0 1 1) 0 (refused 1) ∷
    -- 1,025 positions, before 4
    writes (counted 1025 1025 1025) 0 (refused 15) ∷
    -- the series above
    writes M 67 (refused 4) ∷
    writes M 68 (value 68) ∷
    writes M_coded 87 (refused 4) ∷
    writes M_coded 88 (value 88) ∷ []

pub writings_judged : map (λ r. length_of (write_into r.series r.room)) writings ≡ map (λ r. r.answer) writings
unfolding writing M M_coded writings length_of
writings_judged = refl

-- case M, 68 bytes
pub M_writing : write_into M 68 ≡ value M_text
unfolding writing M M_text
M_writing = refl

-- last of all 4: a lent list is shorter than the positions
pub M_reading : (read_into M_text 4 5 5 ≡ refused 4) × (read_into M_text 5 4 5 ≡ refused 4) × (read_into M_text 5 5 4 ≡ refused 4) × (read_into M_text 5 5 5 ≡ value M)
unfolding reading M M_text read_into
M_reading = (refl, refl, refl, refl)

-- ---- last numbers, and the change

-- case M by its last numbers
pub M_lasts : Listing
M_lasts =
    record {
      form = Form.LastNumbers;
      terms = terms_of Method.Lottery 13 4855 DEFAULT_INCREMENT;
      codes = 1 ∷ 2 ∷ 3 ∷ 4 ∷ 5 ∷ [];
      accounts = 1 ∷ 2 ∷ 3 ∷ 4 ∷ 5 ∷ [];
      numbers = 5 ∷ 13 ∷ 15 ∷ 25 ∷ 36 ∷ [];
    }

pub lasts_text : Text
lasts_text = ascii "method,exercised,draw\nL,13,4855\naccount,last\n1,5\n2,13\n3,15\n4,25\n5,36\n"

pub lasts_read : read_text lasts_text ≡ value M_lasts
unfolding reading M_lasts lasts_text
lasts_read = refl

pub lasts_written : write_text M_lasts ≡ lasts_text
unfolding writing M_lasts lasts_text
lasts_written = refl

-- no last number is judged in reading: they fall, and are 0 and the largest number. Nor in writing: `unjudged_written` below
pub unjudged : read_text (ascii "method,exercised,draw\nW,1,1\ncode,account,last\n1,9,4294967295\n2,8,0\n") ≡ value (record { form = Form.LastNumbers; terms = terms_of Method.Wheel 1 1 DEFAULT_INCREMENT; codes = 1 ∷ 2 ∷ []; accounts = 9 ∷ 8 ∷ []; numbers = 4294967295 ∷ 0 ∷ [] })
unfolding reading
unjudged = refl

-- the definitions that the change computes with
unfoldable pub changing : Text → ℕ → Result Text
unfolding reading writing differences sums list_verdict_in list_verdict without list_rows first length_rows room_rows position_rows account_refused stands_in total changed changed_into change_into
changing s room = change_into s room

-- a text, the length of the output, and the changed text or the refusal
pub record ChangeCase : Type 0 where
  pub text : String
  pub room : ℕ
  pub answer : Result String

abbrev changes : String → String → ChangeCase
changes s t = record { text = s; room = 32768; answer = value t }

abbrev turns : String → ℕ → ChangeCase
turns s n = record { text = s; room = 32768; answer = refused n }

pub change_cases : List ChangeCase
change_cases =
    -- case M there and back, and with a column of codes that is left out
    changes "method,exercised,draw\nL,13,4855\naccount,short\n1,5\n2,8\n3,2\n4,10\n5,11\n" "method,exercised,draw\nL,13,4855\naccount,last\n1,5\n2,13\n3,15\n4,25\n5,36\n" ∷
    changes "method,exercised,draw\nL,13,4855\naccount,last\n1,5\n2,13\n3,15\n4,25\n5,36\n" "method,exercised,draw\nL,13,4855\naccount,short\n1,5\n2,8\n3,2\n4,10\n5,11\n" ∷
    changes "method,exercised,draw\nL,13,4855\ncode,account,last\n01,1,5\n2,02,13\n" "method,exercised,draw\nL,13,4855\naccount,short\n1,5\n2,8\n" ∷
    -- a wheel list with codes
    changes "method,exercised,draw\nW,175,1\ncode,account,short\n10,500,60\n20,700,200\n30,510,95\n" "method,exercised,draw\nW,175,1\ncode,account,last\n10,500,60\n20,700,260\n30,510,355\n" ∷
    -- S and the draw are not judged
    changes "method,exercised,draw\nL,0,0\naccount,short\n1,5\n" "method,exercised,draw\nL,0,0\naccount,last\n1,5\n" ∷
    changes "method,exercised,draw\nW,6,7\naccount,last\n1,5\n" "method,exercised,draw\nW,6,7\naccount,short\n1,5\n" ∷
    -- the increment 10, with codes, there and back; a column with 25 is left out
    changes "method,exercised,draw,increment\nW,175,1,10\ncode,account,short\n10,500,60\n20,700,200\n" "method,exercised,draw,increment\nW,175,1,10\ncode,account,last\n10,500,60\n20,700,260\n" ∷
    changes "method,exercised,draw,increment\nW,175,1,10\ncode,account,last\n10,500,60\n20,700,260\n" "method,exercised,draw,increment\nW,175,1,10\ncode,account,short\n10,500,60\n20,700,200\n" ∷
    changes "method,exercised,draw,increment\nW,175,1,25\naccount,short\n1,5\n" "method,exercised,draw\nW,175,1\naccount,last\n1,5\n" ∷
    -- the refusals of the text, of its line 2 and of a position line
    turns "" 12 ∷
    turns "method,exercised,draw\nX,1,1\naccount,last\n1,0\n" 14 ∷
    turns "method,exercised,draw,increment\nL,1,1\naccount,last\n1,0\n" 13 ∷
    turns "method,exercised,draw\nL,1,1\naccount,last\n1,0\n2,x\n" 13 ∷
    -- those of the list: none, 5, 6 and 7
    turns "method,exercised,draw\nL,1,1\naccount,last\n" 3 ∷
    turns "method,exercised,draw\nL,1,1\naccount,short\n" 3 ∷
    turns "method,exercised,draw\nL,1,1\naccount,last\n2,5\n1,4\n" 5 ∷
    turns "method,exercised,draw\nL,1,1\naccount,short\n1,5\n2,0\n" 6 ∷
    turns "method,exercised,draw\nL,1,1\naccount,short\n1,10000000\n2,1\n" 7 ∷
    -- 20: two last numbers are equal, one falls, the first is 0
    turns "method,exercised,draw\nL,1,1\naccount,last\n1,5\n2,5\n" 20 ∷
    turns "method,exercised,draw\nL,1,1\naccount,last\n1,5\n2,4\n" 20 ∷
    turns "method,exercised,draw\nL,1,1\naccount,last\n1,0\n2,4\n" 20 ∷
    -- 10,000,000 contracts, and one more
    changes "method,exercised,draw\nL,1,1\naccount,last\n1,5\n2,10000000\n" "method,exercised,draw\nL,1,1\naccount,short\n1,5\n2,9999995\n" ∷
    turns "method,exercised,draw\nL,1,1\naccount,last\n1,5\n2,10000001\n" 7 ∷
    -- under W with codes 5, then 19, then 20, and then 7
    turns "method,exercised,draw\nW,1,1\ncode,account,last\n10,500,60\n10,500,60\n" 5 ∷
    turns "method,exercised,draw\nW,1,1\ncode,account,last\n10,500,60\n20,500,60\n" 19 ∷
    turns "method,exercised,draw\nW,1,1\ncode,account,last\n10,500,60\n20,600,60\n" 20 ∷
    turns "method,exercised,draw\nW,1,1\ncode,account,last\n10,500,60\n20,600,10000001\n" 7 ∷
    -- last of all 4, for an output that is one byte too short
    record { text = "method,exercised,draw\nL,1,1\naccount,short\n1,5\n"; room = 44; answer = refused 4 } ∷
    record { text = "method,exercised,draw\nL,1,1\naccount,short\n1,5\n"; room = 45; answer = value "method,exercised,draw\nL,1,1\naccount,last\n1,5\n" } ∷ []

pub changes_judged : map (λ c. change_into (ascii c.text) c.room) change_cases ≡ map (λ c. c.answer >>= λ t. value (ascii t)) change_cases
unfolding changing change_cases
changes_judged = refl

-- ---- the room for a change

-- with no room at all each refusal of the text and of its list stands, and what is not refused meets 4
pub without-room : map (λ c. change_into (ascii c.text) 0) change_cases ≡ map (λ c. c.answer >>= λ t. refused 4) change_cases
unfolding changing change_cases
without-room = refl

-- a changed text needs all its bytes: one less is 4, and as many are enough
pub one_byte_less : map (λ c. c.answer >>= λ t. change_into (ascii c.text) (length (ascii t) - 1)) change_cases ≡ map (λ c. c.answer >>= λ t. refused 4) change_cases
unfolding changing change_cases
one_byte_less = refl

pub room-enough : map (λ c. c.answer >>= λ t. change_into (ascii c.text) (length (ascii t))) change_cases ≡ map (λ c. c.answer >>= λ t. value (ascii t)) change_cases
unfolding changing change_cases
room-enough = refl

-- ---- what writing does not judge

-- lists under any method in a form, and their lines from line 2 on, after the method
pub record Unjudged : Type 0 where
  pub form : Form
  pub codes : List ℕ
  pub accounts : List ℕ
  pub numbers : List ℕ
  pub text : String

-- accounts 1 and 2, which are their codes
abbrev numbered : Form → ℕ → ℕ → String → Unjudged
numbered f m n s = record { form = f; codes = 1 ∷ 2 ∷ []; accounts = 1 ∷ 2 ∷ []; numbers = m ∷ n ∷ []; text = s }

-- two positions of one contract each
abbrev ordered : List ℕ → List ℕ → String → Unjudged
ordered codes accounts s = record { form = Form.Shorts; codes = codes; accounts = accounts; numbers = 1 ∷ 1 ∷ []; text = s }

pub unjudged_lists : List Unjudged
unjudged_lists =
    -- last numbers that rise, repeat, fall, begin with 0, and pass 10,000,000
    numbered Form.LastNumbers 5 13 ",0,0\naccount,last\n1,5\n2,13\n" ∷
    numbered Form.LastNumbers 5 5 ",0,0\naccount,last\n1,5\n2,5\n" ∷
    numbered Form.LastNumbers 5 4 ",0,0\naccount,last\n1,5\n2,4\n" ∷
    numbered Form.LastNumbers 0 5 ",0,0\naccount,last\n1,0\n2,5\n" ∷
    numbered Form.LastNumbers 10000000 10000001 ",0,0\naccount,last\n1,10000000\n2,10000001\n" ∷
    -- shorts of 0, and above 10,000,000
    numbered Form.Shorts 0 0 ",0,0\naccount,short\n1,0\n2,0\n" ∷
    numbered Form.Shorts 4294967295 1 ",0,0\naccount,short\n1,4294967295\n2,1\n" ∷
    -- accounts that fall, repeat and are 0, with codes that do not; codes that fall, repeat and are 0
    ordered (1 ∷ 2 ∷ []) (9 ∷ 8 ∷ []) ",0,0\ncode,account,short\n1,9,1\n2,8,1\n" ∷
    ordered (1 ∷ 2 ∷ []) (9 ∷ 9 ∷ []) ",0,0\ncode,account,short\n1,9,1\n2,9,1\n" ∷
    ordered (1 ∷ 2 ∷ []) (0 ∷ 9 ∷ []) ",0,0\ncode,account,short\n1,0,1\n2,9,1\n" ∷
    ordered (2 ∷ 1 ∷ []) (8 ∷ 9 ∷ []) ",0,0\ncode,account,short\n2,8,1\n1,9,1\n" ∷
    ordered (2 ∷ 2 ∷ []) (8 ∷ 9 ∷ []) ",0,0\ncode,account,short\n2,8,1\n2,9,1\n" ∷
    ordered (0 ∷ 2 ∷ []) (8 ∷ 9 ∷ []) ",0,0\ncode,account,short\n0,8,1\n2,9,1\n" ∷
    -- no positions
    record { form = Form.LastNumbers; codes = []; accounts = []; numbers = []; text = ",0,0\naccount,last\n" } ∷ []

-- the methods, whose letters are W, P, L and R
abbrev pub methods : List Method
methods = Method.Wheel ∷ Method.ProRata ∷ Method.Lottery ∷ Method.RemainderDraw ∷ []

-- each is written under each method, with S and a draw of 0
pub unjudged_written : map (λ m. map (λ u. write_into (record { form = u.form; terms = terms_of m 0 0 DEFAULT_INCREMENT; codes = u.codes; accounts = u.accounts; numbers = u.numbers }) 32768) unjudged_lists) methods
    ≡ map (λ l. map (λ u. value (terms_line TermsColumns.MethodExercisedDraw ++ (l ∷ ascii u.text))) unjudged_lists) (ascii "WPLR")
unfolding writing unjudged_lists
unjudged_written = refl

-- ---- tables and notes

-- the definitions that writing a table or a note computes with
tabling : Text → List ℕ → List ℕ → ℕ → Result Text
unfolding writing lines_into table_into note_into
tabling names accounts counts room = table_into names accounts counts room

-- what is written to an output of a length, and the text
pub record LinesCase : Type 0 where
  pub written : ℕ → Result Text
  pub text : String

abbrev table : String → List ℕ → List ℕ → String → LinesCase
table names accounts counts s = record { written = table_into (ascii names) accounts counts; text = s }

abbrev note : String → ℕ → String → LinesCase
note names n s = record { written = note_into (ascii names) n; text = s }

pub lines_cases : List LinesCase
lines_cases =
    table "account,assigned\n" (7 ∷ 10 ∷ []) (0 ∷ 4294967295 ∷ []) "account,assigned\n7,0\n10,4294967295\n" ∷
    table "account,assigned\n" [] [] "account,assigned\n" ∷
    table "" (3 ∷ []) (2 ∷ []) "3,2\n" ∷
    note "refused\n" 4 "refused\n4\n" ∷
    note "refused\n" 20 "refused\n20\n" ∷
    note "" 4294967295 "4294967295\n" ∷ []

-- with room for all bytes, for one more, for one less and for none
pub lines_judged : map (λ c. let n = length (ascii c.text) in c.written n ∷ c.written (suc n) ∷ c.written (n - 1) ∷ c.written 0 ∷ []) lines_cases ≡ map (λ c. value (ascii c.text) ∷ value (ascii c.text) ∷ refused 4 ∷ refused 4 ∷ []) lines_cases
unfolding tabling lines_cases
lines_judged = refl

-- with no room: 1 where the columns differ in length, then 15, and then 4
abbrev table_of : ℕ → ℕ → Result Text
table_of accounts counts = table_into (ascii "account,assigned\n") (replicate accounts 1) (replicate counts 1) 0

pub tables_refused : map status (table_of 1 0 ∷ table_of 0 1 ∷ table_of 1025 1024 ∷ table_of 1024 1025 ∷ table_of 1025 1025 ∷ table_of 1024 1024 ∷ []) ≡ 1 ∷ 1 ∷ 1 ∷ 1 ∷ 15 ∷ 4 ∷ []
unfolding tabling
tables_refused = refl

-- ---- the lists that reading writes

-- two positions whose codes, accounts and numbers differ
pub two : Listing
two = record { form = Form.Shorts; terms = terms_of Method.Wheel 1 1 DEFAULT_INCREMENT; codes = 1 ∷ 2 ∷ []; accounts = 3 ∷ 4 ∷ []; numbers = 5 ∷ 6 ∷ [] }

-- each stands in its own list, before what stood past them; and after a refusal each list holds what it held
pub lists_read : ListsRead (value two) (lent (7 ∷ 7 ∷ 7 ∷ []) (1 ∷ 2 ∷ 7 ∷ [])) (lent (8 ∷ 8 ∷ 8 ∷ []) (3 ∷ 4 ∷ 8 ∷ [])) (lent (9 ∷ 9 ∷ []) (5 ∷ 6 ∷ []))
unfolding two onto
lists_read = record { codes = refl; accounts = refl; numbers = refl }

pub lists_kept : ListsRead (refused 4) (lent (7 ∷ []) (7 ∷ [])) (lent (8 ∷ []) (8 ∷ [])) (lent (9 ∷ []) (9 ∷ []))
lists_kept = record { codes = refl; accounts = refl; numbers = refl }
