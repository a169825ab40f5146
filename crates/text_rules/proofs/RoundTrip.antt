-- A text reads as its listing whatever the spellings of its numbers, with the optional columns or without them, and so does what writing wrote. The same of the two calls: `series_text/proofs/CallsRoundTrip.antt`.
use Prim.Native.Nat.{ℕ, ◌+◌, ◌*◌, ◌≤◌, ◌<◌}
use mathlib.Core.Path.{◌≡◌, refl, sym, ap, ap₂, subst, ◌∙◌}
use mathlib.Core.Bool.{Bool, true, false, not, cond, true≢false}
use mathlib.Core.List.{List, [], ◌∷◌, ◌++◌, map, append_assoc}
use native.Mathlib.Omega.{arith}
use borrow.Author.Tests.{lt-ltb, le-ltb, ltb-false, eq-eqb, eqb-true, not-false}
use lib.Dec.{eqb, ltb}
use lib.ListN.{length, length-append}
use Rattle.series.specs.Results.{value, refuse, refused}
use Rattle.forms.specs.Forms.{Listing}
use Rattle.forms.specs.declared.Form.{Form}
use Rattle.series.specs.Series.{DEFAULT_INCREMENT, terms_of}
use Rattle.series.specs.declared.Method.{Method}
use Rattle.series.specs.declared.Terms.{Terms}
use Rattle.series.proofs.ResultLaws.{value_is, stepped, not_refused}
use Rattle.text_rules.specs.Numbers.{LARGEST, decimal}
use Rattle.text_rules.specs.Fields.{Text, COMMA, ends, field_by}
use Rattle.text_rules.specs.Rows.{rows_of}
use Rattle.text_rules.specs.Names.{terms_line, terms_numbers, columns_in, positions_line}
use Rattle.text_rules.specs.Letters.{letter, method_among, method_by, method_of}
use Rattle.text_rules.specs.Text.{MOST_BYTES, MOST_LINES, terms_from, read_terms, read_head, line_width, listing_of, read_positions, read_text, terms_row, write_terms, Optional, write_head, columns_by, columns, text_with, same_numbers, writes_codes, terms_columns, written_columns, write_text}
use Rattle.text_rules.specs.Lists.{Columns, PlainCodes, Plain}
use Rattle.text_rules.specs.Calls.{line_count, head_and_lines, write_into, length_of}
use Rattle.text_rules.specs.declared.TermsColumns.{TermsColumns}
use Rattle.text_rules.proofs.FieldLaws.{prefixed, field_byte, field_end, and-true-parts}
use Rattle.text_rules.proofs.NameLaws.{terms_line_back, terms_line-room, increment_named, columns_back}
use Rattle.text_rules.proofs.RowLaws.{Fits, fits_none, fits_more, Figures, Each, fields_line, FieldsSpell, numbers_read, fields_read, row_spells, row_line, line_few, fields_lines, LinesSpell, rows_read, rows_spell, rows_lines, lines_few, rows_fit}
use Rattle.text_rules.proofs.LengthLaws.{length-terms, terms-few, columns-room, even-columns, lines_known, lines_written}
use Rattle.text_rules.proofs.ColumnLaws.{length_rows_lem, column-rows}

-- what can be written: numbers of 32 bits, and at most 1,024 positions, a code, an account and its shorts or last number each
pub record Writable (t : Listing) : Type 0 where
  pub exercised : t.terms.exercised.0 ≤ LARGEST
  pub draw : t.terms.draw ≤ LARGEST
  pub increment : t.terms.increment.0 ≤ LARGEST
  pub codes : Fits t.codes
  pub accounts : Fits t.accounts
  pub numbers : Fits t.numbers
  pub lists : Columns t.codes t.accounts t.numbers

-- ---- line by line

letter-field : (m : Method) (s : Text) → field_by COMMA (letter m ∷ COMMA ∷ s) ≡ value (record { found = letter m ∷ []; rest = s })
unfolding prefixed letter ends
letter-field m s = field_byte COMMA (letter m) (COMMA ∷ s) (no_end m) ∙ ap (prefixed (letter m ∷ [])) (field_end COMMA s refl)
  where
    no_end : (m : Method) → ends (letter m) ≡ false
    no_end Method.Wheel = refl
    no_end Method.ProRata = refl
    no_end Method.Lottery = refl
    no_end Method.RemainderDraw = refl

letter-method : (m : Method) → method_of (letter m ∷ []) ≡ value m
unfolding method_of method_by method_among letter
letter-method Method.Wheel = refl
letter-method Method.ProRata = refl
letter-method Method.Lottery = refl
letter-method Method.RemainderDraw = refl

-- line 2 by the method m, and its numbers spelled by these fields
unfoldable pub spelled_terms : Method → List Text → Text
spelled_terms m terms = letter m ∷ COMMA ∷ fields_line terms

-- without its column the increment is 25
abbrev pub PlainIncrement : TermsColumns → Terms → Type 0
PlainIncrement c t = c ≡ TermsColumns.MethodExercisedDraw → t.increment.0 ≡ DEFAULT_INCREMENT

-- the terms of the numbers of line 2
terms_from_lem : (c : TermsColumns) (t : Terms) → PlainIncrement c t → terms_from t.method (terms_row c t) ≡ t
terms_from_lem TermsColumns.MethodExercisedDraw t plain = ap (terms_of t.method t.exercised.0 t.draw) (sym (plain refl))
terms_from_lem TermsColumns.MethodExercisedDrawIncrement t plain = refl

terms_back : (c : TermsColumns) (t : Terms) (terms : List Text) (s : Text) → PlainIncrement c t → FieldsSpell terms (terms_row c t)
    → read_terms (terms_numbers c) (spelled_terms t.method terms ++ s) ≡ value (record { found = t; rest = s })
unfolding read_terms spelled_terms
terms_back c t terms s plain so =
    let ns : List ℕ = terms_row c t in
    rw (letter-field t.method (fields_line terms ++ s), ← length-terms c t, fields_read terms ns s so, letter-method t.method, numbers_read terms ns so, terms_from_lem c t plain)

-- lines 1 to 3
unfoldable pub spelled_head : Optional → Form → Method → List Text → Text
spelled_head o f m terms = terms_line o.terms ++ (spelled_terms m terms ++ positions_line (columns_in f o.coded))

-- the text by the method m, the numbers of line 2 spelled by these fields, and the positions by these lines
unfoldable pub spelled_text : Optional → Form → Method → List Text → List (List Text) → Text
spelled_text o f m terms lines = spelled_head o f m terms ++ fields_lines lines

-- the fields spell the numbers of a series, with the optional columns or without them
pub record TextSpells (o : Optional) (t : Listing) (terms : List Text) (lines : List (List Text)) : Type 0 where
  pub values : FieldsSpell terms (terms_row o.terms t.terms)
  pub rows : LinesSpell (line_width o.coded) lines (rows_of (columns o.coded t))
  pub plain : Plain o t
  pub lists : Columns t.codes t.accounts t.numbers

head_back : (o : Optional) (t : Listing) (terms : List Text) (lines : List (List Text)) (s : Text) → TextSpells o t terms lines → length (spelled_head o t.form t.terms.method terms ++ s) ≤ MOST_BYTES
    → read_head (spelled_head o t.form t.terms.method terms ++ s) ≡ value (record { found = record { terms = t.terms; form = t.form; coded = o.coded }; rest = s })
unfolding read_head spelled_head
head_back o t terms lines s so few =
    let first : Text = terms_line o.terms in
    let second : Text = spelled_terms t.terms.method terms in
    let third : Text = positions_line (columns_in t.form o.coded) in
    rw (le-ltb MOST_BYTES (length (spelled_head o t.form t.terms.method terms ++ s)) few, append_assoc first (second ++ third) s, append_assoc second third s, terms_line_back o.terms (second ++ (third ++ s)), terms_back o.terms t.terms terms (third ++ s) so.plain.increment so.values, columns_back t.form o.coded s)

-- ---- the columns of a series

-- a position line has numbers
pub width_some : (c : Bool) → 1 ≤ line_width c
width_some true = omega arith
width_some false = omega arith

-- a row for each position
position_rows_lem : (c : Bool) (t : Listing) → Columns t.codes t.accounts t.numbers → length (rows_of (columns c t)) ≡ length t.accounts
position_rows_lem true t l = length_rows_lem t.codes (t.accounts ∷ t.numbers ∷ []) ∙ l.codes
position_rows_lem false t l = length_rows_lem t.accounts (t.numbers ∷ [])

-- the series of the rows of its columns
pub series_back : (c : Bool) (t : Listing) → PlainCodes c t.codes t.accounts → Columns t.codes t.accounts t.numbers → listing_of c t.form t.terms (rows_of (columns c t)) ≡ t
series_back true t plain l =
    let at = column-rows t.codes (t.accounts ∷ t.numbers ∷ []) in
    rw (at 0 refl, at 1 (sym l.codes), at 2 (l.numbers ∙ sym l.codes))
series_back false t plain l =
    let at = column-rows t.accounts (t.numbers ∷ []) in
    rw (at 0 refl, at 1 l.numbers, ← plain refl)

-- ---- the laws

-- lines 1 and 2 have at most 67 bytes and each number of a position line at most 11, whatever the spellings
pub spelled-few : (o : Optional) (t : Listing) (terms : List Text) (lines : List (List Text)) → TextSpells o t terms lines
    → length (spelled_text o t.form t.terms.method terms lines) ≤ 67 + length (positions_line (columns_in t.form o.coded)) + 11 * line_width o.coded * length t.accounts
unfolding spelled_text spelled_head spelled_terms
spelled-few o t terms lines so =
    let m : Method = t.terms.method in
    let c : Bool = o.coded in
    let first : Text = terms_line o.terms in
    let third : Text = positions_line (columns_in t.form c) in
    let second : length (fields_line terms) ≤ 33 = omega (arith, line_few terms (terms_row o.terms t.terms) so.values, terms-few o.terms t.terms) in
    omega (arith, length-append (spelled_head o t.form m terms) (fields_lines lines), length-append first (spelled_terms m terms ++ third), length-append (spelled_terms m terms) third, terms_line-room o.terms, rw (position_rows_lem c t so.lists) at (lines_few (line_width c) lines (rows_of (columns c t)) so.rows))

-- without the code column a text has at most 22,609 bytes
pub plain_fits : (o : Optional) (t : Listing) (terms : List Text) (lines : List (List Text)) → o.coded ≡ false → TextSpells o t terms lines → length (spelled_text o t.form t.terms.method terms lines) ≤ MOST_BYTES
plain_fits o t terms lines e so =
    let rows : 11 * line_width o.coded * length t.accounts ≡ 22 * length t.accounts = rw e in
    omega (arith, spelled-few o t terms lines so, columns-room t.form o.coded, so.lists.few)

-- a text whose fields spell the numbers of a series, each in any of its spellings, reads as that series
pub any_spelling : (o : Optional) (t : Listing) (terms : List Text) (lines : List (List Text)) → TextSpells o t terms lines → length (spelled_text o t.form t.terms.method terms lines) ≤ MOST_BYTES
    → read_text (spelled_text o t.form t.terms.method terms lines) ≡ value t
unfolding read_text read_positions spelled_text
any_spelling o t terms lines so fits =
    let c : Bool = o.coded in
    let rows : List (List ℕ) = rows_of (columns c t) in
    let few : length rows ≤ MOST_LINES = omega (arith, position_rows_lem c t so.lists, so.lists.few) in
    rw (head_back o t terms lines (fields_lines lines) so fits, rows_read MOST_LINES (line_width c) lines rows (width_some c) few so.rows, series_back c t so.plain.codes so.lists)

-- the digits that are written for a series
abbrev written_terms : Optional → Listing → List Text
written_terms o t = map decimal (terms_row o.terms t.terms)

abbrev written_lines : Optional → Listing → List (List Text)
written_lines o t = map (map decimal) (rows_of (columns o.coded t))

-- the numbers of line 2 and of its rows fit 32 bits
first_two : (t : Listing) → Writable t → (ns : List ℕ) → Fits ns → Fits (t.terms.exercised.0 ∷ t.terms.draw ∷ ns)
first_two t w ns fits = fits_more t.terms.exercised.0 (t.terms.draw ∷ ns) w.exercised (fits_more t.terms.draw ns w.draw fits)

terms_fit : (c : TermsColumns) (t : Listing) → Writable t → Fits (terms_row c t.terms)
terms_fit TermsColumns.MethodExercisedDraw t w = first_two t w [] fits_none
terms_fit TermsColumns.MethodExercisedDrawIncrement t w = first_two t w (t.terms.increment.0 ∷ []) (fits_more t.terms.increment.0 [] w.increment fits_none)

columns_fit : (c : Bool) (t : Listing) → Writable t → Each (Figures (line_width c)) (rows_of (columns c t))
columns_fit true t w = rows_fit (columns true t) (w.codes, (w.accounts, (w.numbers, tt)))
columns_fit false t w = rows_fit (columns false t) (w.accounts, (w.numbers, tt))

-- the digits spell its numbers
written_spells : (o : Optional) (t : Listing) → Plain o t → Writable t → TextSpells o t (written_terms o t) (written_lines o t)
written_spells o t plain w =
    record { values = row_spells (terms_row o.terms t.terms) (terms_fit o.terms t w); rows = rows_spell (line_width o.coded) (rows_of (columns o.coded t)) (columns_fit o.coded t w); plain = plain; lists = w.lists }

-- and make its text
written-text : (o : Optional) (t : Listing) → text_with o t ≡ spelled_text o t.form t.terms.method (written_terms o t) (written_lines o t)
unfolding text_with write_head write_terms spelled_text spelled_head spelled_terms
written-text o t = rw (row_line (terms_row o.terms t.terms), rows_lines (rows_of (columns o.coded t)))

-- ---- what is left out

-- where what is left out can be told, the text reads as the series
pub left_out_lem : (o : Optional) (t : Listing) → Plain o t → Writable t → length (text_with o t) ≤ MOST_BYTES → read_text (text_with o t) ≡ value t
left_out_lem o t plain w fits =
    let is = written-text o t in
    ap read_text is ∙ any_spelling o t (written_terms o t) (written_lines o t) (written_spells o t plain w) (omega (arith, ap length is))

-- what a text tells of a listing: without its column the increment is 25, and each code its account
abbrev told_increment : TermsColumns → ℕ → ℕ
told_increment TermsColumns.MethodExercisedDraw n = DEFAULT_INCREMENT
told_increment TermsColumns.MethodExercisedDrawIncrement n = n

abbrev told_codes : Bool → List ℕ → List ℕ → List ℕ
told_codes true codes accounts = codes
told_codes false codes accounts = accounts

abbrev told_terms : TermsColumns → Terms → Terms
told_terms c t = terms_of t.method t.exercised.0 t.draw (told_increment c t.increment.0)

abbrev told : Optional → Listing → Listing
told o t = record { form = t.form; terms = told_terms o.terms t.terms; codes = told_codes o.coded t.codes t.accounts; accounts = t.accounts; numbers = t.numbers }

told_plain : (o : Optional) (t : Listing) → Plain o (told o t)
told_plain o t = record { increment = λ e. rw e; codes = λ e. rw e }

told_terms_lem : (c : TermsColumns) (t : Terms) → terms_row c (told_terms c t) ≡ terms_row c t
told_terms_lem TermsColumns.MethodExercisedDraw t = refl
told_terms_lem TermsColumns.MethodExercisedDrawIncrement t = refl

told_columns : (c : Bool) (t : Listing) → columns_by c (told_codes c t.codes t.accounts) t.accounts t.numbers ≡ columns c t
told_columns true t = refl
told_columns false t = refl

told_text : (o : Optional) (t : Listing) → text_with o (told o t) ≡ text_with o t
unfolding text_with write_head write_terms
told_text o t = rw (told_terms_lem o.terms t.terms, told_columns o.coded t)

told_writable : (o : Optional) (t : Listing) → Writable t → Writable (told o t)
told_writable o t w =
    record {
      exercised = w.exercised;
      draw = w.draw;
      increment = increment-fits o.terms;
      codes = codes_so Fits o.coded w.codes w.accounts;
      accounts = w.accounts;
      numbers = w.numbers;
      lists = record { codes = codes_so (λ l. length l ≡ length t.accounts) o.coded w.lists.codes refl; numbers = w.lists.numbers; few = w.lists.few };
    }
  where
    increment-fits : (c : TermsColumns) → told_increment c t.terms.increment.0 ≤ LARGEST
    increment-fits TermsColumns.MethodExercisedDraw = omega arith
    increment-fits TermsColumns.MethodExercisedDrawIncrement = w.increment

    codes_so : (P : List ℕ → Type 0) (c : Bool) → P t.codes → P t.accounts → P (told_codes c t.codes t.accounts)
    codes_so P true codes accounts = codes
    codes_so P false codes accounts = accounts

-- a text that reads as a series is not too long
pub read_fits : (s : Text) (t : Listing) → read_text s ≡ value t → length s ≤ MOST_BYTES
unfolding read_text read_head
read_fits s t h =
    let top = stepped (read_head s) _ t h in
    let short = stepped (refuse (ltb MOST_BYTES (length s)) 11 s) _ top.from top.step in
    ltb-false MOST_BYTES (length s) (not_refused (ltb MOST_BYTES (length s)) 11 s short.from short.step).0

-- and only there
pub left_out_only : (o : Optional) (t : Listing) → Writable t → read_text (text_with o t) ≡ value t → Plain o t
left_out_only o t w back =
    let text : text_with o (told o t) ≡ text_with o t = told_text o t in
    let reads = left_out_lem o (told o t) (told_plain o t) (told_writable o t w) (omega (arith, ap length text, read_fits (text_with o t) t back)) in
    let same : told o t ≡ t = value_is (sym reads ∙ ap read_text text ∙ back) in
    subst (Plain o) same (told_plain o t)

-- ---- the columns that are written

same_self : (a : List ℕ) → same_numbers a a ≡ true
unfolding same_numbers
same_self [] = refl
same_self (m ∷ a) = rw (eq-eqb m m refl) (same_self a)

-- the test is passed exactly where the lists are equal
pub same_numbers_lem : (a b : List ℕ) → same_numbers a b ≡ true → a ≡ b
unfolding same_numbers
same_numbers_lem [] [] e = refl
same_numbers_lem [] (n ∷ b) e = absurd (true≢false (sym e))
same_numbers_lem (m ∷ a) [] e = absurd (true≢false (sym e))
same_numbers_lem (m ∷ a) (n ∷ b) e = let both = and-true-parts (eqb m n) (same_numbers a b) e in ap₂ ◌∷◌ (eqb-true m n both.0) (same_numbers_lem a b both.1)

pub numbers-same : (a b : List ℕ) → a ≡ b → same_numbers a b ≡ true
numbers-same a b e = rw (← e) (same_self a)

-- the column is not written exactly where the codes are the accounts
pub codes_plain : (t : Listing) → writes_codes t ≡ false → t.codes ≡ t.accounts
unfolding writes_codes
codes_plain t e = same_numbers_lem t.codes t.accounts (not-false (same_numbers t.codes t.accounts) e)

pub plain_codes : (t : Listing) → t.codes ≡ t.accounts → writes_codes t ≡ false
unfolding writes_codes
plain_codes t e = ap not (numbers-same t.codes t.accounts e)

-- the increment is not named exactly where it is 25, under every method
pub increment_plain : (t : Terms) → terms_columns t ≡ TermsColumns.MethodExercisedDraw → t.increment.0 ≡ DEFAULT_INCREMENT
unfolding terms_columns
increment_plain t e = by_cases (eqb t.increment.0 DEFAULT_INCREMENT) refl e
  where
    by_cases : (b : Bool) → eqb t.increment.0 DEFAULT_INCREMENT ≡ b → cond b TermsColumns.MethodExercisedDraw TermsColumns.MethodExercisedDrawIncrement ≡ TermsColumns.MethodExercisedDraw → t.increment.0 ≡ DEFAULT_INCREMENT
    by_cases true same f = eqb-true _ _ same
    by_cases false other f = absurd (increment_named f)

pub plain_increment : (t : Terms) → t.increment.0 ≡ DEFAULT_INCREMENT → terms_columns t ≡ TermsColumns.MethodExercisedDraw
unfolding terms_columns
plain_increment t e = rw (eq-eqb t.increment.0 DEFAULT_INCREMENT e)

-- what is not written can be told
pub written_plain : (t : Listing) → Plain (written_columns t) t
unfolding written_columns
written_plain t = record { increment = increment_plain t.terms; codes = codes_plain t }

-- each column of v is one of o
pub record Among (v o : Optional) : Type 0 where
  pub terms : o.terms ≡ TermsColumns.MethodExercisedDraw → v.terms ≡ TermsColumns.MethodExercisedDraw
  pub coded : o.coded ≡ false → v.coded ≡ false

-- and what is written cannot be left out
pub written_needed : (o : Optional) (t : Listing) → Plain o t → Among (written_columns t) o
unfolding written_columns
written_needed o t plain = record { terms = λ e. plain_increment t.terms (plain.increment e); coded = λ e. plain_codes t (plain.codes e) }

-- for every method, S, draw, increment and list of at most 1,024 positions of numbers of 32 bits, the text that is written, where it fits, reads as the same series
pub round_trip : (t : Listing) → Writable t → length (write_text t) ≤ MOST_BYTES → read_text (write_text t) ≡ value t
unfolding write_text
round_trip t w fits = left_out_lem (written_columns t) t (written_plain t) w fits

-- without the code column a text always fits
pub short-fits : (o : Optional) (t : Listing) → Writable t → o.coded ≡ false → length (text_with o t) ≤ MOST_BYTES
short-fits o t w e =
    let u : Listing = told o t in
    omega (arith, ap length (told_text o t), ap length (written-text o u), plain_fits o u (written_terms o u) (written_lines o u) e (written_spells o u (told_plain o t) (told_writable o t w)))

-- ---- the call that writes

-- what writing wrote, where it answers with a length
pub record Wrote (t : Listing) (room n : ℕ) : Type 0 where
  pub lists : Columns t.codes t.accounts t.numbers
  pub fits : length (write_text t) ≤ MOST_BYTES
  pub is : write_into t room ≡ value (write_text t)
  pub long : length (write_text t) ≡ n

pub wrote : (t : Listing) (room n : ℕ) → length_of (write_into t room) ≡ value n → Wrote t room n
unfolding write_into length_of text_with write_text written_columns
wrote t room n e =
    let cs : List (List ℕ) = columns (writes_codes t) t in
    let head : Text = write_head (written_columns t) t.form t.terms in
    let s : Text = write_text t in
    let o = stepped (write_into t room) (λ s. value (length s)) n e in
    let body = stepped (head_and_lines head cs) _ o.from o.step in
    let known = lines_known head cs body.from body.step in
    let most = stepped (refuse (ltb MOST_BYTES (length body.from)) 11 body.from) _ o.from body.on in
    let fits = not_refused (ltb MOST_BYTES (length body.from)) 11 body.from most.from most.step in
    let enough = not_refused (ltb room (length most.from)) 4 most.from o.from most.on in
    let text : s ≡ o.from = known.text ∙ fits.1 ∙ enough.1 in
    record {
      lists = even-columns (writes_codes t) t.codes t.accounts t.numbers (line_count cs) (codes_plain t) known.even known.few;
      fits = omega (arith, ap length known.text, ltb-false MOST_BYTES (length body.from) fits.0);
      is = o.step ∙ ap value (sym text);
      long = ap length text ∙ value_is o.on;
    }

-- a text that would pass 32,768 bytes is refused whatever the output
pub too_long : (t : Listing) → Columns t.codes t.accounts t.numbers → MOST_BYTES < length (write_text t) → (room : ℕ) → write_into t room ≡ refused 11
unfolding write_into write_text text_with written_columns
too_long t l over room = rw (lines_written (write_head (written_columns t) t.form t.terms) (writes_codes t) t.codes t.accounts t.numbers l, lt-ltb MOST_BYTES _ over)
