-- A text that reads as a series spells its numbers. So what is read, written and read again is the same series, and what is written is the shortest text of all that read so.
use Prim.Native.Nat.{ℕ, zero, suc, ◌+◌, ◌≤◌, ◌<◌}
use mathlib.Core.Path.{◌≡◌, refl, sym, ap, ap₂, subst, ◌∙◌}
use mathlib.Core.Bool.{Bool, true, false, cond, true≢false}
use mathlib.Core.List.{List, [], ◌∷◌, ◌++◌, append_assoc}
use mathlib.Core.Logic.{◌⊎◌, inl, inr}
use native.Mathlib.Omega.{arith}
use native.Mathlib.Numerals.{add-one}
use borrow.Author.Tests.{eqb-true}
use lib.Dec.{eqb, ltb}
use lib.ListN.{length, get_or, drop, length-append, length-map, drop_of_length-le, get_or-eq_default}
use lib.Seq.{drop-cons}
use Rattle.series.specs.Results.{value, refuse}
use Rattle.forms.specs.Forms.{Listing}
use Rattle.forms.specs.declared.Form.{Form}
use Rattle.series.specs.Sums.{listed}
use Rattle.series.specs.Series.{DEFAULT_INCREMENT}
use Rattle.series.specs.declared.Method.{Method}
use Rattle.series.specs.declared.Terms.{Terms}
use Rattle.series.proofs.ResultLaws.{never, value_is, stepped, not_refused}
use Rattle.text_rules.specs.Numbers.{LARGEST, decimal}
use Rattle.text_rules.specs.Fields.{Text, COMMA, NEWLINE, Read, field_by, end_before, read_fields, write_number}
use Rattle.text_rules.specs.Rows.{numbers, read_rows, write_parted, write_row, write_rows, row_of, rows_of, column}
use Rattle.text_rules.specs.Names.{line1, line3, terms_line, terms_numbers, columns_in, positions_line, read_names}
use Rattle.text_rules.specs.Letters.{letter, method_among, method_by, method_of}
use Rattle.text_rules.specs.Lists.{Columns, PlainCodes, Plain}
use Rattle.text_rules.specs.Text.{MOST_BYTES, MOST_LINES, terms_from, read_terms, Head, read_head, line_width, listing_of, read_positions, read_text, terms_row, write_terms, Optional, write_head, columns, text_with, written_columns, write_text}
use Rattle.text_rules.specs.declared.TermsColumns.{TermsColumns}
use Rattle.text_rules.proofs.NumberLaws.{padded, padded_length}
use Rattle.text_rules.proofs.SpellingLaws.{Spells}
use Rattle.text_rules.proofs.NameLaws.{names_are, increment_longer, code_longer}
use Rattle.text_rules.proofs.RowLaws.{Fits, Each, each_so, Figures, Begins, field_is, fields_are, fields_line, FieldsSpell, numbers_are, spell_facts, fields_lines, LinesSpell, spell_figures, Consists, rows_are, columns_from, rows_of-columns}
use Rattle.text_rules.proofs.LengthLaws.{length-row, lines_of, lines_next_length}
use Rattle.text_rules.proofs.RoundTrip.{Writable, PlainIncrement, spelled_terms, spelled_head, spelled_text, TextSpells, width_some, series_back, read_fits, Among, written_needed, round_trip}

-- ---- line 2

letter_is : (ms : List Method) (b : ℕ) (m : Method) → method_among ms b ≡ value m → b ≡ letter m
unfolding method_among
letter_is [] b m e = absurd (never 14 m e)
letter_is (k ∷ ms) b m e = by_cases (eqb b (letter k)) refl (letter_is ms b m) e
  where
    by_cases : (t : Bool) → eqb b (letter k) ≡ t → (method_among ms b ≡ value m → b ≡ letter m) → cond t (value k) (method_among ms b) ≡ value m → b ≡ letter m
    by_cases true same others f = eqb-true b (letter k) same ∙ ap letter (value_is f)
    by_cases false other others f = others f

method_is : (f : Text) (m : Method) → method_of f ≡ value m → f ≡ letter m ∷ []
unfolding method_of method_by
method_is [] m e = absurd (never 14 m e)
method_is (b ∷ c ∷ f) m e = absurd (never 14 m e)
method_is (b ∷ []) m e = ap (λ (z : ℕ). z ∷ []) (letter_is _ b m e)

-- the text s begins with what `top` makes of the method and of fields that spell the numbers of line 2, and then what is left
record Starts (c : TermsColumns) (top : Method → List Text → Text) (s : Text) (t : Terms) (rest : Text) : Type 0 where
  fields : List Text
  text : s ≡ top t.method fields ++ rest
  spells : FieldsSpell fields (terms_row c t)
  plain : PlainIncrement c t

-- the numbers of the terms that numbers give
row_from : (c : TermsColumns) (how : Method) (ns : List ℕ) → length ns ≡ terms_numbers c → ns ≡ terms_row c (terms_from how ns)
row_from c how ns e = two (omega (arith, numbers_two c)) ∙ rest c e
  where
    numbers_two : (c : TermsColumns) → 2 ≤ terms_numbers c
    numbers_two TermsColumns.MethodExercisedDraw = omega arith
    numbers_two TermsColumns.MethodExercisedDrawIncrement = omega arith

    two : 2 ≤ length ns → ns ≡ get_or ns 0 0 ∷ get_or ns 1 0 ∷ drop 2 ns
    two le = drop-cons ns 0 0 (omega arith) ∙ ap (λ (l : List ℕ). get_or ns 0 0 ∷ l) (drop-cons ns 1 0 (omega arith))

    rest : (c : TermsColumns) → length ns ≡ terms_numbers c → get_or ns 0 0 ∷ get_or ns 1 0 ∷ drop 2 ns ≡ terms_row c (terms_from how ns)
    rest TermsColumns.MethodExercisedDraw e = let short : length ns ≤ 2 = omega arith in rw (drop_of_length-le ns short)
    rest TermsColumns.MethodExercisedDrawIncrement e = let short : length ns ≤ 3 = omega arith in rw (drop-cons ns 2 DEFAULT_INCREMENT (omega arith), drop_of_length-le ns short)

terms_are : (c : TermsColumns) (s : Text) (x : Read Terms) → read_terms (terms_numbers c) s ≡ value x → Starts c spelled_terms s x.found x.rest
unfolding read_terms spelled_terms
terms_are c s x h =
    let k : ℕ = terms_numbers c in
    let m = stepped (field_by COMMA s) _ x h in
    let fs = stepped (read_fields k m.from.rest) _ x m.on in
    let how = stepped (method_of m.from.found) _ x fs.on in
    let ns = stepped (numbers fs.from.found) _ x how.on in
    let is : ◌≡◌ {A = Read Terms} (record { found = terms_from how.from ns.from; rest = fs.from.rest }) x = value_is ns.on in
    let line : Begins k m.from.rest fs.from = fields_are k m.from.rest fs.from fs.step in
    let so : FieldsSpell fs.from.found ns.from = numbers_are fs.from.found ns.from ns.step in
    let long : length ns.from ≡ k = omega (arith, (spell_facts fs.from.found ns.from so).long, line.long) in
    subst (λ (y : Read Terms). Starts c spelled_terms s y.found y.rest) is
    (record {
      fields = fs.from.found;
      text = field_is COMMA s m.from m.step
          ∙ ap (λ (l : Text). l ++ (COMMA ∷ m.from.rest)) (method_is m.from.found how.from how.step)
          ∙ ap (λ (l : Text). letter how.from ∷ COMMA ∷ l) line.text;
      spells = subst (FieldsSpell fs.from.found) (row_from c how.from ns.from long) so;
      plain = λ e. let short : length ns.from ≤ 2 = omega (arith, ap terms_numbers e) in get_or-eq_default ns.from DEFAULT_INCREMENT short;
    })

-- ---- lines 1 to 3

-- a text taken apart three times
three_parts : (s a b first second third rest : Text) → s ≡ first ++ a → a ≡ second ++ b → b ≡ third ++ rest → s ≡ (first ++ (second ++ third)) ++ rest
three_parts s a b first second third rest e f g = e ∙ rw (f, g) (simp append_assoc)

-- the text s begins with lines 1 to 3 that spell the numbers of a head, in its form and with its columns, and then what is left
record Heads (s : Text) (x : Read Head) : Type 0 where
  columns : TermsColumns
  starts : Starts columns (spelled_head (record { terms = columns; coded = x.found.coded }) x.found.form) s x.found.terms x.rest

head_is : (s : Text) (x : Read Head) → read_head s ≡ value x → Heads s x
unfolding read_head spelled_head
head_is s x h =
    let short = stepped (refuse (ltb MOST_BYTES (length s)) 11 s) _ x h in
    let names = stepped (read_names terms_line line1 short.from) _ x short.on in
    let c : TermsColumns = names.from.found in
    let t = stepped (read_terms (terms_numbers c) names.from.rest) _ x names.on in
    let lines = stepped (read_names positions_line line3 t.from.rest) _ x t.on in
    let positions = lines.from.found in
    let is : ◌≡◌ {A = Read Head} (record { found = record { terms = t.from.found; form = positions.form; coded = positions.coded }; rest = lines.from.rest }) x = value_is lines.on in
    let terms : Starts c spelled_terms names.from.rest t.from.found t.from.rest = terms_are c names.from.rest t.from t.step in
    let second : Text = spelled_terms t.from.found.method terms.fields in
    let whole : s ≡ short.from = (not_refused (ltb MOST_BYTES (length s)) 11 s short.from short.step).1 in
    let line1-is : s ≡ terms_line c ++ names.from.rest = whole ∙ names_are terms_line line1 short.from names.from names.step in
    subst (Heads s) is
    (record {
      columns = c;
      starts = record {
        fields = terms.fields;
        text = three_parts s names.from.rest t.from.rest (terms_line c) second (positions_line positions) lines.from.rest line1-is terms.text (names_are positions_line line3 t.from.rest lines.from lines.step);
        spells = terms.spells;
        plain = terms.plain;
      };
    })

-- ---- the text

-- the text s spells the numbers of the series t, with the optional columns or without them
pub record Reads (s : Text) (t : Listing) : Type 0 where
  pub optional : Optional
  pub terms : List Text
  pub lines : List (List Text)
  pub text : s ≡ spelled_text optional t.form t.terms.method terms lines
  pub spells : TextSpells optional t terms lines

-- what is known of a series r that was made of rows
record OfRows (c : Bool) (f : Form) (t : Terms) (rows : List (List ℕ)) (r : Listing) : Type 0 where
  form : r.form ≡ f
  terms : r.terms ≡ t
  columns : columns c r ≡ columns_from 0 (line_width c) rows
  plain : PlainCodes c r.codes r.accounts
  lists : Columns r.codes r.accounts r.numbers

column-long : (j : ℕ) (rows : List (List ℕ)) → length (column j rows) ≡ length rows
unfolding column
column-long j rows = length-map rows (λ r. get_or r j 0)

-- the series of rows with a code column or without one
of_rows : (c : Bool) (f : Form) (t : Terms) (rows : List (List ℕ)) → length rows ≤ MOST_LINES → OfRows c f t rows (listing_of c f t rows)
unfolding columns_from
of_rows true f t rows few = record { form = refl; terms = refl; columns = refl; plain = λ e. absurd (true≢false e); lists = omega (arith, column-long 0 rows, column-long 1 rows, column-long 2 rows) }
of_rows false f t rows few = record { form = refl; terms = refl; columns = refl; plain = λ _. refl; lists = omega (arith, column-long 0 rows, column-long 1 rows) }

-- a text that reads as a series spells its numbers
pub text_is : (s : Text) (t : Listing) → read_text s ≡ value t → Reads s t
unfolding read_text read_positions spelled_text
text_is s t h =
    let top = stepped (read_head s) _ t h in
    let T : Terms = top.from.found.terms in
    let c : Bool = top.from.found.coded in
    let f : Form = top.from.found.form in
    let k : ℕ = line_width c in
    let rest : Text = top.from.rest in
    let ps = stepped (read_rows MOST_LINES k rest) _ t top.on in
    let body : Consists MOST_LINES k rest ps.from = rows_are MOST_LINES k rest ps.from ps.step in
    let of : OfRows c f T ps.from t = subst (OfRows c f T ps.from) (value_is ps.on) (of_rows c f T ps.from body.few) in
    let is : Heads s top.from = head_is s top.from top.step in
    let o : Optional = record { terms = is.columns; coded = c } in
    let in-form : Starts o.terms (spelled_head o t.form) s T rest = subst (λ (g : Form). Starts o.terms (spelled_head o g) s T rest) (sym of.form) is.starts in
    let head : Starts o.terms (spelled_head o t.form) s t.terms rest = subst (λ (u : Terms). Starts o.terms (spelled_head o t.form) s u rest) (sym of.terms) in-form in
    let long : Each (λ r. length r ≡ k) ps.from = each_so (Figures k) (λ r. length r ≡ k) ps.from (λ r row. row.long) (spell_figures k body.fields ps.from body.spells) in
    let rows : rows_of (columns c t) ≡ ps.from = ap rows_of of.columns ∙ rows_of-columns k ps.from (width_some c) long in
    record {
      optional = o;
      terms = head.fields;
      lines = body.fields;
      text = head.text ∙ ap (λ (l : Text). spelled_head o t.form t.terms.method head.fields ++ l) body.text;
      spells = record { values = head.spells; rows = rw rows body.spells; plain = record { increment = head.plain; codes = of.plain }; lists = of.lists };
    }

-- ---- a series whose numbers are spelled can be written

column_fits : (k j : ℕ) (rows : List (List ℕ)) → Each (Figures k) rows → Fits (column j rows)
unfolding column
column_fits k j [] each i = omega arith
column_fits k j (r ∷ rows) each zero = each.0.fits j
column_fits k j (r ∷ rows) each (suc i) = column_fits k j rows each.1 i

-- every number of the positions fits 32 bits
abbrev AllFit : Listing → Type 0
AllFit t = Fits t.codes × Fits t.accounts × Fits t.numbers

series_fits : (c : Bool) (f : Form) (t : Terms) (rows : List (List ℕ)) → Each (Figures (line_width c)) rows → AllFit (listing_of c f t rows)
series_fits true f t rows each = (column_fits 3 0 rows each, column_fits 3 1 rows each, column_fits 3 2 rows each)
series_fits false f t rows each = (column_fits 2 0 rows each, column_fits 2 0 rows each, column_fits 2 1 rows each)

-- and every number of line 2
values_fit : (c : TermsColumns) (t : Terms) → PlainIncrement c t → Fits (terms_row c t) → (t.exercised.0 ≤ LARGEST) × (t.draw ≤ LARGEST) × (t.increment.0 ≤ LARGEST)
values_fit TermsColumns.MethodExercisedDraw t plain fits = (fits 0, fits 1, omega (arith, plain refl))
values_fit TermsColumns.MethodExercisedDrawIncrement t plain fits = (fits 0, fits 1, fits 2)

spells_writable : (o : Optional) (t : Listing) (terms : List Text) (lines : List (List Text)) → TextSpells o t terms lines → Writable t
spells_writable o t terms lines so =
    let c : Bool = o.coded in
    let values = values_fit o.terms t.terms so.plain.increment (spell_facts terms (terms_row o.terms t.terms) so.values).fits in
    let rows : List (List ℕ) = rows_of (columns c t) in
    let fits : AllFit t = subst AllFit (series_back c t so.plain.codes so.lists) (series_fits c t.form t.terms rows (spell_figures (line_width c) lines rows so.rows)) in
    record { exercised = values.0; draw = values.1; increment = values.2; codes = fits.0; accounts = fits.1; numbers = fits.2; lists = so.lists }

-- ---- the shortest text

-- the text u is no longer than s, and where it is not shorter they are the same
pub record ShorterOrSame (u s : Text) : Type 0 where
  pub most : length u ≤ length s
  pub only : length s ≤ length u → s ≡ u

same_text : (u : Text) → ShorterOrSame u u
same_text u = record { most = omega arith; only = λ _. refl }

both-parts : (u s u' s' : Text) → ShorterOrSame u s → ShorterOrSame u' s' → ShorterOrSame (u ++ u') (s ++ s')
both-parts u s u' s' a b =
    let lu : length (u ++ u') ≡ length u + length u' = length-append u u' in
    let ls : length (s ++ s') ≡ length s + length s' = length-append s s' in
    record {
      most = omega (arith, a.most, b.most);
      only = λ le. ap₂ ◌++◌ (a.only (omega (arith, a.most, b.most))) (b.only (omega (arith, a.most, b.most)));
    }

-- the digits that are written are the shortest spelling of a number
number_shortest : (f : Text) (n : ℕ) → Spells f n → ShorterOrSame (decimal n) f
number_shortest f n so =
    let long : length f ≡ so.zeros + length (decimal n) = ap length so.text ∙ padded_length so.zeros (decimal n) in
    record {
      most = omega arith;
      only = λ le. let none : so.zeros ≡ 0 = omega arith in so.text ∙ ap (λ (k : ℕ). padded k (decimal n)) none;
    }

line_shortest : (fs : List Text) (ns : List ℕ) → FieldsSpell fs ns → ShorterOrSame (write_row ns) (fields_line fs)
unfolding FieldsSpell fields_line write_parted write_number
line_shortest [] [] so = same_text []
line_shortest [] (n ∷ ns) so = absurd so
line_shortest (f ∷ fs) [] so = absurd so
line_shortest (f ∷ fs) (n ∷ ns) so =
    let c : ℕ = end_before COMMA NEWLINE (length ns) in
    let here : ShorterOrSame (decimal n ++ (c ∷ [])) (f ++ (c ∷ [])) = both-parts (decimal n) f (c ∷ []) (c ∷ []) (number_shortest f n so.0) (same_text (c ∷ [])) in
    let whole : ShorterOrSame ((decimal n ++ (c ∷ [])) ++ write_row ns) ((f ++ (c ∷ [])) ++ fields_line fs) = both-parts (decimal n ++ (c ∷ [])) (f ++ (c ∷ [])) (write_row ns) (fields_line fs) here (line_shortest fs ns so.1) in
    rw (spell_facts fs ns so.1).long (subst (ShorterOrSame ((decimal n ++ (c ∷ [])) ++ write_row ns)) (append_assoc f (c ∷ []) (fields_line fs)) whole)

lines_shortest : (k : ℕ) (fss : List (List Text)) (rows : List (List ℕ)) → LinesSpell k fss rows → ShorterOrSame (write_rows rows) (fields_lines fss)
unfolding LinesSpell fields_lines write_rows
lines_shortest k [] [] so = same_text []
lines_shortest k [] (r ∷ rows) so = absurd so
lines_shortest k (fs ∷ fss) [] so = absurd so
lines_shortest k (fs ∷ fss) (r ∷ rows) so = both-parts (write_row r) (fields_line fs) (write_rows rows) (fields_lines fss) (line_shortest fs r so.0) (lines_shortest k fss rows so.2)

-- a text of a listing is no longer than one that spells its numbers, with the same columns
spelled_shortest : (o : Optional) (t : Listing) (terms : List Text) (lines : List (List Text)) → TextSpells o t terms lines → ShorterOrSame (text_with o t) (spelled_text o t.form t.terms.method terms lines)
unfolding text_with write_head write_terms spelled_text spelled_head spelled_terms
spelled_shortest o t terms lines so =
    let first : Text = terms_line o.terms in
    let third : Text = positions_line (columns_in t.form o.coded) in
    let front : Text = letter t.terms.method ∷ COMMA ∷ [] in
    let row : Text = write_row (terms_row o.terms t.terms) in
    let line : Text = fields_line terms in
    let second : ShorterOrSame (front ++ row) (front ++ line) = both-parts front front row line (same_text front) (line_shortest terms (terms_row o.terms t.terms) so.values) in
    let head : ShorterOrSame (first ++ ((front ++ row) ++ third)) (first ++ ((front ++ line) ++ third))
    = both-parts first first ((front ++ row) ++ third) ((front ++ line) ++ third) (same_text first) (both-parts (front ++ row) (front ++ line) third third second (same_text third)) in
    both-parts (first ++ ((front ++ row) ++ third)) (first ++ ((front ++ line) ++ third)) (write_rows (rows_of (columns o.coded t))) (fields_lines lines) head
    (lines_shortest (line_width o.coded) lines (rows_of (columns o.coded t)) so.rows)

-- lines that are no longer each are no longer together
lines_mono : (f g : ℕ → List ℕ) (n : ℕ) → ((i : ℕ) → length (write_row (f i)) ≤ length (write_row (g i))) → length (lines_of f n) ≤ length (lines_of g n)
unfolding listed write_rows
lines_mono f g zero le = omega arith
lines_mono f g (suc n) le = omega (arith, rw (add-one n) at (lines_next_length f n), rw (add-one n) at (lines_next_length g n), le n, lines_mono f g n le)

-- the lines of columns with one more before them are no shorter
column-more : (d c : List ℕ) (cs : List (List ℕ)) → length d ≡ length c → length (write_rows (rows_of (c ∷ cs))) ≤ length (write_rows (rows_of (d ∷ c ∷ cs)))
unfolding rows_of write_parted
column-more d c cs e =
    rw e (lines_mono (row_of (c ∷ cs)) (row_of (d ∷ c ∷ cs)) (length c) (λ i. let row = row_of (c ∷ cs) i in omega (arith, length-append (write_number (get_or d i 0) (end_before COMMA NEWLINE (length row))) (write_row row))))

-- lines 1 and 2, and the lines after them
abbrev terms_part : Terms → TermsColumns → Text
terms_part t c = terms_line c ++ write_terms c t

abbrev positions_part : Listing → Bool → Text
positions_part t c = positions_line (columns_in t.form c) ++ write_rows (rows_of (columns c t))

two_parts : (o : Optional) (t : Listing) → text_with o t ≡ terms_part t.terms o.terms ++ positions_part t o.coded
unfolding text_with write_head
two_parts o t = simp append_assoc

-- the increment makes the one longer
terms_longer : (t : Terms) → length (terms_part t TermsColumns.MethodExercisedDraw) < length (terms_part t TermsColumns.MethodExercisedDrawIncrement)
unfolding write_terms write_parted
terms_longer t =
    let without = TermsColumns.MethodExercisedDraw in
    let within = TermsColumns.MethodExercisedDrawIncrement in
    let S = t.exercised.0 in
    let I = t.increment.0 in
    omega (arith, length-append (terms_line without) (write_terms without t), length-append (terms_line within) (write_terms within t), increment_longer, length-row S (t.draw ∷ []), length-row S (t.draw ∷ I ∷ []), length-row t.draw [], length-row t.draw (I ∷ []))

-- and the code column the other
codes_longer : (t : Listing) → Columns t.codes t.accounts t.numbers → length (positions_part t false) < length (positions_part t true)
codes_longer t l =
    let lines : Bool → Text = λ c. write_rows (rows_of (columns c t)) in
    omega (arith, length-append (positions_line (columns_in t.form true)) (lines true), length-append (positions_line (columns_in t.form false)) (lines false), code_longer t.form, column-more t.codes t.accounts (t.numbers ∷ []) l.codes)

-- a part of a text is longer with its column than without it: where v has the column only if o has it, the part of v is no longer
module _ {A : Type 0} (part : A → Text) (without within : A) (two : (a : A) → (a ≡ without) ⊎ (a ≡ within)) (longer : length (part without) < length (part within)) where
  part_shortest : (v o : A) → (o ≡ without → v ≡ without) → ShorterOrSame (part v) (part o)
  part_shortest v o among = by_cases (two v) (two o)
    where
      by_cases : (v ≡ without) ⊎ (v ≡ within) → (o ≡ without) ⊎ (o ≡ within) → ShorterOrSame (part v) (part o)
      by_cases w (inl b) = rw (among b, b) (same_text (part without))
      by_cases (inl a) (inr b) = rw (a, b) (record { most = omega arith; only = λ le. absurd (omega arith) })
      by_cases (inr a) (inr b) = rw (a, b) (same_text (part within))

-- of the texts that read as the listing, with the optional columns or without them, the one that is written is the shortest
columns_shortest : (o : Optional) (t : Listing) → Plain o t → Columns t.codes t.accounts t.numbers → ShorterOrSame (write_text t) (text_with o t)
unfolding write_text
columns_shortest o t plain l =
    let v : Optional = written_columns t in
    let among : Among v o = written_needed o t plain in
    let terms = part_shortest (terms_part t.terms) TermsColumns.MethodExercisedDraw TermsColumns.MethodExercisedDrawIncrement named (terms_longer t.terms) v.terms o.terms among.terms in
    let positions = part_shortest (positions_part t) false true coded (codes_longer t l) v.coded o.coded among.coded in
    rw (two_parts v t, two_parts o t) (both-parts (terms_part t.terms v.terms) (terms_part t.terms o.terms) (positions_part t v.coded) (positions_part t o.coded) terms positions)
  where
    named : (c : TermsColumns) → (c ≡ TermsColumns.MethodExercisedDraw) ⊎ (c ≡ TermsColumns.MethodExercisedDrawIncrement)
    named TermsColumns.MethodExercisedDraw = inl refl
    named TermsColumns.MethodExercisedDrawIncrement = inr refl

    coded : (c : Bool) → (c ≡ false) ⊎ (c ≡ true)
    coded false = inl refl
    coded true = inr refl

-- the text that is written is no longer than any that reads as the same series; and one that is as short is the same text
pub shortest : (s : Text) (t : Listing) → read_text s ≡ value t → ShorterOrSame (write_text t) s
shortest s t h =
    let is : Reads s t = text_is s t h in
    let columns = columns_shortest is.optional t is.spells.plain is.spells.lists in
    let fields = spelled_shortest is.optional t is.terms is.lines is.spells in
    rw is.text (record { most = omega arith; only = λ le. fields.only (omega arith) ∙ columns.only (omega arith) })

-- what is read can be written
pub read_writable : (s : Text) (t : Listing) → read_text s ≡ value t → Writable t
read_writable s t h = let is : Reads s t = text_is s t h in spells_writable is.optional t is.terms is.lines is.spells

-- what is read, written and read again is the same listing
pub read_again : (s : Text) (t : Listing) → read_text s ≡ value t → read_text (write_text t) ≡ value t
read_again s t h = round_trip t (read_writable s t h) (omega (arith, (shortest s t h).most, read_fits s t h))
