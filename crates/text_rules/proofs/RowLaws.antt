-- A line of fields that spell numbers reads as these numbers, what reads as a row is such a line, and how long the line that is written is; the same of lines of rows.
use Prim.Native.Nat.{ℕ, zero, suc, ◌+◌, ◌*◌, ◌≤◌, ◌<◌}
use mathlib.Core.Path.{◌≡◌, refl, sym, ap, ap₂, subst, ◌∙◌}
use mathlib.Core.Bool.{Bool, true, false, cond}
use mathlib.Core.List.{List, [], ◌∷◌, ◌++◌, map, append_assoc}
use native.Mathlib.Omega.{arith}
use native.Mathlib.Nat.{mul-suc}
use borrow.Author.Tests.{eqb-true}
use lib.Dec.{eqb}
use lib.ListN.{length, get_or, drop, length-append, length-map, drop_of_length-le, get_or-map}
use lib.Seq.{drop-cons}
use Rattle.series.specs.Results.{refused, value, ◌>>=◌}
use Rattle.series.specs.Sums.{listed}
use Rattle.series.proofs.ResultLaws.{never, value_is, stepped}
use Rattle.series.proofs.SumLaws.{listed_cong}
use Rattle.text_rules.specs.Numbers.{LARGEST, MOST_DIGITS, digits, number, decimal}
use Rattle.text_rules.specs.Fields.{Text, COMMA, NEWLINE, Read, ends, field, past, field_by, end_before, read_fields, write_number}
use Rattle.text_rules.specs.Rows.{numbers, read_row, read_rows, write_parted, write_row, write_rows, row_of, rows_of, column}
use Rattle.text_rules.proofs.ColumnLaws.{listed_all}
use Rattle.text_rules.proofs.DecimalLaws.{digits-few}
use Rattle.text_rules.proofs.NumberLaws.{field-spelled}
use Rattle.text_rules.proofs.SpellingLaws.{Spells, number_is, spells_reads, spells_digits, decimal_spells}

-- every number of the list fits 32 bits
abbrev pub Fits : List ℕ → Type 0
Fits ns = (i : ℕ) → get_or ns i 0 ≤ LARGEST

pub fits_none : Fits []
fits_none i = omega arith

pub fits_more : (n : ℕ) (ns : List ℕ) → n ≤ LARGEST → Fits ns → Fits (n ∷ ns)
fits_more n ns le fits zero = le
fits_more n ns le fits (suc i) = fits i

-- k numbers that fit 32 bits
pub record Figures (k : ℕ) (ns : List ℕ) : Type 0 where
  pub long : length ns ≡ k
  pub fits : Fits ns

-- what holds of each of a list
abbrev pub Each : {A : Type 0} → (A → Type 0) → List A → Type 0
Each P [] = Unit {0}
Each P (a ∷ l) = P a × Each P l

pub each_so : {A : Type 0} (P Q : A → Type 0) (l : List A) → ((a : A) → P a → Q a) → Each P l → Each Q l
each_so P Q [] h each = tt
each_so P Q (a ∷ l) h each = (h a each.0, each_so P Q l h each.1)

each_at : {A : Type 0} (P : A → Type 0) (l : List A) (d : A) (i : ℕ) → Each P l → i < length l → P (get_or l i d)
each_at P [] d i each lt = absurd (omega arith)
each_at P (a ∷ l) d zero each lt = each.0
each_at P (a ∷ l) d (suc i) each lt = each_at P l d i each.1 (omega arith)

-- ---- a line of fields

-- the fields of a line, each with the byte that ends it
unfoldable pub fields_line : List Text → Text
fields_line [] = []
fields_line (f ∷ fs) = f ++ (end_before COMMA NEWLINE (length fs) ∷ fields_line fs)

end-ends : (k : ℕ) → ends (end_before COMMA NEWLINE k) ≡ true
unfolding ends end_before
end-ends zero = refl
end-ends (suc k) = refl

-- fields of digits read back
fields_back : (fs : List Text) (s : Text) → Each (λ f. digits f ≡ true) fs → read_fields (length fs) (fields_line fs ++ s) ≡ value (record { found = fs; rest = s })
unfolding read_fields fields_line
fields_back [] s each = refl
fields_back (f ∷ fs) s each =
    let c : ℕ = end_before COMMA NEWLINE (length fs) in
    rw (append_assoc f (c ∷ fields_line fs) s, field-spelled c f (fields_line fs ++ s) (end-ends (length fs)) each.0, fields_back fs s each.1)

field-split : (s : Text) → s ≡ field s ++ drop (length (field s)) s
unfolding field
field-split [] = refl
field-split (b ∷ s) = go (field-split s) (ends b)
  where
    go : s ≡ field s ++ drop (length (field s)) s → (t : Bool) → b ∷ s ≡ cond t [] (b ∷ field s) ++ drop (length (cond t [] (b ∷ field s))) (b ∷ s)
    go h true = refl
    go h false = ap (λ (l : Text). b ∷ l) h

past_is : (c : ℕ) (s u : Text) → past c s ≡ value u → s ≡ c ∷ u
unfolding past
past_is c [] u e = absurd (never 13 u e)
past_is c (b ∷ s) u e = go (eqb b c) refl e
  where
    go : (t : Bool) → eqb b c ≡ t → cond t (value s) (refused 13) ≡ value u → b ∷ s ≡ c ∷ u
    go true same h = let is : b ≡ c = eqb-true b c same in let rest : s ≡ u = cc in cc
    go false other h = absurd (never 13 u h)

pub field_is : (c : ℕ) (s : Text) (x : Read Text) → field_by c s ≡ value x → s ≡ x.found ++ (c ∷ x.rest)
unfolding field_by
field_is c s x e =
    let o = stepped (past c (drop (length (field s)) s)) (λ rest. value (record { found = field s; rest = rest })) x e in
    let is : ◌≡◌ {A = Read Text} (record { found = field s; rest = o.from }) x = value_is o.on in
    field-split s ∙ ap (λ (l : Text). field s ++ l) (past_is c (drop (length (field s)) s) o.from o.step) ∙ ap (λ (y : Read Text). y.found ++ (c ∷ y.rest)) is

-- the text s is a line of k fields, and then what is left
pub record Begins (k : ℕ) (s : Text) (x : Read (List Text)) : Type 0 where
  pub text : s ≡ fields_line x.found ++ x.rest
  pub long : length x.found ≡ k

-- what reads as fields is their line
pub fields_are : (k : ℕ) (s : Text) (x : Read (List Text)) → read_fields k s ≡ value x → Begins k s x
unfolding read_fields fields_line
fields_are zero s x e =
    let is : ◌≡◌ {A = Read (List Text)} (record { found = []; rest = s }) x = value_is e in
    subst (Begins zero s) is (record { text = refl; long = refl })
fields_are (suc k) s x e =
    let f = stepped (field_by (end_before COMMA NEWLINE k) s) _ x e in
    let gs = stepped (read_fields k f.from.rest) _ x f.on in
    let is : ◌≡◌ {A = Read (List Text)} (record { found = f.from.found ∷ gs.from.found; rest = gs.from.rest }) x = value_is gs.on in
    let others : Begins k f.from.rest gs.from = fields_are k f.from.rest gs.from gs.step in
    let c : ℕ = end_before COMMA NEWLINE k in
    let text : s ≡ (f.from.found ++ (c ∷ fields_line gs.from.found)) ++ gs.from.rest
    = field_is c s f.from f.step
    ∙ ap (λ (l : Text). f.from.found ++ (c ∷ l)) others.text
    ∙ sym (append_assoc f.from.found (c ∷ fields_line gs.from.found) gs.from.rest) in
    subst (Begins (suc k) s) is (record { text = rw others.long text; long = ap suc others.long })

-- ---- fields that spell numbers

-- each field spells its number
unfoldable pub FieldsSpell : List Text → List ℕ → Type 0
FieldsSpell [] [] = Unit {0}
FieldsSpell [] (n ∷ ns) = ⊥
FieldsSpell (f ∷ fs) [] = ⊥
FieldsSpell (f ∷ fs) (n ∷ ns) = Spells f n × FieldsSpell fs ns

pub numbers_are : (fs : List Text) (ns : List ℕ) → numbers fs ≡ value ns → FieldsSpell fs ns
unfolding numbers FieldsSpell
numbers_are [] [] e = tt
numbers_are [] (n ∷ ns) e = let bad : [] ≡ n ∷ ns = value_is e in absurd (omega (arith, ap length bad))
numbers_are (f ∷ fs) ns e =
    let n = stepped (number f) _ ns e in
    let ms = stepped (numbers fs) _ ns n.on in
    let all : n.from ∷ ms.from ≡ ns = value_is ms.on in
    subst (FieldsSpell (f ∷ fs)) all (number_is f n.from n.step, numbers_are fs ms.from ms.step)

pub numbers_read : (fs : List Text) (ns : List ℕ) → FieldsSpell fs ns → numbers fs ≡ value ns
unfolding numbers FieldsSpell
numbers_read [] [] so = refl
numbers_read [] (n ∷ ns) so = absurd so
numbers_read (f ∷ fs) [] so = absurd so
numbers_read (f ∷ fs) (n ∷ ns) so = rw (spells_reads f n so.0, numbers_read fs ns so.1)

-- what is known of them: as many fields, of at most ten digits, as numbers, which fit 32 bits
pub record SpellFacts (fs : List Text) (ns : List ℕ) : Type 0 where
  pub long : length fs ≡ length ns
  pub only : Each (λ f. digits f ≡ true) fs
  pub few : Each (λ f. length f ≤ MOST_DIGITS) fs
  pub fits : Fits ns

pub spell_facts : (fs : List Text) (ns : List ℕ) → FieldsSpell fs ns → SpellFacts fs ns
unfolding FieldsSpell
spell_facts [] [] so = record { long = refl; only = tt; few = tt; fits = fits_none }
spell_facts [] (n ∷ ns) so = absurd so
spell_facts (f ∷ fs) [] so = absurd so
spell_facts (f ∷ fs) (n ∷ ns) so =
    let others : SpellFacts fs ns = spell_facts fs ns so.1 in
    record { long = ap suc others.long; only = (spells_digits f n so.0, others.only); few = (so.0.few, others.few); fits = fits_more n ns so.0.fits others.fits }

-- the line of such fields reads as the numbers, whatever their spellings
pub fields_read : (fs : List Text) (ns : List ℕ) (s : Text) → FieldsSpell fs ns → read_fields (length ns) (fields_line fs ++ s) ≡ value (record { found = fs; rest = s })
fields_read fs ns s so = let known : SpellFacts fs ns = spell_facts fs ns so in rw (← known.long) (fields_back fs s known.only)

pub row_reads : (fs : List Text) (ns : List ℕ) (s : Text) → FieldsSpell fs ns → read_row (length ns) (fields_line fs ++ s) ≡ value (record { found = ns; rest = s })
unfolding read_row
row_reads fs ns s so = rw (fields_read fs ns s so, numbers_read fs ns so)

-- the text s is a line that spells a row of k numbers, and then what is left
pub record RowLine (k : ℕ) (s : Text) (r : Read (List ℕ)) : Type 0 where
  pub fields : List Text
  pub text : s ≡ fields_line fields ++ r.rest
  pub spells : FieldsSpell fields r.found
  pub long : length r.found ≡ k

-- what reads as a row is such a line
pub row_is : (k : ℕ) (s : Text) (r : Read (List ℕ)) → read_row k s ≡ value r → RowLine k s r
unfolding read_row
row_is k s r e =
    let fs = stepped (read_fields k s) _ r e in
    let ns = stepped (numbers fs.from.found) _ r fs.on in
    let is : ◌≡◌ {A = Read (List ℕ)} (record { found = ns.from; rest = fs.from.rest }) r = value_is ns.on in
    let line : Begins k s fs.from = fields_are k s fs.from fs.step in
    let so : FieldsSpell fs.from.found ns.from = numbers_are fs.from.found ns.from ns.step in
    subst (RowLine k s) is (record { fields = fs.from.found; text = line.text; spells = so; long = omega (arith, (spell_facts fs.from.found ns.from so).long, line.long) })

-- the digits that are written spell a row
pub row_spells : (ns : List ℕ) → Fits ns → FieldsSpell (map decimal ns) ns
unfolding FieldsSpell
row_spells [] fits = tt
row_spells (n ∷ ns) fits = (decimal_spells n (fits 0), row_spells ns (λ i. fits (suc i)))

-- and make its line
pub row_line : (ns : List ℕ) → write_row ns ≡ fields_line (map decimal ns)
unfolding write_parted write_number fields_line
row_line [] = refl
row_line (n ∷ ns) =
    let c : ℕ = end_before COMMA NEWLINE (length ns) in
    rw (length-map ns decimal) (append_assoc (decimal n) (c ∷ []) (write_row ns) ∙ ap (λ (l : Text). decimal n ++ (c ∷ l)) (row_line ns))

-- ---- its length: at most ten digits a number, and the byte that ends it

line_room : (fs : List Text) → Each (λ f. length f ≤ MOST_DIGITS) fs → length (fields_line fs) ≤ 11 * length fs
unfolding fields_line
line_room [] each = omega arith
line_room (f ∷ fs) each =
    let c : ℕ = end_before COMMA NEWLINE (length fs) in
    omega (arith, length-append f (c ∷ fields_line fs), each.0, line_room fs each.1)

pub line_few : (fs : List Text) (ns : List ℕ) → FieldsSpell fs ns → length (fields_line fs) ≤ 11 * length ns
line_few fs ns so = let known : SpellFacts fs ns = spell_facts fs ns so in omega (arith, line_room fs known.few, known.long)

-- what is written has at most ten digits a number also where that does not fit 32 bits
pub row_few : (ns : List ℕ) → length (write_row ns) ≤ 11 * length ns
row_few ns = omega (arith, ap length (row_line ns), line_room (map decimal ns) (few ns), length-map ns decimal)
  where
    few : (ns : List ℕ) → Each (λ f. length f ≤ MOST_DIGITS) (map decimal ns)
    few [] = tt
    few (n ∷ ns) = (digits-few n, few ns)

-- ---- lines of rows

pub rows_none : (most k : ℕ) → read_rows most k [] ≡ value []
unfolding read_rows
rows_none zero k = refl
rows_none (suc most) k = refl

rows_next : (most k : ℕ) (s : Text) → 0 < length s → read_rows (suc most) k s ≡ (read_row k s >>= λ r. read_rows most k r.rest >>= λ rs. value (r.found ∷ rs))
unfolding read_rows
rows_next most k [] some = absurd (omega arith)
rows_next most k (b ∷ s) some = refl

-- lines of fields
unfoldable pub fields_lines : List (List Text) → Text
fields_lines [] = []
fields_lines (fs ∷ fss) = fields_line fs ++ fields_lines fss

-- each line spells its row of k numbers
unfoldable pub LinesSpell : ℕ → List (List Text) → List (List ℕ) → Type 0
LinesSpell k [] [] = Unit {0}
LinesSpell k [] (r ∷ rows) = ⊥
LinesSpell k (fs ∷ fss) [] = ⊥
LinesSpell k (fs ∷ fss) (r ∷ rows) = FieldsSpell fs r × (length r ≡ k) × LinesSpell k fss rows

-- a line of fields is no empty text
line_begins : (fs : List Text) (s : Text) → 1 ≤ length fs → 0 < length (fields_line fs ++ s)
unfolding fields_line
line_begins [] s some = absurd (omega arith)
line_begins (f ∷ fs) s some =
    let c : ℕ = end_before COMMA NEWLINE (length fs) in
    omega (arith, length-append (f ++ (c ∷ fields_line fs)) s, length-append f (c ∷ fields_line fs))

-- lines that spell rows read as the rows
pub rows_read : (most k : ℕ) (fss : List (List Text)) (rows : List (List ℕ)) → 1 ≤ k → length rows ≤ most → LinesSpell k fss rows → read_rows most k (fields_lines fss) ≡ value rows
unfolding fields_lines LinesSpell
rows_read most k [] [] some few so = rows_none most k
rows_read most k [] (r ∷ rows) some few so = absurd so
rows_read most k (fs ∷ fss) [] some few so = absurd so
rows_read zero k (fs ∷ fss) (r ∷ rows) some few so = absurd (omega arith)
rows_read (suc most) k (fs ∷ fss) (r ∷ rows) some few so =
    let row : read_row k (fields_line fs ++ fields_lines fss) ≡ value (record { found = r; rest = fields_lines fss })
    = rw (← so.1) (row_reads fs r (fields_lines fss) so.0) in
    rows_next most k (fields_line fs ++ fields_lines fss) (line_begins fs (fields_lines fss) (omega (arith, so.1, (spell_facts fs r so.0).long))) ∙ rw (row, rows_read most k fss rows some (omega arith) so.2)

-- the digits that are written spell rows
pub rows_spell : (k : ℕ) (rows : List (List ℕ)) → Each (Figures k) rows → LinesSpell k (map (map decimal) rows) rows
unfolding LinesSpell
rows_spell k [] each = tt
rows_spell k (r ∷ rows) each = (row_spells r each.0.fits, each.0.long, rows_spell k rows each.1)

-- and make their lines
pub rows_lines : (rows : List (List ℕ)) → write_rows rows ≡ fields_lines (map (map decimal) rows)
unfolding write_rows fields_lines
rows_lines [] = refl
rows_lines (r ∷ rows) = rw (row_line r, rows_lines rows)

-- rows that lines spell are rows of k numbers of 32 bits
pub spell_figures : (k : ℕ) (fss : List (List Text)) (rows : List (List ℕ)) → LinesSpell k fss rows → Each (Figures k) rows
unfolding LinesSpell
spell_figures k [] [] so = tt
spell_figures k [] (r ∷ rows) so = absurd so
spell_figures k (fs ∷ fss) [] so = absurd so
spell_figures k (fs ∷ fss) (r ∷ rows) so = (record { long = so.1; fits = (spell_facts fs r so.0).fits }, spell_figures k fss rows so.2)

pub lines_few : (k : ℕ) (fss : List (List Text)) (rows : List (List ℕ)) → LinesSpell k fss rows → length (fields_lines fss) ≤ 11 * k * length rows
unfolding LinesSpell fields_lines
lines_few k [] [] so = omega arith
lines_few k [] (r ∷ rows) so = absurd so
lines_few k (fs ∷ fss) [] so = absurd so
lines_few k (fs ∷ fss) (r ∷ rows) so =
    let more : 11 * k * suc (length rows) ≡ 11 * k * length rows + 11 * k = mul-suc (11 * k) (length rows) in
    let line : length (fields_line fs) ≤ 11 * k = omega (arith, line_few fs r so.0, so.1) in
    omega (arith, length-append (fields_line fs) (fields_lines fss), lines_few k fss rows so.2)

-- the text s is lines that spell at most so many rows of k numbers
pub record Consists (most k : ℕ) (s : Text) (rows : List (List ℕ)) : Type 0 where
  pub fields : List (List Text)
  pub text : s ≡ fields_lines fields
  pub spells : LinesSpell k fields rows
  pub few : length rows ≤ most

no_rows : (most k : ℕ) (rows : List (List ℕ)) → value [] ≡ value rows → Consists most k [] rows
unfolding fields_lines LinesSpell
no_rows most k rows e = let none : [] ≡ rows = value_is e in subst (Consists most k []) none (record { fields = []; text = refl; spells = tt; few = omega arith })

-- what reads as rows is such lines
pub rows_are : (most k : ℕ) (s : Text) (rows : List (List ℕ)) → read_rows most k s ≡ value rows → Consists most k s rows
unfolding read_rows read_row fields_lines LinesSpell
rows_are zero k [] rows e = no_rows zero k rows e
rows_are zero k (b ∷ s) rows e = absurd (never 15 rows e)
rows_are (suc most) k [] rows e = no_rows (suc most) k rows e
rows_are (suc most) k (b ∷ s) rows e =
    let r = stepped (read_row k (b ∷ s)) _ rows e in
    let rs = stepped (read_rows most k r.from.rest) _ rows r.on in
    let is : r.from.found ∷ rs.from ≡ rows = value_is rs.on in
    let line : RowLine k (b ∷ s) r.from = row_is k (b ∷ s) r.from r.step in
    let others : Consists most k r.from.rest rs.from = rows_are most k r.from.rest rs.from rs.step in
    subst (Consists (suc most) k (b ∷ s)) is
    (record {
      fields = line.fields ∷ others.fields;
      text = line.text ∙ ap (λ (l : Text). fields_line line.fields ++ l) others.text;
      spells = (line.spells, line.long, others.spells);
      few = omega (arith, others.few);
    })

-- ---- rows and columns

fits_row : (cs : List (List ℕ)) (i : ℕ) → Each Fits cs → Figures (length cs) (row_of cs i)
fits_row [] i each = record { long = refl; fits = fits_none }
fits_row (c ∷ cs) i each =
    let others : Figures (length cs) (row_of cs i) = fits_row cs i each.1 in
    record { long = ap suc others.long; fits = fits_more (get_or c i 0) (row_of cs i) (each.0 i) others.fits }

each_listed : {A : Type 0} (P : A → Type 0) (f : ℕ → A) (n : ℕ) → ((i : ℕ) → P (f i)) → Each P (listed f n)
unfolding listed
each_listed P f zero h = tt
each_listed P f (suc n) h = one_more (listed f n) (each_listed P f n h)
  where
    one_more : (l : List _) → Each P l → Each P (l ++ (f n ∷ []))
    one_more [] each = (h n, tt)
    one_more (a ∷ l) each = (each.0, one_more l each.1)

-- what holds of row i of the columns, for every i, holds of each of their rows
pub rows_each : (P : List ℕ → Type 0) (cs : List (List ℕ)) → ((i : ℕ) → P (row_of cs i)) → Each P (rows_of cs)
unfolding rows_of
rows_each P [] h = tt
rows_each P (c ∷ cs) h = each_listed P (row_of (c ∷ cs)) (length c) h

-- the rows of columns whose numbers fit 32 bits
pub rows_fit : (cs : List (List ℕ)) → Each Fits cs → Each (Figures (length cs)) (rows_of cs)
rows_fit cs each = rows_each (Figures (length cs)) cs (λ i. fits_row cs i each)

-- k columns of the rows, from column j on
unfoldable pub columns_from : ℕ → ℕ → List (List ℕ) → List (List ℕ)
columns_from j zero rows = []
columns_from j (suc k) rows = column j rows ∷ columns_from (suc j) k rows

-- row i of them is row i, from number j on
row_of-columns : (j k : ℕ) (rows : List (List ℕ)) (i : ℕ) → length (get_or rows i []) ≡ j + k → row_of (columns_from j k rows) i ≡ drop j (get_or rows i [])
unfolding column columns_from
row_of-columns j zero rows i e = let short : length (get_or rows i []) ≤ j = omega arith in sym (drop_of_length-le (get_or rows i []) short)
row_of-columns j (suc k) rows i e =
    ap₂ ◌∷◌ (get_or-map (λ r. get_or r j 0) rows i []) (row_of-columns (suc j) k rows i (omega arith)) ∙ sym (drop-cons (get_or rows i []) j 0 (omega arith))

-- rows of k numbers are the rows of their k columns
pub rows_of-columns : (k : ℕ) (rows : List (List ℕ)) → 1 ≤ k → Each (λ r. length r ≡ k) rows → rows_of (columns_from 0 k rows) ≡ rows
unfolding column rows_of columns_from
rows_of-columns zero rows some each = absurd (omega arith)
rows_of-columns (suc k) rows some each =
    rw (length-map rows (λ r. get_or r 0 0))
    (listed_cong (row_of (columns_from 0 (suc k) rows)) (λ i. get_or rows i []) (length rows) (λ i lt. row_of-columns 0 (suc k) rows i (each_at (λ r. length r ≡ suc k) rows [] i each lt ∙ omega arith))
    ∙ listed_all [] rows)
