-- How long the lines of a text are, and what is left of them after some of their numbers.
use Prim.Native.Nat.{ℕ, zero, suc, ◌+◌, ◌-◌, ◌*◌, ◌≤◌, ◌<◌}
use mathlib.Core.Path.{◌≡◌, refl, sym, ap, ◌∙◌}
use mathlib.Core.Bool.{Bool, true, false, not}
use mathlib.Core.List.{List, [], ◌∷◌, ◌++◌, append_assoc, append-nil}
use native.Mathlib.Omega.{arith}
use native.Mathlib.Numerals.{add-one}
use lib.ListN.{length, get_or, drop, length-append, length-drop, length-map, drop_of_length-le}
use lib.Seq.{drop-cons}
use lib.Dec.{eqb, ltb}
use borrow.Author.Tests.{eq-eqb, eqb-true, le-ltb, ltb-false, not-false}
use Rattle.series.specs.Sums.{sum_below, listed}
use Rattle.series.specs.Results.{value, refuse}
use Rattle.series.specs.declared.Terms.{Terms}
use Rattle.series.proofs.ResultLaws.{stepped, not_refused}
use Rattle.series.proofs.SumLaws.{sum_mono, sum_const, sum_first}
use Rattle.forms.specs.declared.Form.{Form}
use Rattle.text_rules.specs.Numbers.{decimal}
use Rattle.text_rules.specs.Fields.{Text, COMMA, NEWLINE, end_before, write_number}
use Rattle.text_rules.specs.Rows.{write_parted, write_row, write_rows, row_of, rows_of}
use Rattle.text_rules.specs.Names.{terms_line, terms_numbers, columns_in, positions_line}
use Rattle.text_rules.specs.Text.{MOST_LINES, terms_row, write_terms, Optional, write_head, columns_by}
use Rattle.text_rules.specs.declared.TermsColumns.{TermsColumns}
use Rattle.text_rules.specs.Lists.{Columns, PlainCodes}
use Rattle.text_rules.specs.Calls.{evenly, line_count, head_and_lines}
use Rattle.text_rules.proofs.FieldLaws.{and-true-parts}
use Rattle.text_rules.proofs.NameLaws.{terms_line-room, code_room, form-room, length-positions}
use Rattle.text_rules.proofs.RowLaws.{Each, row_few}

pub length-number : (n c : ℕ) → length (write_number n c) ≡ length (decimal n) + 1
unfolding write_number
length-number n c = length-append (decimal n) (c ∷ [])

-- ---- a row, from number i on

module _ (part end : ℕ) where
  -- number i with the byte that ends its field
  abbrev pub number_at : List ℕ → ℕ → Text
  number_at row i = write_number (get_or row i 0) (end_before part end (length row - i - 1))

  -- what is left of the row after number i - 1 is number i and what is left after it
  pub row_next : (row : List ℕ) (i : ℕ) → i < length row → write_parted part end (drop i row) ≡ number_at row i ++ write_parted part end (drop (i + 1) row)
  unfolding write_parted
  row_next row i lt =
      let e : length (drop (suc i) row) ≡ length row - i - 1 = length-drop (suc i) row ∙ omega arith in
      rw (drop-cons row i 0 lt, add-one, e)

  pub row_next_length : (row : List ℕ) (i : ℕ) → i < length row → length (write_parted part end (drop i row)) ≡ length (decimal (get_or row i 0)) + 1 + length (write_parted part end (drop (i + 1) row))
  row_next_length row i lt =
      ap length (row_next row i lt)
      ∙ length-append (number_at row i) (write_parted part end (drop (i + 1) row))
      ∙ ap (◌+ length (write_parted part end (drop (i + 1) row))) (length-number (get_or row i 0) (end_before part end (length row - i - 1)))

  -- nothing is left after the last number
  pub row_done : (row : List ℕ) (i : ℕ) → length row ≤ i → write_parted part end (drop i row) ≡ []
  unfolding write_parted
  row_done row i le = rw (drop_of_length-le row le)

  -- the bytes that part and end a row are one each, whichever they are
  pub length-parted : (row : List ℕ) → length (write_parted part end row) ≡ length (write_row row)
  unfolding write_parted
  length-parted [] = refl
  length-parted (n ∷ ns) =
      omega (arith, length-append (write_number n (end_before part end (length ns))) (write_parted part end ns), length-append (write_number n (end_before COMMA NEWLINE (length ns))) (write_row ns), length-number n (end_before part end (length ns)), length-number n (end_before COMMA NEWLINE (length ns)), length-parted ns)

-- the whole line
pub length-row : (n : ℕ) (ns : List ℕ) → length (write_row (n ∷ ns)) ≡ length (decimal n) + 1 + length (write_row ns)
length-row n ns = row_next_length COMMA NEWLINE (n ∷ ns) 0 (omega arith)

-- ---- rows

pub rows_append : (rs qs : List (List ℕ)) → write_rows (rs ++ qs) ≡ write_rows rs ++ write_rows qs
unfolding write_rows
rows_append [] qs = refl
rows_append (r ∷ rs) qs = rw (rows_append rs qs) (sym (append_assoc (write_row r) (write_rows rs) (write_rows qs)))

-- the lines of the rows f 0, f 1, .., f (n - 1)
abbrev pub lines_of : (ℕ → List ℕ) → ℕ → Text
lines_of f n = write_rows (listed f n)

-- one more line
pub lines_next : (f : ℕ → List ℕ) (n : ℕ) → lines_of f (n + 1) ≡ lines_of f n ++ write_row (f n)
unfolding listed write_rows
lines_next f n = rw (add-one n) (rows_append (listed f n) (f n ∷ []) ∙ ap (lines_of f n ++◌) (append-nil (write_row (f n))))

pub lines_next_length : (f : ℕ → List ℕ) (n : ℕ) → length (lines_of f (n + 1)) ≡ length (lines_of f n) + length (write_row (f n))
lines_next_length f n = ap length (lines_next f n) ∙ length-append (lines_of f n) (write_row (f n))

-- all of them
pub lines_all : (c : List ℕ) (cs : List (List ℕ)) (n : ℕ) → n ≡ length c → lines_of (row_of (c ∷ cs)) n ≡ write_rows (rows_of (c ∷ cs))
unfolding rows_of
lines_all c cs n e = rw e

length-lines : (f : ℕ → List ℕ) (n : ℕ) → length (lines_of f n) ≡ sum_below (λ i. length (write_row (f i))) n
unfolding listed write_rows sum_below
length-lines f zero = refl
length-lines f (suc n) = ap (λ (k : ℕ). length (lines_of f k)) (sym (add-one n)) ∙ lines_next_length f n ∙ ap (◌+ length (write_row (f n))) (length-lines f n)

-- the first lines are no longer than all of them
pub lines_within : (f : ℕ → List ℕ) (m n : ℕ) → m ≤ n → length (lines_of f m) ≤ length (lines_of f n)
lines_within f m n h = omega (arith, length-lines f m, length-lines f n, sum_first (λ i. length (write_row (f i))) m n h)

-- lines of at most b bytes each
pub lines_most : (f : ℕ → List ℕ) (b n : ℕ) → ((i : ℕ) → i < n → length (write_row (f i)) ≤ b) → length (lines_of f n) ≤ b * n
lines_most f b n each = omega (arith, length-lines f n, sum_mono (λ i. length (write_row (f i))) (λ _. b) n each, sum_const b n)

-- rows of at most k numbers have lines of at most 11 * k bytes
pub lines_room : (f : ℕ → List ℕ) (k n : ℕ) → ((i : ℕ) → length (f i) ≤ k) → length (lines_of f n) ≤ 11 * k * n
lines_room f k n h = lines_most f (11 * k) n (λ i _. omega (arith, row_few (f i), h i))

-- the lines of k columns have at most 11 * k bytes each
pub rows-room : (cs : List (List ℕ)) → length (write_rows (rows_of cs)) ≤ 11 * length cs * line_count cs
unfolding rows_of line_count write_rows
rows-room [] = omega arith
rows-room (c ∷ cs) = lines_room (row_of (c ∷ cs)) (length (c ∷ cs)) (length c) (λ i. omega (arith, length-map (c ∷ cs) (λ d. get_or d i 0)))

-- ---- lines 1 to 3

-- their length is that of their parts
pub length-head : (o : Optional) (f : Form) (t : Terms) → length (write_head o f t) ≡ length (terms_line o.terms) + (2 + length (write_row (terms_row o.terms t))) + length (positions_line (columns_in f o.coded))
unfolding write_head write_terms
length-head o f t =
    let second : Text = write_terms o.terms t in
    let third : Text = positions_line (columns_in f o.coded) in
    omega (arith, length-append (terms_line o.terms) (second ++ third), length-append second third)

-- line 2 has as many numbers as line 1 names
pub length-terms : (c : TermsColumns) (t : Terms) → length (terms_row c t) ≡ terms_numbers c
length-terms TermsColumns.MethodExercisedDraw t = refl
length-terms TermsColumns.MethodExercisedDrawIncrement t = refl

-- at most three
pub few-numbers : (c : TermsColumns) → terms_numbers c ≤ 3
few-numbers TermsColumns.MethodExercisedDraw = omega arith
few-numbers TermsColumns.MethodExercisedDrawIncrement = omega arith

pub terms-few : (c : TermsColumns) (t : Terms) → length (terms_row c t) ≤ 3
terms-few c t = omega (arith, length-terms c t, few-numbers c)

pub terms-room : (c : TermsColumns) (t : Terms) → length (write_terms c t) ≤ 35
unfolding write_terms
terms-room c t = omega (arith, row_few (terms_row c t), terms-few c t)

pub columns-room : (f : Form) (c : Bool) → length (positions_line (columns_in f c)) ≤ 19
columns-room f c = omega (arith, length-positions f c, code_room c, form-room f)

pub head_room : (o : Optional) (f : Form) (t : Terms) → length (write_head o f t) ≤ 86
unfolding write_terms
head_room o f t = omega (arith, length-head o f t, terms_line-room o.terms, terms-room o.terms t, columns-room f o.coded)

-- ---- a head and lines

-- what the test of the columns' lengths says
pub even_each : (n : ℕ) (cs : List (List ℕ)) → evenly n cs ≡ true → Each (λ c. length c ≡ n) cs
unfolding evenly
even_each n [] e = tt
even_each n (c ∷ cs) e = let both = and-true-parts (eqb (length c) n) (evenly n cs) e in (eqb-true (length c) n both.0, even_each n cs both.1)

-- columns that are as long as the first, with the codes or without them
pub even-lengths : (c : Bool) (codes accounts shorts : List ℕ) (n : ℕ) → PlainCodes c codes accounts → Each (λ l. length l ≡ n) (columns_by c codes accounts shorts) → (length codes ≡ length accounts) × (length shorts ≡ length accounts)
even-lengths true codes accounts shorts n plain each = (omega arith, omega arith)
even-lengths false codes accounts shorts n plain each = (ap length (plain refl), omega arith)

pub count_by : (c : Bool) (codes accounts shorts : List ℕ) → length codes ≡ length accounts → line_count (columns_by c codes accounts shorts) ≡ length accounts
unfolding line_count
count_by true codes accounts shorts same = same
count_by false codes accounts shorts same = refl

pub columns-even : (c : Bool) (codes accounts shorts : List ℕ) → length codes ≡ length accounts → length shorts ≡ length accounts → evenly (line_count (columns_by c codes accounts shorts)) (columns_by c codes accounts shorts) ≡ true
unfolding evenly
columns-even true codes accounts shorts same beside = rw (count_by true codes accounts shorts same, eq-eqb (length codes) (length accounts) same, eq-eqb (length accounts) (length accounts) refl, eq-eqb (length shorts) (length accounts) beside)
columns-even false codes accounts shorts same beside = rw (count_by false codes accounts shorts same, eq-eqb (length accounts) (length accounts) refl, eq-eqb (length shorts) (length accounts) beside)

pub even-columns : (c : Bool) (codes accounts shorts : List ℕ) (n : ℕ) → PlainCodes c codes accounts → Each (λ l. length l ≡ n) (columns_by c codes accounts shorts) → line_count (columns_by c codes accounts shorts) ≤ MOST_LINES → Columns codes accounts shorts
even-columns c codes accounts shorts n plain each few =
    let both = even-lengths c codes accounts shorts n plain each in
    record { codes = both.0; numbers = both.1; few = omega (arith, count_by c codes accounts shorts both.0) }

-- the columns are as long as the first, they are not too long, and the text is the head with their lines
pub record LinesKnown (head : Text) (cs : List (List ℕ)) (s : Text) : Type 0 where
  pub even : Each (λ c. length c ≡ line_count cs) cs
  pub few : line_count cs ≤ MOST_LINES
  pub text : head ++ write_rows (rows_of cs) ≡ s

pub lines_known : (head : Text) (cs : List (List ℕ)) (s : Text) → head_and_lines head cs ≡ value s → LinesKnown head cs s
unfolding head_and_lines
lines_known head cs s e =
    let one = stepped (refuse (not (evenly (line_count cs) cs)) 1 (head ++ write_rows (rows_of cs))) _ s e in
    let even = not_refused (not (evenly (line_count cs) cs)) 1 (head ++ write_rows (rows_of cs)) one.from one.step in
    let few = not_refused (ltb MOST_LINES (line_count cs)) 15 one.from s one.on in
    record {
      even = even_each (line_count cs) cs (not-false (evenly (line_count cs) cs) even.0);
      few = ltb-false MOST_LINES (line_count cs) few.0;
      text = even.1 ∙ few.1;
    }

-- the head and the lines of columns of one length, of at most 1,024 numbers
pub lines_written : (head : Text) (c : Bool) (codes accounts shorts : List ℕ) → Columns codes accounts shorts → head_and_lines head (columns_by c codes accounts shorts) ≡ value (head ++ write_rows (rows_of (columns_by c codes accounts shorts)))
unfolding head_and_lines
lines_written head c codes accounts shorts l = rw (columns-even c codes accounts shorts l.codes l.numbers, count_by c codes accounts shorts l.codes, le-ltb MOST_LINES (length accounts) l.few)
