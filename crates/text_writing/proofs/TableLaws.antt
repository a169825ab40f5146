-- Laws of a table: its columns, its rows and its lines.
use Prim.Native.Nat.{ℕ, zero, suc, ◌+◌, ◌-◌, ◌*◌, ◌≤◌, ◌<◌}
use mathlib.Core.Path.{◌≡◌, refl, sym, ap, ◌∙◌}
use mathlib.Core.List.{List, [], ◌∷◌, ◌++◌, map}
use native.Mathlib.Omega.{arith}
use native.Mathlib.Numerals.{add-one}
use borrow.Author.Tests.{eqb-true}
use denote.Bor.{Bor}
use Rattle.std.specs.Prelude.{Some, None}
use Rattle.std.specs.List.{slice_get, sum_by}
use lib.Dec.{eqb}
use lib.ListN.{length, get_or, drop, length-map}
use Rattle.std.proofs.lemmas.List.Recursion.{and_at}
use Rattle.std.proofs.lemmas.List.Sums.{sum_by-cons}
use Rattle.series.specs.Sums.{sum_below, listed}
use Rattle.series.proofs.SumLaws.{sum_cong, sum-add, sum_const, sum_head}
use Rattle.text_rules.specs.Numbers.{decimal}
use Rattle.text_rules.specs.Fields.{COMMA, NEWLINE, end_before, write_number}
use Rattle.text_rules.specs.Rows.{write_parted, write_row, write_rows, row_of, rows_of}
use Rattle.text_rules.specs.Calls.{evenly, line_count}
use Rattle.text_rules.proofs.DecimalLaws.{digits-few}
use Rattle.text_rules.proofs.LengthLaws.{length-row, row_next, lines_of, lines_next_length, lines_within, even_each}
use Rattle.text_rules.proofs.RowLaws.{Each}
use Rattle.text_writing.specs.Columns.{Even}

-- what stands where there is no reference
abbrev pub nowhere : Bor (List ℕ)
nowhere = record { ref_ptr = (0, 0); now = [] }

-- the lists behind references
abbrev pub behind : List (Bor (List ℕ)) → List (List ℕ)
behind bs = map (λ b. b.now) bs

-- there are as many lines as the first column has numbers
pub first_long : (bs : List (Bor (List ℕ))) (b : Bor (List ℕ)) → Some b ≡ slice_get bs 0 → length b.now ≡ line_count (behind bs)
unfolding line_count
first_long [] b e = cc
first_long (x ∷ bs) b e = let is : b ≡ x = cc in ap (λ (b : Bor (List ℕ)). length b.now) is

pub none_first : (bs : List (Bor (List ℕ))) → None ≡ slice_get bs 0 → 0 ≡ line_count (behind bs)
unfolding line_count
none_first [] e = refl
none_first (b ∷ bs) e = cc

-- a column of a table has as many numbers as there are lines
pub column_long : (bs : List (Bor (List ℕ))) (j : ℕ) (d : Bor (List ℕ)) → Even (behind bs) → j < length bs → length ((get_or bs j d).now) ≡ line_count (behind bs)
unfolding evenly
column_long bs j d even lt =
    let n : ℕ = line_count (behind bs) in
    eqb-true _ n (and_at (λ bs. evenly n (behind bs)) (λ b. eqb (length b.now) n) refl (λ b bs. refl) bs j d lt even.same)

-- a row has a number of each column
pub row_long : (bs : List (Bor (List ℕ))) (i : ℕ) → length (row_of (behind bs) i) ≡ length bs
row_long bs i = length-map (behind bs) (λ c. get_or c i 0) ∙ length-map bs (λ b. b.now)

-- number j of it is that of column j
pub row_at : (bs : List (Bor (List ℕ))) (i j : ℕ) → j < length bs → get_or (row_of (behind bs) i) j 0 ≡ get_or ((get_or bs j nowhere).now) i 0
row_at [] i j lt = absurd (omega arith)
row_at (b ∷ bs) i zero lt = refl
row_at (b ∷ bs) i (suc j) lt = row_at bs i j (omega arith)

-- what is left of it from number j on is that number, with the byte that ends its field, and what is left after it
pub row_step : (bs : List (Bor (List ℕ))) (i j end : ℕ) → j < length bs → end ≡ end_before COMMA NEWLINE (length bs - j - 1)
    → write_row (drop j (row_of (behind bs) i)) ≡ write_number (get_or ((get_or bs j nowhere).now) i 0) end ++ write_row (drop (j + 1) (row_of (behind bs) i))
row_step bs i j end lt e = rw (row_next COMMA NEWLINE (row_of (behind bs) i) j (omega (arith, row_long bs i)), row_at bs i j lt, row_long bs i, e) refl

-- the lines are those of the rows
pub lines_whole : (cs : List (List ℕ)) → lines_of (row_of cs) (line_count cs) ≡ write_rows (rows_of cs)
unfolding line_count rows_of listed
lines_whole [] = refl
lines_whole (c ∷ cs) = refl

-- where there is room for all lines, there is for the first ones
pub lines_fit : (cs : List (List ℕ)) (from room i : ℕ) → i < line_count cs → from + length (write_rows (rows_of cs)) ≤ room → from + length (lines_of (row_of cs) i) + length (write_row (row_of cs i)) ≤ room
lines_fit cs from room i lt fits = omega (arith, fits, ap length (lines_whole cs), lines_within (row_of cs) (i + 1) (line_count cs) (omega arith), lines_next_length (row_of cs) i)

-- ---- how long the lines are

-- a row has the digits of its numbers, and a byte after each
pub row_digits : (row : List ℕ) → length (write_row row) ≡ sum_by (λ n. length (decimal n)) row + length row
unfolding write_parted
row_digits [] = refl
row_digits (n ∷ ns) = omega (arith, length-row n ns, sum_by-cons (λ n. length (decimal n)) n ns, row_digits ns)

pub digits_within : (row : List ℕ) → sum_by (λ n. length (decimal n)) row ≤ 10 * length row
digits_within [] = omega arith
digits_within (n ∷ ns) = omega (arith, sum_by-cons (λ n. length (decimal n)) n ns, digits-few n, digits_within ns)

-- the length of a row is that of its numbers, with a byte after each
row_sum : (row : List ℕ) → length (write_row row) ≡ sum_below (λ i. length (decimal (get_or row i 0)) + 1) (length row)
unfolding write_parted sum_below
row_sum [] = refl
row_sum (n ∷ ns) = omega (arith, length-row n ns, sum_head (λ i. length (decimal (get_or (n ∷ ns) i 0)) + 1) (length ns), row_sum ns)

-- the length of the lines is that of the rows
lines_sum : (f : ℕ → List ℕ) (n : ℕ) → length (lines_of f n) ≡ sum_below (λ i. length (write_row (f i))) n
unfolding listed write_rows sum_below
lines_sum f zero = refl
lines_sum f (suc n) = ap (λ k. length (lines_of f k)) (sym (add-one n)) ∙ omega (arith, lines_next_length f n, lines_sum f n)

-- the length of the columns, each written as a row
abbrev pub columns_length : List (List ℕ) → ℕ
columns_length [] = 0
columns_length (c ∷ cs) = length (write_row c) + columns_length cs

by_columns : (cs : List (List ℕ)) (n : ℕ) → Each (λ c. length c ≡ n) cs → sum_below (λ i. length (write_row (row_of cs i))) n ≡ columns_length cs
unfolding write_parted
by_columns [] n each = omega (arith, sum_const 0 n)
by_columns (c ∷ cs) n each =
    let digits = λ (i : ℕ). length (decimal (get_or c i 0)) + 1 in
    let rest = λ (i : ℕ). length (write_row (row_of cs i)) in
    let parted = sum_cong (λ i. length (write_row (row_of (c ∷ cs) i))) (λ i. digits i + rest i) n (λ i lt. length-row (get_or c i 0) (row_of cs i)) in
    let first = rw each.0 at (row_sum c) in
    omega (arith, parted, sum-add digits rest n, first, by_columns cs n each.1)

-- the lines are as long as the columns
pub lines_by_columns : (cs : List (List ℕ)) → Even cs → length (write_rows (rows_of cs)) ≡ columns_length cs
lines_by_columns cs even = ap length (sym (lines_whole cs)) ∙ lines_sum (row_of cs) (line_count cs) ∙ by_columns cs (line_count cs) (even_each (line_count cs) cs even.same)

-- what `sum` comes to of the columns
pub columns_sum : (bs : List (Bor (List ℕ))) → sum_by (λ b. length (write_row b.now)) bs ≡ columns_length (behind bs)
columns_sum [] = refl
columns_sum (b ∷ bs) = omega (arith, sum_by-cons (λ b. length (write_row b.now)) b bs, columns_sum bs)

-- each column has at most 11 bytes for each line
pub columns_within : (bs : List (Bor (List ℕ))) → Even (behind bs) → columns_length (behind bs) ≤ 11264 * length bs
columns_within bs even = go bs (even_each (line_count (behind bs)) (behind bs) even.same)
  where
    go : (ds : List (Bor (List ℕ))) → Each (λ c. length c ≡ line_count (behind bs)) (behind ds) → columns_length (behind ds) ≤ 11264 * length ds
    go [] each = omega arith
    go (d ∷ ds) each = omega (arith, row_digits d.now, digits_within d.now, each.0, even.few, go ds each.1)
