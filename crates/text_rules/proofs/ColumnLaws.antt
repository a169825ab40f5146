-- Laws of the rows of columns, and of the columns of rows.
use Prim.Native.Nat.{ℕ, zero, suc, ◌+◌, ◌<◌}
use mathlib.Core.Path.{◌≡◌, refl, ap, ap₂, ◌∙◌}
use mathlib.Core.List.{List, [], ◌∷◌, ◌++◌, map, map-append}
use native.Mathlib.Omega.{arith}
use native.Mathlib.Numerals.{add-one}
use lib.ListN.{length, get_or, take, set, length-append, get_or-append, get_or-map}
use lib.Seq.{get_or_at, length-take-le, take-suc-set}
use Rattle.series.specs.Sums.{listed}
use Rattle.series.proofs.SumLaws.{length-listed, listed_cong, listed_head}
use Rattle.text_rules.specs.Rows.{row_of, rows_of, column}

-- as many rows as the first column has numbers
pub length_rows_lem : (c : List ℕ) (cs : List (List ℕ)) → length (rows_of (c ∷ cs)) ≡ length c
unfolding rows_of
length_rows_lem c cs = length-listed (row_of (c ∷ cs)) (length c)

-- ---- a column of the rows

map-listed : {A B : Type 0} (f : A → B) (g : ℕ → A) (n : ℕ) → map f (listed g n) ≡ listed (λ i. f (g i)) n
unfolding listed
map-listed f g zero = refl
map-listed f g (suc n) = map-append f (listed g n) (g n ∷ []) ∙ ap (λ l. l ++ (f (g n) ∷ [])) (map-listed f g n)

-- a list is its elements, one by one
pub listed_all : {A : Type 0} (d : A) (xs : List A) → listed (λ i. get_or xs i d) (length xs) ≡ xs
unfolding listed
listed_all d [] = refl
listed_all {A} d (x ∷ xs) = listed_head (λ i. get_or (x ∷ xs) i d) (length xs) ∙ ap (λ (l : List A). x ∷ l) (listed_all d xs)

-- column j of the rows, where it is as long as the first
pub column-rows : (c : List ℕ) (cs : List (List ℕ)) (j : ℕ) → length (get_or (c ∷ cs) j []) ≡ length c → column j (rows_of (c ∷ cs)) ≡ get_or (c ∷ cs) j []
unfolding column rows_of
column-rows c cs j long =
    map-listed (λ r. get_or r j 0) (row_of (c ∷ cs)) (length c)
    ∙ listed_cong (λ i. get_or (row_of (c ∷ cs) i) j 0) (λ i. get_or (get_or (c ∷ cs) j []) i 0) (length c) (λ i lt. get_or-map (λ d. get_or d i 0) (c ∷ cs) j [])
    ∙ rw (← long) (listed_all 0 (get_or (c ∷ cs) j []))

-- ---- one row more

-- each column with a number of the row at its end
unfoldable pub longer : List (List ℕ) → List ℕ → List (List ℕ)
longer [] row = []
longer (c ∷ cs) [] = []
longer (c ∷ cs) (x ∷ row) = (c ++ (x ∷ [])) ∷ longer cs row

-- each column has n numbers
unfoldable pub Long : ℕ → List (List ℕ) → Type 0
Long n [] = Unit {0}
Long n (c ∷ cs) = (length c ≡ n) × Long n cs

-- the rows before it are the same
row_before : (n i : ℕ) (cs : List (List ℕ)) (row : List ℕ) → Long n cs → length row ≡ length cs → i < n → row_of (longer cs row) i ≡ row_of cs i
unfolding longer Long
row_before n i [] row l e lt = refl
row_before n i (c ∷ cs) [] l e lt = absurd (omega arith)
row_before n i (c ∷ cs) (x ∷ row) l e lt =
    let lt' : i < length c = omega arith in
    ap₂ ◌∷◌ (get_or-append c (x ∷ []) 0 i lt') (row_before n i cs row l.1 (omega arith) lt)

-- and it is the last
row_last : (n : ℕ) (cs : List (List ℕ)) (row : List ℕ) → Long n cs → length row ≡ length cs → row_of (longer cs row) n ≡ row
unfolding longer Long
row_last n [] [] l e = refl
row_last n [] (x ∷ row) l e = absurd (omega arith)
row_last n (c ∷ cs) [] l e = absurd (omega arith)
row_last n (c ∷ cs) (x ∷ row) l e = ap₂ ◌∷◌ (get_or_at c x [] 0 n l.0) (row_last n cs row l.1 (omega arith))

pub rows_longer : (n : ℕ) (c : List ℕ) (cs : List (List ℕ)) (row : List ℕ) → Long n (c ∷ cs) → length row ≡ length (c ∷ cs) → rows_of (longer (c ∷ cs) row) ≡ rows_of (c ∷ cs) ++ (row ∷ [])
unfolding rows_of listed longer Long
rows_longer n c cs [] l e = absurd (omega arith)
rows_longer n c cs (x ∷ row) l e =
    let long : length (c ++ (x ∷ [])) ≡ suc n = length-append c (x ∷ []) ∙ omega arith in
    rw (long, l.0)
    (ap₂ (λ rows r. rows ++ (r ∷ [])) (listed_cong (row_of (longer (c ∷ cs) (x ∷ row))) (row_of (c ∷ cs)) n (λ i lt. row_before n i (c ∷ cs) (x ∷ row) l e lt))
    (row_last n (c ∷ cs) (x ∷ row) l e))

-- the numbers of a row, by their columns
numbers_by : (k : ℕ) (row : List ℕ) → length row ≡ k → listed (λ j. get_or row j 0) k ≡ row
numbers_by k row e = rw (← e) (listed_all 0 row)

-- one row more of three lists that are written
pub rows-set : (xs ys zs : List ℕ) (n : ℕ) (row : List ℕ) → n < length xs → n < length ys → n < length zs → length row ≡ 3
    → rows_of (take (n + 1) (set xs n (get_or row 0 0)) ∷ take (n + 1) (set ys n (get_or row 1 0)) ∷ take (n + 1) (set zs n (get_or row 2 0)) ∷ []) ≡ rows_of (take n xs ∷ take n ys ∷ take n zs ∷ []) ++ (row ∷ [])
unfolding longer Long listed
rows-set xs ys zs n row lx ly lz e =
    let long : Long n (take n xs ∷ take n ys ∷ take n zs ∷ []) = (length-take-le n xs (omega arith), (length-take-le n ys (omega arith), (length-take-le n zs (omega arith), tt))) in
    rw (add-one, take-suc-set xs n (get_or row 0 0) lx, take-suc-set ys n (get_or row 1 0) ly, take-suc-set zs n (get_or row 2 0) lz)
    (rows_longer n (take n xs) (take n ys ∷ take n zs ∷ []) (get_or row 0 0 ∷ get_or row 1 0 ∷ get_or row 2 0 ∷ []) long refl
    ∙ ap (λ (r : List ℕ). rows_of (take n xs ∷ take n ys ∷ take n zs ∷ []) ++ (r ∷ [])) (numbers_by 3 row e))
