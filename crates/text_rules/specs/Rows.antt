-- Rows: lines of numbers, read and written.
use Rattle.std.specs.Prelude.{ℕ, zero, suc, List, [], ◌∷◌, ◌++◌, map, length, get_or}
use Rattle.series.specs.Results.{Result, refused, value, ◌>>=◌}
use Rattle.series.specs.Sums.{listed}
use Rattle.text_rules.specs.Numbers.{number}
use Rattle.text_rules.specs.Fields.{Text, COMMA, NEWLINE, Read, end_before, read_fields, write_number}

-- the fields as numbers, else 13
unfoldable pub numbers : List Text → Result (List ℕ)
numbers [] = value []
numbers (f ∷ fs) = do
  n ← number f
  ns ← numbers fs
  value (n ∷ ns)

-- a line of k numbers, else 13
unfoldable pub read_row : ℕ → Text → Result (Read (List ℕ))
read_row k s = do
  fs ← read_fields k s
  ns ← numbers fs.found
  value (record { found = ns; rest = fs.rest })

-- the lines of k numbers to the end of the text, 15 where there would be more than `most`
unfoldable pub read_rows : ℕ → ℕ → Text → Result (List (List ℕ))
read_rows zero k [] = value []
read_rows zero k (b ∷ s) = refused 15
read_rows (suc most) k [] = value []
read_rows (suc most) k (b ∷ s) = do
  r ← read_row k (b ∷ s)
  rs ← read_rows most k r.rest
  value (r.found ∷ rs)

-- numbers as fields, which the byte `part` parts and the byte `end` ends
unfoldable pub write_parted : ℕ → ℕ → List ℕ → Text
write_parted part end [] = []
write_parted part end (n ∷ ns) = write_number n (end_before part end (length ns)) ++ write_parted part end ns

-- a line of numbers: parted by commas, ended by byte 10
abbrev pub write_row : List ℕ → Text
write_row ns = write_parted COMMA NEWLINE ns

-- lines of numbers
unfoldable pub write_rows : List (List ℕ) → Text
write_rows [] = []
write_rows (r ∷ rs) = write_row r ++ write_rows rs

-- row i of the columns cs
abbrev pub row_of : List (List ℕ) → ℕ → List ℕ
row_of cs i = map (λ c. get_or c i 0) cs

-- the rows of columns that are as long as the first
unfoldable pub rows_of : List (List ℕ) → List (List ℕ)
rows_of [] = []
rows_of (c ∷ cs) = listed (row_of (c ∷ cs)) (length c)

-- column j of the rows
unfoldable pub column : ℕ → List (List ℕ) → List ℕ
column j rows = map (λ r. get_or r j 0) rows
