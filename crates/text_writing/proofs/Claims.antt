-- Two tables, one after the other: their bytes, the room for them and the order of their refusals, proved of the definition by computation.
use Prim.Native.Nat.{ℕ, suc, ◌-◌}
use Prim.Native.String.{String}
use mathlib.Core.Path.{◌≡◌, refl}
use mathlib.Core.List.{List, [], ◌∷◌, map}
use lib.ListN.{length, replicate}
use Rattle.series.specs.Ascii.{ascii}
use Rattle.series.specs.Results.{Result, refused, value, status}
use Rattle.series.specs.Sums.{listed}
use Rattle.text_rules.specs.Numbers.{decimal_in, decimal}
use Rattle.text_rules.specs.Fields.{Text, end_before, write_number}
use Rattle.text_rules.specs.Rows.{write_parted, write_rows, rows_of}
use Rattle.text_rules.specs.Calls.{evenly, line_count, head_and_lines}
use Rattle.text_writing.specs.Tables.{tables_into}

-- the definitions that writing two tables computes with
tabling : Text → List (List ℕ) → Text → List (List ℕ) → ℕ → Result Text
unfolding ascii decimal_in decimal write_number end_before write_parted write_rows listed rows_of evenly line_count head_and_lines tables_into
tabling head cs head2 cs2 room = tables_into head cs head2 cs2 room

-- two tables, and their text
pub record TablesCase : Type 0 where
  pub written : ℕ → Result Text
  pub text : String

abbrev tables : String → List (List ℕ) → String → List (List ℕ) → String → TablesCase
tables head cs head2 cs2 s = record { written = tables_into (ascii head) cs (ascii head2) cs2; text = s }

pub tables_cases : List TablesCase
tables_cases =
    tables "a,b\n" ((7 ∷ 10 ∷ []) ∷ (0 ∷ 300 ∷ []) ∷ []) "c\n" ((4294967295 ∷ []) ∷ []) "a,b\n7,0\n10,300\nc\n4294967295\n" ∷
    tables "a\n" ((1 ∷ []) ∷ []) "" ([] ∷ []) "a\n1\n" ∷
    tables "" ([] ∷ []) "c,d\n" ((1 ∷ []) ∷ (2 ∷ []) ∷ []) "c,d\n1,2\n" ∷ []

-- with room for all bytes, for one more, for one less and for none
pub tables_judged : map (λ c. let n = length (ascii c.text) in c.written n ∷ c.written (suc n) ∷ c.written (n - 1) ∷ c.written 0 ∷ []) tables_cases ≡ map (λ c. value (ascii c.text) ∷ value (ascii c.text) ∷ refused 4 ∷ refused 4 ∷ []) tables_cases
unfolding tabling tables_cases
tables_judged = refl

-- tables of two columns of these lengths, with no room
abbrev columns_of : ℕ → ℕ → List (List ℕ)
columns_of m n = replicate m 1 ∷ replicate n 1 ∷ []

abbrev tables_of : List (List ℕ) → List (List ℕ) → ℕ
tables_of cs cs2 = status (tables_into [] cs [] cs2 0)

-- the refusal of the first table, 1 or 15, then that of the second, and then 4
pub tables_refused :
    tables_of (columns_of 1 0) (columns_of 1025 1025) ∷
    tables_of (columns_of 1025 1025) (columns_of 1 0) ∷
    tables_of (columns_of 1024 1024) (columns_of 0 1) ∷
    tables_of (columns_of 1024 1024) (columns_of 1025 1025) ∷
    tables_of (columns_of 1024 1024) (columns_of 1024 1024) ∷
    tables_of (columns_of 0 0) (columns_of 1 1) ∷
    tables_of (columns_of 1 1) (columns_of 0 0) ∷
    tables_of (columns_of 0 0) (columns_of 0 0) ∷ []
    ≡ 1 ∷ 15 ∷ 1 ∷ 15 ∷ 4 ∷ 4 ∷ 4 ∷ 0 ∷ []
unfolding tabling
tables_refused = refl
