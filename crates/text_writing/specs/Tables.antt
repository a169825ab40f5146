-- Two tables, one after the other.
use Rattle.std.specs.Prelude.{ℕ, ◌+◌, List, ◌++◌, ltb, length}
use Rattle.series.specs.Results.{Result, ◌>>=◌, refuse}
use Rattle.text_rules.specs.Fields.{Text}
use Rattle.text_rules.specs.Calls.{head_and_lines}

-- two tables, one after the other, to an output of length room: the refusals of the first, then of the second, then 4
unfoldable pub tables_into : Text → List (List ℕ) → Text → List (List ℕ) → ℕ → Result Text
tables_into head cs head2 cs2 room = do
  s ← head_and_lines head cs
  t ← head_and_lines head2 cs2
  refuse (ltb room (length (s ++ t))) 4 (s ++ t)

-- the length of two texts, one after the other, with the same refusals
unfoldable pub both_within : Result ℕ → Result ℕ → ℕ → Result ℕ
both_within first second room = do
  m ← first
  n ← second
  refuse (ltb room (m + n)) 4 (m + n)
