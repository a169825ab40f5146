-- A table: its columns, and its text.
use Rattle.std.specs.Prelude.{ℕ, ◌≤◌, ◌≡◌, true, List, ◌++◌, map}
use Rattle.text_rules.specs.Fields.{Text}
use Rattle.text_rules.specs.Rows.{write_rows, rows_of}
use Rattle.text_rules.specs.Text.{MOST_LINES}
use Rattle.text_rules.specs.Calls.{evenly, line_count}
use Rattle.text_writing.specs.declared.table.Table.{Table}

-- the columns of a table
abbrev pub columns_of : Table → List (List ℕ)
columns_of t = map (λ c. c.now) t.columns.now

-- its text: the names line, and a line for each row
abbrev pub written : Table → Text
written t = t.names.now ++ write_rows (rows_of (columns_of t))

-- columns of one length, of at most 1,024 numbers
pub record Even (cs : List (List ℕ)) : Type 0 where
  pub same : evenly (line_count cs) cs ≡ true
  pub few : line_count cs ≤ MOST_LINES
