-- `EvenTable::put_lines` meets its contract. The loop's invariant: the lines of the first `i` rows are put.
use mathlib.Core.Path.{◌≡◌}
use lib.ListN.{length}
use Rattle.text_rules.specs.Rows.{row_of}
use Rattle.text_rules.proofs.LengthLaws.{lines_of}
use Rattle.text_writing.specs.Parts.{Put}
use Rattle.text_writing.specs.Columns.{columns_of}
use Rattle.text_writing.proofs.even_table.EvenTable.put_lines.Given as goal

abbrev pub invariant-loop-i : goal.invariant-loop-i
invariant-loop-i l = Put (lines_of (row_of (columns_of l.self.table)) l.i) l.initial.text l.from l.text l.at × (length l.text ≡ length l.initial.text)
