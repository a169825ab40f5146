-- `EvenTable::put_row` meets its contract. The loop's invariant: once the rest of the row is put, the row is.
use lib.ListN.{drop}
use Rattle.text_rules.specs.Rows.{write_row, row_of}
use Rattle.text_writing.specs.Columns.{columns_of}
use Rattle.text_writing.proofs.PutLaws.{Left}
use Rattle.text_writing.proofs.even_table.EvenTable.put_row.Given as goal

abbrev pub invariant-loop-j : goal.invariant-loop-j
invariant-loop-j l = Left (write_row (row_of (columns_of l.self.table) l.i)) l.initial.text l.at (write_row (drop l.j (row_of (columns_of l.self.table) l.i))) l.text l.next
