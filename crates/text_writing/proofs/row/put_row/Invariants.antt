-- `row::put_row` meets its contract. The loop's invariant: once the rest of the line is put, the line is.
use lib.ListN.{drop}
use Rattle.text_rules.specs.Rows.{write_parted}
use Rattle.text_writing.proofs.PutLaws.{Left}
use Rattle.text_writing.proofs.row.put_row.Given as goal

abbrev pub invariant-loop-i : goal.invariant-loop-i
invariant-loop-i l = Left (write_parted l.part l.end l.row) l.initial.text l.at (write_parted l.part l.end (drop l.i l.row)) l.text l.next
