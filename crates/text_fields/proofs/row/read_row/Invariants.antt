-- `row::read_row` meets its contract. The loop's invariant: the numbers read stand first in the row, and the others are read from the rest of the text.
use Prim.Native.Nat.{◌-◌}
use lib.ListN.{length}
use Rattle.text_fields.proofs.RowLaws.{RowTo}
use Rattle.text_fields.proofs.row.read_row.Given as goal

abbrev pub invariant-loop-i : goal.invariant-loop-i
invariant-loop-i l = RowTo l.initial.row l.text l.row l.rest l.i (length l.initial.row - l.i)
