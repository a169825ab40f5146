-- `EvenTable::put_row` meets its contract. The loop's invariant: once the rest of the row is put, the row is.
use Prim.Native.Nat.{◌≤◌}
use native.Mathlib.Omega.{arith}
use lib.ListN.{length}
use Rattle.text_rules.specs.Fields.{COMMA, NEWLINE}
use Rattle.text_rules.specs.Rows.{row_of}
use Rattle.text_rules.proofs.LengthLaws.{row_done}
use Rattle.text_writing.specs.Columns.{columns_of}
use Rattle.text_writing.proofs.PutLaws.{left_fits, put_more, put_end}
use Rattle.text_writing.proofs.TableLaws.{nowhere, column_long, row_long, row_step}
use Rattle.text_writing.proofs.even_table.EvenTable.put_row.Goals as goal

pub bounds-column-i : goal.bounds-column-i
bounds-column-i c = omega (arith, column_long c.args.self.now.table.columns.now c.loop-j.j nowhere c.args.self.now.even c.loop-j-test.true, c.requires.in_lines)

pub put_number-next-requires : goal.put_number-next-requires
put_number-next-requires c = left_fits _ _ c.requires.row_in_bounds (rw (row_step _ _ _ _ c.loop-j-test.true c.end_before.ensures) at c.loop-j.invariant)

pub loop-j-preserved : goal.loop-j-preserved
loop-j-preserved c = put_more c.requires.row_in_bounds (rw (row_step _ _ _ _ c.loop-j-test.true c.end_before.ensures) at c.loop-j.invariant) c.put_number-next.ensures

pub returns : goal.returns
returns c =
    let row = row_of (columns_of c.args.self.now.table) c.args.i in
    let all : length row ≤ c.loop-j.j = omega (arith, row_long c.args.self.now.table.columns.now c.args.i, c.loop-j-test.false) in
    put_end (rw (row_done COMMA NEWLINE row c.loop-j.j all) at c.loop-j.invariant)
