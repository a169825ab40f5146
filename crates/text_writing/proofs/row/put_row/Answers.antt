-- `row::put_row` meets its contract. The loop's invariant: once the rest of the line is put, the line is.
use Rattle.text_rules.proofs.LengthLaws.{row_next, row_done}
use Rattle.text_writing.proofs.PutLaws.{left_fits, put_more, put_end}
use Rattle.text_writing.proofs.row.put_row.Goals as goal

pub put_number-next-requires : goal.put_number-next-requires
put_number-next-requires c = rw c.end_before.ensures (left_fits _ _ c.requires (rw (row_next _ _ _ _ c.loop-i-test.true) at c.loop-i.invariant))

pub loop-i-preserved : goal.loop-i-preserved
loop-i-preserved c =
    let put = rw c.end_before.ensures at c.put_number-next.ensures in
    put_more c.requires (rw (row_next _ _ _ _ c.loop-i-test.true) at c.loop-i.invariant) put

pub returns : goal.returns
returns c = put_end (rw (row_done c.args.part c.args.end c.args.row.now c.loop-i.i c.loop-i-test.false) at c.loop-i.invariant)
