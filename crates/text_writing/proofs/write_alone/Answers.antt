-- `write_alone` meets its contract: the table is judged, measured, and then put.
use Rattle.series.proofs.ResultLaws.{refusal_met}
use Rattle.text_writing.proofs.WriteLaws.{table_refused, table_short, table_put}
use Rattle.text_writing.proofs.write_alone.Goals as goal

pub returns-in_err-table : goal.returns-in_err-table
returns-in_err-table c = rw (refusal_met c.from_residual.result _ c.from_residual.ensures.1) (table_refused _ _ c.args.text.now c.in_err-table.ensures.judged)

pub returns-then-text-length : goal.returns-then-text-length
returns-then-text-length c = table_short _ _ c.args.text.now c.in_ok-table.ensures.judged (rw c.length.ensures at c.if-text-length.true)

pub returns : goal.returns
returns c = table_put _ _ c.args.text.now c.in_ok-table.ensures.judged (rw c.length.ensures at c.if-text-length.false) c.put.ensures
