-- `row::has_fields` meets its contract. The loop's invariant: the fields are there where those that are left are there in the rest of the text.
use Prim.Native.Nat.{◌-◌}
use native.Mathlib.Omega.{arith}
use Rattle.text_fields.proofs.RowLaws.{fields_missing, fields_more, fields_all}
use Rattle.text_fields.proofs.row.has_fields.Goals as goal

pub returns-in_default : goal.returns-in_default
returns-in_default c = fields_missing c.loop-left.invariant {j = c.loop-left.left - 1} (omega arith) (rw c.end_before.ensures at c.in_default.ensures)

pub loop-left-preserved : goal.loop-left-preserved
loop-left-preserved c = fields_more c.loop-left.invariant (omega arith) (rw c.end_before.ensures at c.in-Some.ensures)

pub returns : goal.returns
returns c = fields_all c.loop-left.invariant (omega arith)
