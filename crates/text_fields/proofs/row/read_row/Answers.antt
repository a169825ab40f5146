-- `row::read_row` meets its contract. The loop's invariant: the numbers read stand first in the row, and the others are read at the cursor.
use Prim.Native.Nat.{◌+◌, ◌-◌}
use mathlib.Core.Path.{◌≡◌}
use native.Mathlib.Omega.{arith}
use lib.ListN.{length}
use Rattle.std.proofs.lemmas.List.{set-get_or}
use Rattle.text_fields.proofs.RowLaws.{end_ends, row_start, row_end, row_more, row_malformed}
use Rattle.text_fields.proofs.row.read_row.Goals as goal

pub loop-i-init : goal.loop-i-init
loop-i-init c = row_start (omega arith)

pub read_number-requires : goal.read_number-requires
read_number-requires c = rw c.end_before-end.ensures (end_ends _)

pub returns-in_err-number : goal.returns-in_err-number
returns-in_err-number c = let told = row_malformed c.loop-i.invariant {j = length c.args.row.now - 1 - c.loop-i.i} (omega arith) (omega arith) (rw c.end_before-end.ensures at c.in_err-number.ensures) in rw (c.from_residual.ensures, set-get_or) (record { means = told.0; written = told.1 })

pub loop-i-preserved : goal.loop-i-preserved
loop-i-preserved c =
    let left : length c.args.row.now - (c.loop-i.i + 1) ≡ length c.args.row.now - 1 - c.loop-i.i = omega arith in
    rw left (row_more c.loop-i.invariant (omega arith) (omega arith) (rw c.end_before-end.ensures at c.in_ok-number.ensures))

pub returns : goal.returns
returns c = let told = row_end c.loop-i.invariant (omega arith) (omega arith) in record { means = told.0; written = told.1 }
