-- `Millionths::interval` meets its contract: it is the rules' interval, and nothing overflows.
use Rattle.std.proofs.Common.{◌+◌, ◌*◌}
use native.Mathlib.Omega.{arith}
use native.Mathlib.Nat.{div-le_self}
use Rattle.series.specs.Wheel.{ONE, interval}
use Rattle.allocation.proofs.millionths.Millionths.interval.Goals as goal

pub overflow_cast-result : goal.overflow_cast-result
overflow_cast-result c =
    rw (c.from-one.ensures, c.saturating_sub-left.ensures, c.from.ensures, c.from-2.ensures, c.from-one.ensures, c.from-wide.ensures)
    (omega (arith, div-le_self (2 * (c.args.total.0 * ONE) + c.args.blocks) (2 * c.args.blocks)))

pub returns : goal.returns
unfolding interval
returns c =
    rw (c.saturating_sub-left.ensures, c.from.ensures, c.from-2.ensures, c.from-one.ensures, c.from-wide.ensures) (omega arith)
