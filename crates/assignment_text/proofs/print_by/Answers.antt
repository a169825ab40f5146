-- `print_by` meets its contract: each method's own case.
use mathlib.Core.List.{append-nil}
use Rattle.responses.specs.Printed.{ranges_by}
use Rattle.assignment_text.proofs.PrintLaws.{none_ranged}
use Rattle.assignment_text.proofs.print_by.Goals as goal

pub returns-in-RemainderDraw : goal.returns-in-RemainderDraw
unfolding ranges_by
returns-in-RemainderDraw c = rw c.in-RemainderDraw.is c.print_with_ranges.ensures

pub returns-in_default : goal.returns-in_default
returns-in_default c = let a = c.args.allocation.now in rw (none_ranged c.args.method c.in_default.not-RemainderDraw a.accounts.now a.shorts.now, append-nil) c.print.ensures
