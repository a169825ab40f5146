-- `print_with_ranges` meets its contract: the two tables that are written are what is printed.
use mathlib.Core.List.{◌++◌}
use lib.ListN.{length}
use Rattle.series.specs.Ascii.{ascii}
use Rattle.responses.specs.Printed.{assigned_lines, range_lines}
use Rattle.responses.proofs.ResponseLaws.{allocation_printed}
use Rattle.assignment_text.proofs.PrintLaws.{tables_are}
use Rattle.assignment_text.proofs.print_with_ranges.Goals as goal

pub returns : goal.returns
unfolding ascii
returns c =
    let accounts = c.args.allocation.now.accounts.now in
    let tables = tables_are accounts c.args.allocation.now.shorts.now c.args.allocation.now.amounts.now (length c.args.output.now) c.args.allocation.now.lists in
    allocation_printed (assigned_lines accounts c.args.allocation.now.amounts.now ++ range_lines accounts c.args.allocation.now.shorts.now) c.args.output.now _ c.answer_written.result _
    (rw (c.fill.ensures accounts, tables) at c.write_tables.ensures) c.answer_written.ensures
