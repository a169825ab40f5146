-- `print` meets its contract: the table that is written is what is printed for the allocation.
use mathlib.Core.Path.{sym, ◌∙◌}
use native.Mathlib.Omega.{arith}
use lib.ListN.{length}
use Rattle.series.specs.Ascii.{ascii}
use Rattle.responses.specs.Printed.{assigned_lines}
use Rattle.responses.proofs.ResponseLaws.{allocation_printed}
use Rattle.assignment_text.proofs.PrintLaws.{table_is}
use Rattle.assignment_text.proofs.print.Goals as goal

pub returns : goal.returns
unfolding ascii
returns c =
    let lists = c.args.allocation.now.lists in
    allocation_printed (assigned_lines c.args.allocation.now.accounts.now c.args.allocation.now.amounts.now) c.args.output.now _ c.answer_written.result _ (rw (table_is c.args.allocation.now.accounts.now c.args.allocation.now.amounts.now (length c.args.output.now) (lists.same ∙ sym lists.beside) (omega (arith, lists.same, lists.few))) at c.write_table.ensures) c.answer_written.ensures
