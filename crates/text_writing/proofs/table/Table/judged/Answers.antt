-- `Table::judged` meets its contract: the lengths of the columns, and then how many lines there are.
use native.Mathlib.Omega.{arith}
use borrow.Author.Tests.{lt-ltb, le-ltb}
use Rattle.text_rules.specs.Text.{MOST_LINES}
use Rattle.text_rules.specs.Calls.{line_count, head_and_lines}
use Rattle.text_writing.specs.Columns.{columns_of}
use Rattle.text_writing.proofs.table.Table.judged.Goals as goal

pub returns-then-not-is_even-clause-judged : goal.returns-then-not-is_even-clause-judged
unfolding head_and_lines
returns-then-not-is_even-clause-judged c = rw (← c.if-not-is_even.ensures)

pub returns-then-lines-gt1024-clause-judged : goal.returns-then-lines-gt1024-clause-judged
unfolding head_and_lines
returns-then-lines-gt1024-clause-judged c = rw (← c.if-not-is_even.ensures, lt-ltb MOST_LINES (line_count (columns_of c.args.self.now)) (omega (arith, c.lines.ensures)))

pub returns-clause-judged : goal.returns-clause-judged
unfolding head_and_lines
returns-clause-judged c = rw (← c.if-not-is_even.ensures, le-ltb MOST_LINES (line_count (columns_of c.args.self.now)) (omega (arith, c.lines.ensures)))
