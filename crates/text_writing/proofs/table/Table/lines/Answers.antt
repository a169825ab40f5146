-- `Table::lines` meets its contract: the length of the first column, or 0 where there is none.
use Rattle.text_writing.proofs.TableLaws.{first_long, none_first}
use Rattle.text_writing.proofs.table.Table.lines.Goals as goal

pub returns-in-Some : goal.returns-in-Some
returns-in-Some c = first_long c.args.self.now.columns.now c.in-Some.column.now c.in-Some.ensures.value

pub returns-in-None : goal.returns-in-None
returns-in-None c = none_first c.args.self.now.columns.now c.in-None.ensures.value
