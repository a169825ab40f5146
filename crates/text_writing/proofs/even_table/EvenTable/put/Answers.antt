-- `EvenTable::put` meets its contract: the names line, and then the lines.
use native.Mathlib.Omega.{arith}
use Rattle.text_rules.specs.Rows.{write_rows, rows_of}
use Rattle.text_writing.specs.Columns.{columns_of}
use Rattle.text_writing.proofs.PutLaws.{put_append}
use lib.ListN.{length-append}
use Rattle.text_writing.proofs.even_table.EvenTable.put.Goals as goal

pub returns : goal.returns
returns c =
    let names = c.args.self.now.table.names.now in
    let lines = write_rows (rows_of (columns_of c.args.self.now.table)) in
    put_append names lines c.args.text.now c.args.from _ _ _ _ (omega (arith, length-append names lines, c.requires)) c.put_line-at.ensures c.put_lines.ensures
