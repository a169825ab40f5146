-- `EvenTable::put_lines` meets its contract. The loop's invariant: the lines of the first `i` rows are put.
use mathlib.Core.Path.{◌≡◌, refl, ◌∙◌}
use native.Mathlib.Omega.{arith}
use Rattle.series.specs.Sums.{listed}
use Rattle.text_rules.specs.Rows.{write_row, write_rows, row_of}
use Rattle.text_rules.specs.Calls.{line_count}
use Rattle.text_rules.proofs.LengthLaws.{lines_of, lines_next}
use Rattle.text_writing.specs.Columns.{columns_of}
use Rattle.text_writing.proofs.PutLaws.{put_nil, put_append}
use Rattle.text_writing.proofs.TableLaws.{lines_whole, lines_fit}
use Rattle.text_writing.proofs.even_table.EvenTable.put_lines.Goals as goal

pub loop-i-init : goal.loop-i-init
unfolding write_rows listed
loop-i-init c = (put_nil c.args.text.now c.args.from, refl)

pub put_row-at-requires-clause-row_in_bounds : goal.put_row-at-requires-clause-row_in_bounds
put_row-at-requires-clause-row_in_bounds c =
    let so = c.loop-i.invariant in
    omega (arith, lines_fit (columns_of c.args.self.now.table) c.args.from _ c.loop-i.i (omega (arith, c.lines-i-end.ensures)) c.requires, so.0.after, so.1)

pub loop-i-preserved : goal.loop-i-preserved
loop-i-preserved c =
    let cs = columns_of c.args.self.now.table in
    let so = c.loop-i.invariant in
    let fits = lines_fit cs c.args.from _ c.loop-i.i (omega (arith, c.lines-i-end.ensures)) c.requires in
    (rw lines_next (put_append (lines_of (row_of cs) c.loop-i.i) (write_row (row_of cs c.loop-i.i)) c.args.text.now c.args.from c.loop-i.text _ c.loop-i.at _ (omega (arith, fits)) so.0 c.put_row-at.ensures), c.put_row-at.auto.text ∙ so.1)

pub returns : goal.returns
returns c =
    let cs = columns_of c.args.self.now.table in
    let all : c.loop-i.i ≡ line_count cs = omega (arith, c.lines-i-end.ensures) in
    rw (all, lines_whole) at c.loop-i.invariant.0
