-- `put_head` meets its contract: the three lines are put one after the other, and there is room for them.
use mathlib.Core.Bool.{Bool}
use native.Mathlib.Omega.{arith}
use Rattle.text_rules.specs.Text.{Optional}
use Rattle.text_rules.specs.declared.TermsColumns.{TermsColumns}
use Rattle.text_writing.proofs.WriteLaws.{terms_taken, head_fits, put_head}
use Rattle.text_writing.proofs.put_head.Goals as goal

abbrev optional : TermsColumns → Bool → Optional
optional columns coded = record { terms = columns; coded = coded }

pub put_terms_line-line2-requires : goal.put_terms_line-line2-requires
put_terms_line-line2-requires c = omega (arith, head_fits (optional c.terms_columns-columns.result c.args.positions.coded) c.args.positions.form c.args.terms _ c.requires)

pub put_line-numbers-requires : goal.put_line-numbers-requires
put_line-numbers-requires c = omega (arith, head_fits (optional c.terms_columns-columns.result c.args.positions.coded) c.args.positions.form c.args.terms _ c.requires, c.put_terms_line-line2.ensures.after)

pub put_row-line3-requires : goal.put_row-line3-requires
put_row-line3-requires c =
    let numbers = terms_taken c.terms_columns-columns.result c.args.terms _ c.terms_numbers.ensures in
    rw numbers (omega (arith, head_fits (optional c.terms_columns-columns.result c.args.positions.coded) c.args.positions.form c.args.terms _ c.requires, c.put_terms_line-line2.ensures.after, c.put_line-numbers.ensures.after))

pub put_positions_line-requires : goal.put_positions_line-requires
put_positions_line-requires c =
    let numbers = terms_taken c.terms_columns-columns.result c.args.terms _ c.terms_numbers.ensures in
    let line2 = rw numbers at c.put_row-line3.ensures.after in
    omega (arith, head_fits (optional c.terms_columns-columns.result c.args.positions.coded) c.args.positions.form c.args.terms _ c.requires, c.put_terms_line-line2.ensures.after, c.put_line-numbers.ensures.after, line2)

pub returns : goal.returns
returns c =
    let numbers = terms_taken c.terms_columns-columns.result c.args.terms _ c.terms_numbers.ensures in
    rw c.terms_columns-columns.ensures at (put_head (optional c.terms_columns-columns.result c.args.positions.coded) c.args.positions.form c.args.terms c.args.head.now _ _ _ _ _ _ _ _ _ _ c.letter_of.ensures numbers c.requires c.put_terms_line-line2.ensures c.put_line-numbers.ensures c.put_row-line3.ensures c.put_positions_line.ensures)
