-- `row::has_fields` meets its contract. The loop's invariant: the fields are there where those that are left are there in the rest of the text.
use Rattle.text_fields.proofs.RowLaws.{FieldsTo}
use Rattle.text_fields.proofs.row.has_fields.Given as goal

abbrev pub invariant-loop-left : goal.invariant-loop-left
invariant-loop-left l = FieldsTo l.fields l.text l.rest l.left
