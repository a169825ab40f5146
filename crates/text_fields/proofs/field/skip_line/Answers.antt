-- `field::skip_line` meets its contract.
use Rattle.text_fields.proofs.FieldLaws.{line_read}
use Rattle.text_fields.proofs.field.skip_line.Goals as goal

pub returns : goal.returns
returns c = line_read c.args.line.now c.args.text.now c.strip_prefix.result c.strip_prefix.ensures.cases
