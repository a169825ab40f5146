-- `ends::end_before` meets its contract.
use Rattle.text_rules.specs.Fields.{end_before}
use Rattle.text_fields.proofs.RowLaws.{end_other}
use Rattle.text_fields.proofs.ends.end_before.Goals as goal

pub returns-then-fields-eq0 : goal.returns-then-fields-eq0
unfolding end_before
returns-then-fields-eq0 c = rw c.if-fields-eq0.true

pub returns-else-fields-eq0 : goal.returns-else-fields-eq0
returns-else-fields-eq0 c = end_other _ _ _ c.if-fields-eq0.false
