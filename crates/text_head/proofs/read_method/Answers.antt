-- `read_method` meets its contract.
use mathlib.Core.Path.{sym, ◌∙◌}
use native.Mathlib.Omega.{arith}
use Rattle.text_head.proofs.HeadLaws.{method_other, method-one}
use Rattle.text_head.proofs.read_method.Goals as goal

pub returns-in-len1 : goal.returns-in-len1
returns-in-len1 c = c.method_by.ensures ∙ sym (method-one c.args.field.now (omega arith))

pub returns-in_default : goal.returns-in_default
returns-in_default c = sym (method_other c.args.field.now (λ e. omega arith))

pub returns-in_default-2 : goal.returns-in_default-2
returns-in_default-2 c = sym (method_other c.args.field.now (λ e. omega arith))
