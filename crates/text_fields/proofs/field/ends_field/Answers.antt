-- `field::ends_field` meets its contract.
use native.Mathlib.Omega.{arith}
use Rattle.std.proofs.Common.{inl, inr}
use Rattle.std.proofs.lemmas.Grind.{common_steps}
use Rattle.text_rules.specs.Fields.{ends}
use Rattle.text_fields.proofs.field.ends_field.Goals as goal

pub returns-in-44 : goal.returns-in-44
unfolding ends
returns-in-44 c = elim c.in-44.is [ inl e ↦ rw e | inr e ↦ rw e ]

pub returns-in_default : goal.returns-in_default
unfolding ends
returns-in_default c = grind (arith, common_steps)
