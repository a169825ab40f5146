-- `refuse_terms` meets its contract: the fields, then the method.
use mathlib.Core.Path.{sym, ◌∙◌}
use Rattle.text_head.proofs.HeadLaws.{terms_missing, terms_unknown, terms_malformed}
use Rattle.text_head.proofs.refuse_terms.Goals as goal

pub returns-then-not-has_fields : goal.returns-then-not-has_fields
returns-then-not-has_fields c = λ s h. terms_missing _ s h (sym c.if-not-has_fields.true ∙ c.has_fields.ensures)

pub returns-in-Some : goal.returns-in-Some
returns-in-Some c = λ s h. terms_malformed _ s h c.in-Some.ensures (sym c.if-not-has_fields.false ∙ c.has_fields.ensures) c.requires

pub returns-in-None : goal.returns-in-None
returns-in-None c = λ s h. terms_unknown _ s h (sym c.if-not-has_fields.false ∙ c.has_fields.ensures) c.in-None.ensures
