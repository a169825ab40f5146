-- `names::read_either` meets its contract: the first line, else the second.
use mathlib.Core.Path.{refl}
use Rattle.text_words.proofs.NameLaws.{there, not_there}
use Rattle.text_words.proofs.names.read_either.Goals as goal

pub returns-in-Some : goal.returns-in-Some
returns-in-Some g c = there _ _ c.in-Some.ensures

pub returns-in_err-rest : goal.returns-in_err-rest
returns-in_err-rest g c = rw c.from_residual.ensures (not_there _ _ c.in_default.ensures (not_there _ _ c.in_err-rest.ensures refl))

pub returns : goal.returns
returns g c = not_there _ _ c.in_default.ensures (there _ _ c.in_ok-rest.ensures)
