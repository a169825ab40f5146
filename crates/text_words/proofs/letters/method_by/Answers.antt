-- `letters::method_by` meets its contract.
use native.Mathlib.Omega.{arith}
use Rattle.std.proofs.lemmas.Grind.{common_steps}
use Rattle.text_rules.specs.Letters.{letter, method_among, method_by}
use Rattle.text_words.proofs.letters.method_by.Goals as goal

pub returns-in-87 : goal.returns-in-87
unfolding method_by method_among letter
returns-in-87 c = rw c.in-87.is

pub returns-in-80 : goal.returns-in-80
unfolding method_by method_among letter
returns-in-80 c = rw c.in-80.is

pub returns-in-76 : goal.returns-in-76
unfolding method_by method_among letter
returns-in-76 c = rw c.in-76.is

pub returns-in-82 : goal.returns-in-82
unfolding method_by method_among letter
returns-in-82 c = rw c.in-82.is

pub returns-in_default : goal.returns-in_default
unfolding method_by method_among letter
returns-in_default c = grind (arith, common_steps)
