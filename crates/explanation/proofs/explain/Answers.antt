-- `explain` meets its contract: no line is longer than the longest.
use mathlib.Core.Path.{ap}
use native.Mathlib.Omega.{arith}
use lib.ListN.{length}
use Rattle.explanation.proofs.ExplanationLaws.{explanation-within}
use Rattle.explanation.proofs.explain.Goals as goal

pub returns-clause-upper_bound : goal.returns-clause-upper_bound
returns-clause-upper_bound c = omega (arith, explanation-within c.args.number, ap length c.words.ensures)
