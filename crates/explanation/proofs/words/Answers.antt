-- `words` meets its contract: the arms are found, and any other number is no refusal's.
use Rattle.std.proofs.Common.{sym, rules}
use Rattle.series.specs.Ascii.{ascii}
use Rattle.explanation.specs.Explanation.{no_refusal}
use Rattle.explanation.proofs.ExplanationLaws.{no_refusal_lem}
use Rattle.explanation.proofs.words.Goals as goal

pub returns-in_default : goal.returns-in_default
unfolding no_refusal ascii
returns-in_default c = sym (no_refusal_lem _ (search rules))
