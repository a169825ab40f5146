-- `columns::same_numbers` meets its contract.
use mathlib.Core.Path.{◌∙◌}
use Rattle.text_words.proofs.ColumnLaws.{same_by}
use Rattle.text_words.proofs.columns.same_numbers.Goals as goal

pub returns : goal.returns
returns c = c.eq.ensures ∙ same_by c.args.first.now c.args.second.now
