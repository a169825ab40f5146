-- `lines::read_positions` meets its contract. The loop's invariant: the rows read stand first in the three lists, and the text goes on with the rest.
use mathlib.Core.Path.{◌≡◌}
use mathlib.Core.List.{[], ◌∷◌}
use lib.ListN.{length, take}
use Rattle.text_rules.specs.Rows.{rows_of}
use Rattle.text_rules.specs.Text.{MOST_LINES}
use Rattle.series_text.proofs.LineLaws.{RowsTo}
use Rattle.series_text.proofs.lines.read_positions.Given as goal

abbrev pub invariant-loop-n : goal.invariant-loop-n
invariant-loop-n l = (length l.lists.codes ≡ MOST_LINES) × (length l.lists.accounts ≡ MOST_LINES) × (length l.lists.numbers ≡ MOST_LINES)
    × RowsTo MOST_LINES l.coded l.text (rows_of (take l.n l.lists.codes ∷ take l.n l.lists.accounts ∷ take l.n l.lists.numbers ∷ [])) l.rest l.n
