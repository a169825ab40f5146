-- What printing asks of the lists of a series.
use Rattle.std.specs.Prelude.{ℕ, ◌≤◌, ◌≡◌, List, length}
use Rattle.text_rules.specs.Text.{MOST_LINES}

-- three lists of one length, of at most 1,024 numbers
pub record Lists (accounts shorts amounts : List ℕ) : Type 0 where
  pub same : length accounts ≡ length shorts
  pub beside : length amounts ≡ length shorts
  pub few : length shorts ≤ MOST_LINES
