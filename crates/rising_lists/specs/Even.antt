-- A list whose lengths are judged.
use Rattle.std.specs.Prelude.{ℕ, ◌≤◌, ◌≡◌, List, length}
use Rattle.series.specs.Series.{MOST_POSITIONS}

-- as many accounts as shorts, and as many of what it rises by, and not too many
pub record EvenList (order accounts shorts : List ℕ) : Type 0 where
  pub lengths : length accounts ≡ length shorts
  pub ordered : length order ≡ length shorts
  pub few : length shorts ≤ MOST_POSITIONS
