-- What private functions ask.
use Rattle.std.specs.Prelude.{ℕ, ◌≤◌, List, [], ◌∷◌}
use Rattle.series.specs.Series.{MOST_CONTRACTS}

-- every count is at most 10,000,000
abbrev pub Counted : List ℕ → Type 0
Counted [] = Unit
Counted (n ∷ ns) = (n ≤ MOST_CONTRACTS) × Counted ns
