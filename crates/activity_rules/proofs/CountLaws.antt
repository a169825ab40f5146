-- Laws of the counts that are given: what holds where none is above the limit of 16.
use Prim.Native.Nat.{ℕ}
use mathlib.Core.Path.{◌≡◌, refl}
use mathlib.Core.Bool.{false}
use mathlib.Core.List.{List, [], ◌∷◌}
use borrow.Author.Tests.{le-ltb, ltb-false}
use lib.Dec.{ltb}
use Rattle.series.specs.Series.{MOST_CONTRACTS}
use Rattle.series.proofs.AcceptedLaws.{or-false}
use Rattle.activity_rules.specs.Activity.{any_above}
use Rattle.activity_rules.specs.Parts.{Counted}

-- where no count is above the most, every count is at most that
pub counted : (ns : List ℕ) → any_above ns ≡ false → Counted ns
unfolding any_above
counted [] e = tt
counted (n ∷ ns) e = let parts = or-false (ltb MOST_CONTRACTS n) (any_above ns) e in (ltb-false MOST_CONTRACTS n parts.0, counted ns parts.1)

-- and the other way round
pub none_above : (ns : List ℕ) → Counted ns → any_above ns ≡ false
unfolding any_above
none_above [] c = refl
none_above (n ∷ ns) c = rw (le-ltb MOST_CONTRACTS n c.0) (none_above ns c.1)
