-- What demand 3 asks of the amounts of one allocation.
use Rattle.std.specs.Prelude.{ℕ, ◌+◌, ◌*◌, ◌≤◌, ◌<◌, ◌≡◌, List, length, get_or, take}
use Rattle.series.specs.Results.{Result, refused, value}
use Rattle.series.specs.Places.{total}
use Rattle.series.specs.Series.{Series, method, exercised, held}
use Rattle.series.specs.Answers.{Allocation}
use Rattle.series.specs.Call.{answer, output}
use Rattle.series.specs.declared.Method.{Method}

-- shorts × S and T × amount lie less than T apart
pub record Near (T shorts S amount : ℕ) : Type 0 where
  pub below : shorts * S < T * amount + T
  pub above : T * amount < shorts * S + T

-- the amounts vs add up to S, none is above its shorts, and under P each is within less than one contract of its share
pub record Fair (s : Series) (vs : List ℕ) : Type 0 where
  pub adds_up : total vs ≡ exercised s
  pub at_most : (i : ℕ) → i < length s.shorts → get_or vs i 0 ≤ get_or s.shorts i 0
  pub near : method s ≡ Method.ProRata → (i : ℕ) → i < length s.shorts → Near (held s) (get_or s.shorts i 0) (exercised s) (get_or vs i 0)

-- the amounts that a call with this answer wrote are fair
abbrev pub FairOutput : Result Allocation → Series → List ℕ → Type 0
FairOutput (value a) s out = Fair s (take (length s.shorts) out)
FairOutput (refused n) s out = Unit

-- the allocating call on s answers a, and its output goes from old to new: both as defined, and the amounts are fair
pub record AllocatingCall (s : Series) (a : Result Allocation) (old new : List ℕ) : Type 0 where
  pub answered : a ≡ answer s (length old)
  pub written : new ≡ output s old
  pub fair : FairOutput a s new
