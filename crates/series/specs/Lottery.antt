-- The starting number (L), source document 002.
use Rattle.std.specs.Prelude.{ℕ, ◌+◌, ◌*◌, ◌/◌, Bool, cond, ◌||◌, List, [], ◌∷◌, eqb, length}
use Rattle.std.proofs.Math.Option.{Option, none, some}
use Rattle.series.specs.Places.{total, run, amounts}

-- the starting place: the draw in ten-thousandths of T, rounded up to a whole number
unfoldable pub starting_place : ℕ → ℕ → ℕ
starting_place T draw = (draw * T + 9999) / 10000

-- the amounts from starting place p: S contracts, one after the other
unfoldable pub lottery : List ℕ → ℕ → ℕ → List ℕ
lottery hs S p = amounts hs (run (total hs) S p)

-- no starting place is needed: S equals T; then, the list has one position. n is the number of positions
unfoldable pub unstarted : ℕ → ℕ → ℕ → Bool
unstarted T n S = eqb S T || eqb n 1

-- the amounts: every position whole where S equals T; then S for a list of one position; else those from starting place p
unfoldable pub lottery_amounts : List ℕ → ℕ → ℕ → List ℕ
lottery_amounts hs S p = cond (eqb S (total hs)) hs (cond (eqb (length hs) 1) (S ∷ []) (lottery hs S p))

-- the starting place p, or none where none is needed
unfoldable pub start_used : List ℕ → ℕ → ℕ → Option ℕ
start_used hs S p = cond (unstarted (total hs) (length hs) S) none (some p)
