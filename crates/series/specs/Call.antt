-- The allocating call: its answer and its output for all inputs. A call is turned away by the first refusal that applies, and keeps its output.
use Rattle.std.specs.Prelude.{ℕ, List, length}
use Rattle.std.proofs.Math.Option.{Option, some}
use Rattle.series.specs.Results.{Result, value, ◌>>=◌, after}
use Rattle.series.specs.Outputs.{onto}
use Rattle.series.specs.Places.{total}
use Rattle.series.specs.Series.{Series, method, by_method}
use Rattle.series.specs.Wheel.{wheel, blocks_used}
use Rattle.series.specs.ProRata.{pro_rata, remainder}
use Rattle.series.specs.Lottery.{starting_place, lottery_amounts, start_used}
use Rattle.series.specs.RemainderDraw.{remainder_place}
use Rattle.series.specs.Refusals.{verdict}
use Rattle.series.specs.Answers.{Allocation}
use Rattle.series.specs.declared.Terms.{Terms}

-- the amounts that the method assigns: by the wheel, pro rata, by the starting number, by the remainder draw, which goes on as the starting number does
unfoldable pub assigned : Terms → List ℕ → List ℕ
assigned t hs =
    by_method t.method
    (wheel t.increment.0 hs t.exercised.0 t.draw)
    (pro_rata hs t.exercised.0 t.draw)
    (lottery_amounts hs t.exercised.0 (starting_place (total hs) t.draw))
    (lottery_amounts hs t.exercised.0 (remainder_place (total hs) t.draw))

-- the one further number: T1 for W (0 if S equals T), the contracts of round two for P, the starting place for L and R, where one is needed
unfoldable pub further : Terms → List ℕ → Option ℕ
further t hs =
    by_method t.method
    (some (blocks_used t.increment.0 (total hs) t.exercised.0))
    (some (remainder hs t.exercised.0))
    (start_used hs t.exercised.0 (starting_place (total hs) t.draw))
    (start_used hs t.exercised.0 (remainder_place (total hs) t.draw))

-- the answer of the call; room is the length of the output
unfoldable pub answer : Series → ℕ → Result Allocation
answer s room = do
  T ← verdict s room
  value (record { method = method s; total = T; further = further s.terms s.shorts })

-- the output of the call, which held old: the amounts and what stood past them, or all that stood there
unfoldable pub output : Series → List ℕ → List ℕ
output s old = after (verdict s (length old)) (λ _. onto (assigned s.terms s.shorts) old) old
