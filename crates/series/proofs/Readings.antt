-- Readings of document 01 that the starred series do not part, and the order of its refusals, proved of the definitions by computation.
use Prim.Native.Nat.{ℕ}
use mathlib.Core.Path.{◌≡◌, refl}
use mathlib.Core.List.{List, [], ◌∷◌, map}
use lib.ListN.{replicate}
use Rattle.series.specs.Places.{total}
use Rattle.series.specs.Wheel.{interval, blocks}
use Rattle.series.specs.ProRata.{percentage}
use Rattle.series.specs.Lottery.{unstarted}
use Rattle.series.specs.Results.{Result, refused}
use Rattle.series.specs.Series.{Series, DEFAULT_INCREMENT, terms_of}
use Rattle.series.specs.Refusals.{first, length_rows, room_rows, stands_in, account_refused, position_rows, exercised_rows, outside, too_many_blocks, increment_rows, undrawn, draw_rows, then_draw_rows, terms_rows, list_rows, rows, verdict}
use Rattle.series.specs.declared.Method.{Method}
use Rattle.series.specs.declared.Method.TheVariants.{Wheel, Lottery}

-- an exact half goes up: 3,201 divided by 128 is 25.0078125
pub half_goes_up : interval 25 3201 128 ≡ 7813
unfolding interval
half_goes_up = refl

-- later digits are dropped: 2 divided by 3
pub digits_dropped : percentage 2 3 ≡ 66666666666666666
unfolding percentage
digits_dropped = refl

-- a call of a series; room is the length of its output
pub record Call : Type 0 where
  pub series : Series
  pub room : ℕ

-- by the increment I
abbrev pub call_by : ℕ → Method → List ℕ → List ℕ → ℕ → ℕ → ℕ → Call
call_by I m accounts shorts S draw room =
    record {
      series = record { terms = terms_of m S draw I; codes = accounts; accounts = accounts; shorts = shorts };
      room = room;
    }

-- and where none is given
abbrev pub call : Method → List ℕ → List ℕ → ℕ → ℕ → ℕ → Call
call = call_by DEFAULT_INCREMENT

unfoldable pub verdict_on : Call → Result ℕ
unfolding total blocks unstarted first length_rows room_rows stands_in account_refused position_rows exercised_rows outside too_many_blocks increment_rows undrawn draw_rows then_draw_rows terms_rows list_rows rows verdict
verdict_on c = verdict c.series c.room

-- calls that meet 1 and 2, 2 and 4, 3 and 8, 4 and 5, 5 and 6, 6 and then 7, 7 and then 5, 7 and 8, 8 and 10, 9 and 10; and each of them but the third, whose S equals T, meets 10 too
pub twice : List Call
twice =
    call Lottery (replicate 4096 1) (replicate 4097 1) 1 0 4097 ∷
    call Lottery (replicate 4097 1) (replicate 4097 1) 1 0 4096 ∷
    call Lottery [] [] 0 0 0 ∷
    call Wheel (0 ∷ []) (2 ∷ []) 1 0 0 ∷
    call Wheel (1 ∷ 1 ∷ []) (2 ∷ 0 ∷ []) 1 0 2 ∷
    call Wheel (1 ∷ 2 ∷ []) (0 ∷ 10000001 ∷ []) 1 0 2 ∷
    call Wheel (1 ∷ 1 ∷ []) (10000001 ∷ 1 ∷ []) 1 0 2 ∷
    call Wheel (1 ∷ []) (10000001 ∷ []) 0 0 1 ∷
    call Lottery (1 ∷ 2 ∷ []) (1 ∷ 1 ∷ []) 0 0 2 ∷
    call Lottery (1 ∷ 2 ∷ []) (1 ∷ 1 ∷ []) 3 0 2 ∷
    []

-- the first that applies is met
pub first_met : map verdict_on twice ≡ refused 1 ∷ refused 2 ∷ refused 3 ∷ refused 4 ∷ refused 5 ∷ refused 6 ∷ refused 7 ∷ refused 7 ∷ refused 8 ∷ refused 9 ∷ []
unfolding verdict_on twice
first_met = refl
