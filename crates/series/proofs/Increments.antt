-- Document 02's increments: known calls, proved of the definitions by computation.
use Prim.Native.Nat.{ℕ}
use mathlib.Core.Path.{◌≡◌, refl}
use mathlib.Core.List.{List, [], ◌∷◌, map}
use Rattle.series.specs.Results.{refused, value}
use Rattle.series.specs.Series.{Series}
use Rattle.series.specs.declared.Method.TheVariants.{Wheel, ProRata, Lottery, RemainderDraw}
use Rattle.series.proofs.Starred.{series_by, called_on, allocated, undrawn_by, turned_away, M_shorts}
use Rattle.series.proofs.Readings.{Call, call_by, verdict_on}

-- A's list, T = 355
abbrev A_shorts : List ℕ
A_shorts = 60 ∷ 200 ∷ 95 ∷ []

-- 175 contracts from place 1, by this increment
abbrev by : ℕ → Series
by I = series_by I Wheel A_shorts 175 1

-- by ones a contract and a skip of 1.028571; by tens 18 blocks, the last of 5, with skips of 9.722222; by 1,000 one block of 175
pub increments_known : map (λ I. called_on (by I)) (0 ∷ 1 ∷ 2 ∷ 10 ∷ 24 ∷ 25 ∷ 26 ∷ 1000 ∷ 1001 ∷ 4294967295 ∷ []) ≡
    turned_away 3 23 ∷
    allocated Wheel 355 175 (30 ∷ 99 ∷ 46 ∷ []) ∷
    allocated Wheel 355 88 (30 ∷ 100 ∷ 45 ∷ []) ∷
    allocated Wheel 355 18 (31 ∷ 103 ∷ 41 ∷ []) ∷
    allocated Wheel 355 8 (40 ∷ 104 ∷ 31 ∷ []) ∷
    allocated Wheel 355 7 (35 ∷ 97 ∷ 43 ∷ []) ∷
    allocated Wheel 355 7 (36 ∷ 101 ∷ 38 ∷ []) ∷
    allocated Wheel 355 1 (60 ∷ 115 ∷ 0 ∷ []) ∷
    turned_away 3 23 ∷
    turned_away 3 23 ∷
    []
unfolding called_on
increments_known = refl

-- S = 355 by 0, 1, 1,000 and 1,001, with no draw; S = 356 by 0; by 0 and by 10 with draw 0; 0 under P, L and R, with the amounts that they have by 25; under L with S = 36 too
pub others : List Series
others =
    series_by 0 Wheel A_shorts 355 0 ∷
    series_by 1 Wheel A_shorts 355 0 ∷
    series_by 1000 Wheel A_shorts 355 0 ∷
    series_by 1001 Wheel A_shorts 355 0 ∷
    series_by 0 Wheel A_shorts 356 0 ∷
    series_by 0 Wheel A_shorts 175 0 ∷
    series_by 10 Wheel A_shorts 175 0 ∷
    series_by 0 ProRata (5 ∷ 3 ∷ 2 ∷ []) 4 0 ∷
    series_by 0 Lottery M_shorts 13 4855 ∷
    series_by 4294967295 Lottery M_shorts 36 0 ∷
    series_by 0 RemainderDraw M_shorts 13 17 ∷
    []

pub others_known : map called_on others ≡
    turned_away 3 23 ∷
    allocated Wheel 355 0 A_shorts ∷
    allocated Wheel 355 0 A_shorts ∷
    turned_away 3 23 ∷
    turned_away 3 9 ∷
    turned_away 3 23 ∷
    turned_away 3 10 ∷
    allocated ProRata 10 1 (2 ∷ 1 ∷ 1 ∷ []) ∷
    allocated Lottery 36 18 (0 ∷ 0 ∷ 0 ∷ 8 ∷ 5 ∷ []) ∷
    undrawn_by Lottery 36 M_shorts ∷
    allocated RemainderDraw 36 18 (0 ∷ 0 ∷ 0 ∷ 8 ∷ 5 ∷ []) ∷
    []
unfolding called_on others
others_known = refl

-- one position of 10,000,000 contracts under W
one : ℕ → ℕ → ℕ → Call
one I S draw = call_by I Wheel (1 ∷ []) (10000000 ∷ []) S draw 1

-- 1,000,000 blocks and one more: by ones, by nines, and by tens, where S would be above T; S = T by ones; 24 and 10, 23 and what would be 24; many contracts by ones under P
pub blocks_sides : List Call
blocks_sides =
    one 1 1000000 1 ∷
    one 1 1000001 1 ∷
    one 9 9000000 1 ∷
    one 9 9000001 1 ∷
    one 10 9999999 1 ∷
    one 1 9999995 1 ∷
    one 1 10000000 0 ∷
    one 1 1000001 0 ∷
    one 0 9999999 0 ∷
    call_by 1 ProRata (1 ∷ []) (10000000 ∷ []) 9999995 0 1 ∷
    []

pub blocks_sides_known : map verdict_on blocks_sides ≡ value 10000000 ∷ refused 24 ∷ value 10000000 ∷ refused 24 ∷ value 10000000 ∷ refused 24 ∷ value 10000000 ∷ refused 24 ∷ refused 23 ∷ value 10000000 ∷ []
unfolding verdict_on blocks_sides one
blocks_sides_known = refl
