-- The remainder draw: the exhibit of source document 004, and known series.
use Prim.Native.Nat.{ℕ}
use mathlib.Core.Path.{◌≡◌, refl}
use mathlib.Core.List.{List, [], ◌∷◌, map}
use lib.ListN.{length}
use Rattle.series.specs.Sums.{listed}
use Rattle.series.specs.Places.{total, before, last}
use Rattle.series.specs.Series.{Series}
use Rattle.series.specs.RemainderDraw.{Range, first_range, second_range}
use Rattle.series.specs.declared.Method.TheVariants.{RemainderDraw}
use Rattle.series.proofs.Starred.{series, called_on, allocated, undrawn_by, turned_away, M_shorts}

-- the contracts that the customers A to J hold
abbrev pub exhibit_shorts : List ℕ
exhibit_shorts = 1 ∷ 50 ∷ 100 ∷ 2 ∷ 1 ∷ 1 ∷ 1000 ∷ 1 ∷ 10 ∷ 20 ∷ []

-- 50 contracts from number 396 on: all to G
pub exhibit_known : called_on (series RemainderDraw exhibit_shorts 50 395) ≡ allocated RemainderDraw 1186 396 (0 ∷ 0 ∷ 0 ∷ 0 ∷ 0 ∷ 0 ∷ 50 ∷ 0 ∷ 0 ∷ 0 ∷ [])
unfolding called_on
exhibit_known = refl

abbrev range : ℕ → ℕ → Range
range a b = record { first = a; last = b }

-- the 1st ranges
pub first_ranges_known : listed (first_range exhibit_shorts) (length exhibit_shorts) ≡
    range 1 1 ∷
    range 2 51 ∷
    range 52 151 ∷
    range 152 153 ∷
    range 154 154 ∷
    range 155 155 ∷
    range 156 1155 ∷
    range 1156 1156 ∷
    range 1157 1166 ∷
    range 1167 1186 ∷
    []
unfolding listed first_range total before last
first_ranges_known = refl

-- the 2nd ranges
pub second_ranges_known : listed (second_range exhibit_shorts) (length exhibit_shorts) ≡
    range 1187 1187 ∷
    range 1188 1237 ∷
    range 1238 1337 ∷
    range 1338 1339 ∷
    range 1340 1340 ∷
    range 1341 1341 ∷
    range 1342 2341 ∷
    range 2342 2342 ∷
    range 2343 2352 ∷
    range 2353 2372 ∷
    []
unfolding listed first_range second_range total before last
second_ranges_known = refl

-- T = 36: draws 0, 17, 35, 36, 37 and the largest; S = T and one position, which need no draw; S = 0 and above T
pub remainders : List Series
remainders =
    series RemainderDraw M_shorts 13 0 ∷
    series RemainderDraw M_shorts 13 17 ∷
    series RemainderDraw M_shorts 2 35 ∷
    series RemainderDraw M_shorts 2 36 ∷
    series RemainderDraw M_shorts 2 37 ∷
    series RemainderDraw M_shorts 2 4294967295 ∷
    series RemainderDraw M_shorts 36 17 ∷
    series RemainderDraw (36 ∷ []) 13 17 ∷
    series RemainderDraw (36 ∷ []) 36 0 ∷
    series RemainderDraw M_shorts 0 17 ∷
    series RemainderDraw M_shorts 37 17 ∷
    []

pub remainders_known : map called_on remainders ≡
    allocated RemainderDraw 36 1 (5 ∷ 8 ∷ 0 ∷ 0 ∷ 0 ∷ []) ∷
    allocated RemainderDraw 36 18 (0 ∷ 0 ∷ 0 ∷ 8 ∷ 5 ∷ []) ∷
    allocated RemainderDraw 36 36 (1 ∷ 0 ∷ 0 ∷ 0 ∷ 1 ∷ []) ∷
    allocated RemainderDraw 36 1 (2 ∷ 0 ∷ 0 ∷ 0 ∷ 0 ∷ []) ∷
    allocated RemainderDraw 36 2 (2 ∷ 0 ∷ 0 ∷ 0 ∷ 0 ∷ []) ∷
    allocated RemainderDraw 36 4 (2 ∷ 0 ∷ 0 ∷ 0 ∷ 0 ∷ []) ∷
    undrawn_by RemainderDraw 36 M_shorts ∷
    undrawn_by RemainderDraw 36 (13 ∷ []) ∷
    undrawn_by RemainderDraw 36 (36 ∷ []) ∷
    turned_away 5 8 ∷
    turned_away 5 9 ∷
    []
unfolding called_on remainders
remainders_known = refl
