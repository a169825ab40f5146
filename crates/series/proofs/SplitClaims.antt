-- Known series before and after a split, proved of the definitions by computation; and P, which has no such rule.
use mathlib.Core.Path.{◌≡◌, refl}
use mathlib.Core.Bool.{true}
use mathlib.Core.List.{List, [], ◌∷◌, map, flatten}
use native.Mathlib.Omega.{arith}
use Rattle.series.specs.Places.{total}
use Rattle.series.specs.Series.{Series}
use Rattle.series.specs.SubAccounts.{by_places, Split, OthersKeep, SplitAtOnce}
use Rattle.series.specs.declared.Method.TheVariants.{Wheel, ProRata, Lottery, RemainderDraw}
use Rattle.series.proofs.SplitLaws.{split-total}
use Rattle.series.proofs.Starred.{series_by, series, called_on, allocated, undrawn_by, turned_away, M_shorts}

-- the methods with the rule; of P the law could not be proved
pub methods_known : map by_places (Wheel ∷ Lottery ∷ RemainderDraw ∷ []) ≡ true ∷ true ∷ true ∷ []
methods_known = refl

-- 200 contracts as 120, 50 and 30
pub split_known : Split 1 3 (60 ∷ 200 ∷ 95 ∷ []) (60 ∷ 120 ∷ 50 ∷ 30 ∷ 95 ∷ [])
unfolding total
split_known = record { earlier = 60 ∷ []; one = 200; parts = 120 ∷ 50 ∷ 30 ∷ []; later = 95 ∷ []; unsplit = refl; split = refl; same_total = refl; place = refl; number = refl }

-- and at once 60 as 20 and 40
pub at_once_known : SplitAtOnce (2 ∷ 3 ∷ 1 ∷ []) (60 ∷ 200 ∷ 95 ∷ []) (20 ∷ 40 ∷ 120 ∷ 50 ∷ 30 ∷ 95 ∷ [])
unfolding total flatten
at_once_known = record { groups = (20 ∷ 40 ∷ []) ∷ (120 ∷ 50 ∷ 30 ∷ []) ∷ (95 ∷ []) ∷ []; totals = refl; split = refl; numbers = refl }

-- one contract more or less is no split
pub no_split : (Split 0 2 (3 ∷ []) (1 ∷ 1 ∷ []) → ⊥) × (Split 0 2 (1 ∷ []) (1 ∷ 1 ∷ []) → ⊥)
unfolding total
no_split = (
  λ s. omega (arith, split-total 0 2 (3 ∷ []) (1 ∷ 1 ∷ []) s),
  λ s. omega (arith, split-total 0 2 (1 ∷ []) (1 ∷ 1 ∷ []) s),
)

-- W by 25 and by 10, unsplit and split; L; R; S equal to T; one position under L, with no draw, and split with one and with none
pub divided : List Series
divided =
    series Wheel (60 ∷ 200 ∷ 95 ∷ []) 175 1 ∷
    series Wheel (60 ∷ 120 ∷ 50 ∷ 30 ∷ 95 ∷ []) 175 1 ∷
    series_by 10 Wheel (60 ∷ 200 ∷ 95 ∷ []) 65 340 ∷
    series_by 10 Wheel (20 ∷ 40 ∷ 200 ∷ 95 ∷ []) 65 340 ∷
    series Lottery M_shorts 13 4855 ∷
    series Lottery (5 ∷ 8 ∷ 2 ∷ 3 ∷ 4 ∷ 3 ∷ 11 ∷ []) 13 4855 ∷
    series RemainderDraw M_shorts 13 395 ∷
    series RemainderDraw (2 ∷ 3 ∷ 8 ∷ 2 ∷ 10 ∷ 11 ∷ []) 13 395 ∷
    series Lottery M_shorts 36 0 ∷
    series Lottery (5 ∷ 7 ∷ 1 ∷ 2 ∷ 10 ∷ 11 ∷ []) 36 0 ∷
    series Lottery (36 ∷ []) 13 0 ∷
    series Lottery (20 ∷ 16 ∷ []) 13 4855 ∷
    series Lottery (20 ∷ 16 ∷ []) 13 0 ∷
    []

pub divided_known : map called_on divided ≡
    allocated Wheel 355 7 (35 ∷ 97 ∷ 43 ∷ []) ∷
    allocated Wheel 355 7 (35 ∷ 65 ∷ 25 ∷ 7 ∷ 43 ∷ []) ∷
    allocated Wheel 355 7 (10 ∷ 40 ∷ 15 ∷ []) ∷
    allocated Wheel 355 7 (0 ∷ 10 ∷ 40 ∷ 15 ∷ []) ∷
    allocated Lottery 36 18 (0 ∷ 0 ∷ 0 ∷ 8 ∷ 5 ∷ []) ∷
    allocated Lottery 36 18 (0 ∷ 0 ∷ 0 ∷ 1 ∷ 4 ∷ 3 ∷ 5 ∷ []) ∷
    allocated RemainderDraw 36 36 (5 ∷ 7 ∷ 0 ∷ 0 ∷ 1 ∷ []) ∷
    allocated RemainderDraw 36 36 (2 ∷ 3 ∷ 7 ∷ 0 ∷ 0 ∷ 1 ∷ []) ∷
    undrawn_by Lottery 36 M_shorts ∷
    undrawn_by Lottery 36 (5 ∷ 7 ∷ 1 ∷ 2 ∷ 10 ∷ 11 ∷ []) ∷
    undrawn_by Lottery 36 (13 ∷ []) ∷
    allocated Lottery 36 18 (3 ∷ 10 ∷ []) ∷
    turned_away 2 10 ∷
    []
unfolding called_on divided
divided_known = refl

-- ---- P has no such rule

-- with the 2 split into 1 and 1 the position after it gets 0 where it got 1
pub pro_rata-split : Split 0 2 (2 ∷ 1 ∷ 1 ∷ []) (1 ∷ 1 ∷ 1 ∷ 1 ∷ [])
unfolding total
pro_rata-split = record { earlier = []; one = 2; parts = 1 ∷ 1 ∷ []; later = 1 ∷ 1 ∷ []; unsplit = refl; split = refl; same_total = refl; place = refl; number = refl }

pub pro_rata_known : map called_on (series ProRata (2 ∷ 1 ∷ 1 ∷ []) 2 0 ∷ series ProRata (1 ∷ 1 ∷ 1 ∷ 1 ∷ []) 2 0 ∷ []) ≡
    allocated ProRata 4 1 (1 ∷ 1 ∷ 0 ∷ []) ∷
    allocated ProRata 4 2 (1 ∷ 1 ∷ 0 ∷ 0 ∷ []) ∷
    []
unfolding called_on
pro_rata_known = refl

-- so its others do not keep their amounts
pub pro_rata_moves : OthersKeep 0 2 (1 ∷ 1 ∷ 0 ∷ []) (1 ∷ 1 ∷ 0 ∷ 0 ∷ []) → ⊥
pro_rata_moves k = omega (arith, k.later_keep 0)
