-- The refusals' order and limits, and readings of document 02 that the circular's examples do not part, proved of the definitions by computation.
use Prim.Native.Nat.{ℕ}
use mathlib.Core.Path.{◌≡◌, refl}
use mathlib.Core.List.{List, [], ◌∷◌, map}
use lib.ListN.{replicate}
use Rattle.series.specs.Results.{refused, value}
use Rattle.activity_rules.specs.Activity.{investor_of, market_maker_of, after_day_of}
use Rattle.activity_rules.specs.declared.Day.TheVariants.{Ordinary, Final}
use Rattle.activity_rules.proofs.Circular.{Activity, of_investor, of_maker, gets, limited, outcome}

-- the largest count
abbrev most : ℕ
most = 10000000

-- one more
abbrev above : ℕ
above = 10000001

-- each count of an investor above the most, the fifth of which would meet 17 too, and the last 18
pub investors_above : List Activity
investors_above =
    of_investor Ordinary (investor_of above 0 0 0 0 0 0) ∷
    of_investor Ordinary (investor_of 0 above 0 0 0 0 0) ∷
    of_investor Ordinary (investor_of 0 0 above 0 0 0 0) ∷
    of_investor Ordinary (investor_of 0 0 0 above 0 0 0) ∷
    of_investor Ordinary (investor_of 0 0 0 0 above 0 0) ∷
    of_investor Ordinary (investor_of 0 0 0 0 0 above 0) ∷
    of_investor Final (investor_of 0 0 0 0 0 0 above) ∷
    []

pub investors_above_refused : map outcome investors_above ≡ replicate 7 (gets (refused 16))
unfolding outcome investors_above
investors_above_refused = refl

-- each count of a market-maker above the most
pub makers_above : List Activity
makers_above = of_maker Ordinary (market_maker_of above 0 0 0) ∷ of_maker Ordinary (market_maker_of 0 above 0 0) ∷ of_maker Final (market_maker_of 0 0 above 0) ∷ of_maker Final (market_maker_of 0 0 0 above) ∷ []

pub makers_above_refused : map outcome makers_above ≡ replicate 4 (limited (refused 16))
unfolding outcome makers_above
makers_above_refused = refl

-- every count the largest; 17 and 18; as many closing purchases as there may be, and one more; closing sales that count as opening ones; closing purchases on the final trading day; closing sales below the remaining long, and beyond it beside other trades; a market-maker who purchases more than an investor could close, and one with a long, a short and a limit above 0 on both kinds of day
pub days : List Activity
days =
    of_investor Ordinary (investor_of most most most most most most most) ∷
    of_investor Final (investor_of most most most most most most most) ∷
    of_investor Final (investor_of most most most most most most 0) ∷
    of_maker Ordinary (market_maker_of most most most most) ∷
    of_maker Final (market_maker_of most most most most) ∷
    of_investor Ordinary (investor_of 0 0 0 0 1 0 1) ∷
    of_investor Final (investor_of 0 0 0 0 1 0 2) ∷
    of_investor Ordinary (investor_of 0 3 0 2 5 0 0) ∷
    of_investor Ordinary (investor_of 0 3 0 2 6 0 0) ∷
    of_investor Final (investor_of 0 3 0 2 5 0 0) ∷
    of_investor Final (investor_of 0 3 0 2 6 0 0) ∷
    of_investor Ordinary (investor_of 0 0 0 0 5 10 0) ∷
    of_investor Final (investor_of 0 0 0 0 5 10 0) ∷
    of_investor Ordinary (investor_of 10 5 0 0 5 0 10) ∷
    of_investor Final (investor_of 10 5 0 0 5 0 10) ∷
    of_investor Ordinary (investor_of 10 0 0 0 0 4 3) ∷
    of_investor Final (investor_of 10 0 0 0 0 4 3) ∷
    of_investor Ordinary (investor_of 3 4 2 6 1 8 2) ∷
    of_investor Final (investor_of 3 4 2 6 1 8 2) ∷
    of_investor Final (investor_of 3 4 2 6 1 8 0) ∷
    of_maker Ordinary (market_maker_of 0 0 5 0) ∷
    of_maker Final (market_maker_of 0 0 5 0) ∷
    of_maker Ordinary (market_maker_of 1 2 3 4) ∷
    of_maker Final (market_maker_of 1 2 3 4) ∷
    of_maker Ordinary (market_maker_of 9 2 3 4) ∷
    of_maker Final (market_maker_of 9 2 3 4) ∷
    []

pub days_known : map outcome days ≡
    gets (value (after_day_of 20000000 0 10000000)) ∷
    gets (refused 18) ∷
    gets (value (after_day_of 0 0 0)) ∷
    limited (value 20000000) ∷
    limited (value 0) ∷
    gets (refused 17) ∷
    gets (refused 17) ∷
    gets (value (after_day_of 0 0 0)) ∷
    gets (refused 17) ∷
    gets (value (after_day_of 0 0 0)) ∷
    gets (refused 17) ∷
    gets (refused 17) ∷
    gets (refused 17) ∷
    gets (value (after_day_of 10 0 0)) ∷
    gets (value (after_day_of 10 0 0)) ∷
    gets (value (after_day_of 10 3 0)) ∷
    gets (value (after_day_of 6 3 0)) ∷
    gets (value (after_day_of 5 0 14)) ∷
    gets (refused 18) ∷
    gets (value (after_day_of 0 0 12)) ∷
    limited (value 5) ∷
    limited (value 5) ∷
    limited (value 4) ∷
    limited (value 0) ∷
    limited (value 12) ∷
    limited (value 6) ∷
    []
unfolding outcome days
days_known = refl
