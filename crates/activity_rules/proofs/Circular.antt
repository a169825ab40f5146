-- The circular's examples, proved of the definitions by computation.
use Prim.Native.Nat.{ℕ}
use mathlib.Core.Path.{◌≡◌, refl}
use mathlib.Core.List.{List, [], ◌∷◌, map}
use Rattle.series.specs.Results.{Result, refused, value}
use Rattle.series.specs.Refusals.{first}
use Rattle.activity_rules.specs.Activity.{investor_of, market_maker_of, after_day_of, ordinary_day, final_day, after_day, market_maker_limit, any_above, investor_rows, market_maker_rows, investor_day, market_maker_day}
use Rattle.activity_rules.specs.declared.Day.{Day}
use Rattle.activity_rules.specs.declared.Day.TheVariants.{Ordinary, Final}
use Rattle.activity_rules.specs.declared.Investor.{Investor}
use Rattle.activity_rules.specs.declared.MarketMaker.{MarketMaker}
use Rattle.activity_rules.specs.declared.AfterDay.{AfterDay}

-- a day of either
pub data Activity : Type 0 where
  of_investor : Day → Investor → Activity
  of_maker : Day → MarketMaker → Activity

-- what either gets
pub data Outcome : Type 0 where
  gets : Result AfterDay → Outcome
  limited : Result ℕ → Outcome

unfoldable pub outcome : Activity → Outcome
unfolding ordinary_day final_day after_day market_maker_limit any_above investor_rows market_maker_rows first investor_day market_maker_day
outcome (of_investor d i) = gets (investor_day d i)
outcome (of_maker d m) = limited (market_maker_day d m)

-- X is long 15, purchases 20 in opening and sells 10 in closing transactions
abbrev X : ℕ → Investor
X = investor_of 15 0 20 0 0 10

-- Y is short 20 and purchases 20 in opening transactions
abbrev Y : ℕ → Investor
Y = investor_of 0 20 20 0 0 0

-- Z is short 100, purchases 100 and sells 100
abbrev Z : MarketMaker
Z = market_maker_of 0 100 100 100

-- X with all 35 exercised, with one more, and with none; on the final trading day with all 25, and with one more. Y with all 20 and with none; on the final trading day with none and with one. Z on either day
pub examples : List Activity
examples =
    of_investor Ordinary (X 35) ∷
    of_investor Ordinary (X 36) ∷
    of_investor Ordinary (X 0) ∷
    of_investor Final (X 25) ∷
    of_investor Final (X 26) ∷
    of_investor Ordinary (Y 20) ∷
    of_investor Ordinary (Y 0) ∷
    of_investor Final (Y 0) ∷
    of_investor Final (Y 1) ∷
    of_maker Ordinary Z ∷
    of_maker Final Z ∷
    []

-- limit, long and short: X may exercise 35, and then his closing sales leave him short 10; Y may exercise 20 and stays short 20, nothing being netted; Z may exercise 100. On the final trading day X may exercise 25, Y and Z none
pub examples_known : map outcome examples ≡
    gets (value (after_day_of 35 0 10)) ∷
    gets (refused 18) ∷
    gets (value (after_day_of 35 25 0)) ∷
    gets (value (after_day_of 25 0 0)) ∷
    gets (refused 18) ∷
    gets (value (after_day_of 20 0 20)) ∷
    gets (value (after_day_of 20 20 20)) ∷
    gets (value (after_day_of 0 0 0)) ∷
    gets (refused 18) ∷
    limited (value 100) ∷
    limited (value 0) ∷
    []
unfolding outcome examples
examples_known = refl
