-- The day's activity before assignment: the sequence of source document 003, in the words and the order of document 02. Counts are natural numbers, and a difference that would be below zero is zero.
use Rattle.std.specs.Prelude.{ℕ, ◌+◌, ◌-◌, Bool, false, ◌||◌, List, [], ◌∷◌, ltb}
use Rattle.series.specs.Results.{Result}
use Rattle.series.specs.Series.{MOST_CONTRACTS}
use Rattle.series.specs.Refusals.{Row, ◌⟶◌∣◌, first}
use Rattle.activity_rules.specs.declared.Day.{Day}
use Rattle.activity_rules.specs.declared.Transactions.{Transactions}
use Rattle.activity_rules.specs.declared.Investor.{Investor}
use Rattle.activity_rules.specs.declared.MarketMaker.{MarketMaker}
use Rattle.activity_rules.specs.declared.AfterDay.{AfterDay}

-- an investor gives opening long and short, opening purchases and sales, closing purchases and sales, and the contracts to exercise
abbrev pub investor_of : ℕ → ℕ → ℕ → ℕ → ℕ → ℕ → ℕ → Investor
investor_of long short openingPurchases openingSales closingPurchases closingSales exercised =
    record {
      long = record { 0 = long };
      short = record { 0 = short };
      purchases = record { opening = record { 0 = openingPurchases }; closing = record { 0 = closingPurchases } };
      sales = record { opening = record { 0 = openingSales }; closing = record { 0 = closingSales } };
      exercised = record { 0 = exercised };
    }

-- a market-maker gives long, short, purchases and sales
abbrev pub market_maker_of : ℕ → ℕ → ℕ → ℕ → MarketMaker
market_maker_of long short purchases sales = record { long = record { 0 = long }; short = record { 0 = short }; purchases = record { 0 = purchases }; sales = record { 0 = sales } }

-- the limit, and long and short after the day
abbrev pub after_day_of : ℕ → ℕ → ℕ → AfterDay
after_day_of limit long short = record { limit = record { 0 = limit }; long = record { 0 = long }; short = record { 0 = short } }

-- ---- an investor on an ordinary day

module _ (i : Investor) where
  -- he may exercise opening long plus opening purchases
  abbrev pub ordinary_limit : ℕ
  ordinary_limit = i.long.0 + i.purchases.opening.0

  -- opening sales raise the short and closing purchases lower it
  abbrev pub short_before_exercises : ℕ
  short_before_exercises = (i.short.0 + i.sales.opening.0) - i.purchases.closing.0

  -- the long that remains after exercises
  abbrev pub remaining : ℕ
  remaining = ordinary_limit - i.exercised.0

  -- closing sales come after exercises, and those beyond the remaining long count as opening sales
  abbrev pub counted_as_opening : ℕ
  counted_as_opening = i.sales.closing.0 - remaining

  -- the long is what remains less closing sales, and the short has those that count as opening ones
  unfoldable pub ordinary_day : AfterDay
  ordinary_day = after_day_of ordinary_limit (remaining - i.sales.closing.0) (short_before_exercises + counted_as_opening)

-- ---- the final trading day, on which all trades come first

-- the limit is long plus purchases less short less sales, not below zero
abbrev pub final_limit : ℕ → ℕ → ℕ → ℕ → ℕ
final_limit long short purchases sales = (long + purchases) - short - sales

-- both kinds of purchases, or of sales
abbrev pub both : Transactions → ℕ
both t = t.opening.0 + t.closing.0

module _ (i : Investor) where
  -- an investor's limit on that day
  abbrev pub investor_final_limit : ℕ
  investor_final_limit = final_limit i.long.0 i.short.0 (both i.purchases) (both i.sales)

  -- the long is the limit less the exercised, the short what short plus sales exceed long plus purchases by
  unfoldable pub final_day : AfterDay
  final_day = after_day_of investor_final_limit (investor_final_limit - i.exercised.0) ((i.short.0 + both i.sales) - (i.long.0 + both i.purchases))

-- what an investor gets on each kind of day where he meets no refusal
unfoldable pub after_day : Day → Investor → AfterDay
after_day Day.Ordinary i = ordinary_day i
after_day Day.Final i = final_day i

-- what a market-maker gets where he meets no refusal: the limit only, with all purchases on an ordinary day
unfoldable pub market_maker_limit : Day → MarketMaker → ℕ
market_maker_limit Day.Ordinary m = m.long.0 + m.purchases.0
market_maker_limit Day.Final m = final_limit m.long.0 m.short.0 m.purchases.0 m.sales.0

-- ---- refusals

-- any count is above 10,000,000
unfoldable pub any_above : List ℕ → Bool
any_above [] = false
any_above (n ∷ ns) = ltb MOST_CONTRACTS n || any_above ns

-- the counts that an investor gives, the contracts to exercise among them
abbrev pub investor_counts : Investor → List ℕ
investor_counts i =
    i.long.0 ∷
    i.short.0 ∷
    i.purchases.opening.0 ∷
    i.sales.opening.0 ∷
    i.purchases.closing.0 ∷
    i.sales.closing.0 ∷
    i.exercised.0 ∷
    []

-- the counts that a market-maker gives
abbrev pub market_maker_counts : MarketMaker → List ℕ
market_maker_counts m = m.long.0 ∷ m.short.0 ∷ m.purchases.0 ∷ m.sales.0 ∷ []

-- closing purchases are above opening short plus opening sales as given
abbrev pub closes_above_short : Investor → Bool
closes_above_short i = ltb (i.short.0 + i.sales.opening.0) i.purchases.closing.0

-- an investor, in this order: a count above 10,000,000, too many closing purchases, exercising above the limit
unfoldable pub investor_rows : Day → Investor → List Row
investor_rows d i =
    any_above (investor_counts i) ⟶ 16 ∣
    closes_above_short i ⟶ 17 ∣
    ltb (after_day d i).limit.0 i.exercised.0 ⟶ 18 ∣
    []

-- a market-maker meets only 16
unfoldable pub market_maker_rows : MarketMaker → List Row
market_maker_rows m = any_above (market_maker_counts m) ⟶ 16 ∣ []

-- an investor's day: what he gets, or the first refusal that he meets
unfoldable pub investor_day : Day → Investor → Result AfterDay
investor_day d i = first (investor_rows d i) (after_day d i)

-- a market-maker's day: the limit, or the first refusal that he meets
unfoldable pub market_maker_day : Day → MarketMaker → Result ℕ
market_maker_day d m = first (market_maker_rows m) (market_maker_limit d m)
