-- What a day comes to, as the code decides it: each refusal below those that do not apply, and the value where none does.
use Prim.Native.Nat.{ℕ, ◌≤◌, ◌<◌}
use mathlib.Core.Path.{◌≡◌}
use mathlib.Core.Bool.{Bool, true, false}
use borrow.Author.Tests.{lt-ltb, le-ltb}
use Rattle.series.specs.Results.{refused, value}
use Rattle.series.specs.Refusals.{first}
use Rattle.activity_rules.specs.Activity.{after_day_of, after_day, market_maker_limit, any_above, investor_counts, market_maker_counts, closes_above_short, investor_rows, market_maker_rows, investor_day, market_maker_day}
use Rattle.activity_rules.specs.declared.Day.{Day}
use Rattle.activity_rules.specs.declared.Investor.{Investor}
use Rattle.activity_rules.specs.declared.MarketMaker.{MarketMaker}
use Rattle.activity_rules.specs.declared.AfterDay.{AfterDay}

-- what is handed back, by its three counts
pub after_is : (a : AfterDay) (limit long short : ℕ) → a.limit.0 ≡ limit → a.long.0 ≡ long → a.short.0 ≡ short → a ≡ after_day_of limit long short
after_is a limit long short e f g = rw (← e, ← f, ← g)

-- above and closes are what the tests for 16 and 17 answer
module _ (d : Day) (i : Investor) (above : Bool) (is-above : above ≡ any_above (investor_counts i)) where
  pub refused_count : above ≡ true → refused 16 ≡ investor_day d i
  unfolding investor_day investor_rows first
  refused_count e = rw (← is-above, e)

  module _ (counts : above ≡ false) (closes : Bool) (is-closes : closes ≡ closes_above_short i) where
    pub refused_closing : closes ≡ true → refused 17 ≡ investor_day d i
    unfolding investor_day investor_rows first
    refused_closing e = rw (← is-above, counts, ← is-closes, e)

    module _ (closing : closes ≡ false) (a : AfterDay) (is : a ≡ after_day d i) where
      pub refused-exercised : a.limit.0 < i.exercised.0 → refused 18 ≡ investor_day d i
      unfolding investor_day investor_rows first
      refused-exercised h = rw (← is-above, counts, ← is-closes, closing, ← is, lt-ltb a.limit.0 i.exercised.0 h)

      pub processed : i.exercised.0 ≤ a.limit.0 → value a ≡ investor_day d i
      unfolding investor_day investor_rows first
      processed h = rw (← is-above, counts, ← is-closes, closing, ← is, le-ltb a.limit.0 i.exercised.0 h)

module _ (d : Day) (m : MarketMaker) (above : Bool) (is-above : above ≡ any_above (market_maker_counts m)) where
  pub maker_refused : above ≡ true → refused 16 ≡ market_maker_day d m
  unfolding market_maker_day market_maker_rows first
  maker_refused e = rw (← is-above, e)

  pub maker_limited : above ≡ false → (limit : ℕ) → limit ≡ market_maker_limit d m → value limit ≡ market_maker_day d m
  unfolding market_maker_day market_maker_rows first
  maker_limited e limit is = rw (← is-above, e, is)
