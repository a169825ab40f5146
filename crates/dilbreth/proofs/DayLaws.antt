-- What the calls of the day's activity answered, as what the exports hand back.
use Prim.Native.Nat.{ℕ, zero, suc}
use mathlib.Core.Path.{◌≡◌, refl}
use Rattle.series.specs.Results.{Result, after, status}
use Rattle.activity_rules.specs.Activity.{investor_day, market_maker_day}
use Rattle.activity_rules.specs.declared.Day.{Day}
use Rattle.activity_rules.specs.declared.Investor.{Investor}
use Rattle.activity_rules.specs.declared.MarketMaker.{MarketMaker}
use Rattle.activity_rules.specs.declared.AfterDay.{AfterDay}
use Rattle.dilbreth.specs.Days.{day_by, Processes}
use Rattle.dilbreth.specs.Exports.{Hands}

pub ordinary_by : (n : ℕ) → n ≡ 0 → Day.Ordinary ≡ day_by n
unfolding day_by
ordinary_by n e = rw e

pub final_by : (n : ℕ) → (n ≡ 0 → ⊥) → Day.Final ≡ day_by n
unfolding day_by
final_by zero d = absurd (d refl)
final_by (suc n) d = refl

-- a day d that was told by its number as e
module _ (d e : Day) (is : d ≡ e) (l : ℕ) where
  pub investor_hands : (i : Investor) (r : Result AfterDay) (g s : ℕ) → r ≡ investor_day d i → Processes (investor_day e i) (status r) (record { old = l; new = after r (λ a. a.limit.0) l }) (record { old = g; new = after r (λ a. a.long.0) g }) (record { old = s; new = after r (λ a. a.short.0) s })
  investor_hands i r g s h = rw (← is, ← h) (record { answers = refl; hands_limit = refl; hands_long = refl; hands_short = refl })

  pub market_maker_hands : (m : MarketMaker) (r : Result ℕ) → r ≡ market_maker_day d m → Hands (market_maker_day e m) (status r) (record { old = l; new = after r (λ n. n) l })
  market_maker_hands m r h = rw (← is, ← h) (record { answers = refl; hands_number = refl })
