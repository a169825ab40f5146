-- The exported calls of the day's activity: what the day's number stands for, and what an investor's day hands back.
use Rattle.std.specs.Prelude.{ℕ, zero, suc, ◌≡◌}
use Rattle.series.specs.Results.{Result, after, status}
use Rattle.series.specs.Outputs.{Lent}
use Rattle.activity_rules.specs.declared.Day.{Day}
use Rattle.activity_rules.specs.declared.AfterDay.{AfterDay}

-- the kind of day: 0 is ordinary, any other number the final trading day
unfoldable pub day_by : ℕ → Day
day_by zero = Day.Ordinary
day_by (suc n) = Day.Final

-- an investor's day d: the call's answer r, the limit, and long and short after the day
pub record Processes (d : Result AfterDay) (r : ℕ) (limit long short : Lent ℕ) : Type 0 where
  pub answers : r ≡ status d
  pub hands_limit : limit.new ≡ after d (λ a. a.limit.0) limit.old
  pub hands_long : long.new ≡ after d (λ a. a.long.0) long.old
  pub hands_short : short.new ≡ after d (λ a. a.short.0) short.old
