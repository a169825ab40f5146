-- What the two calls come to.
use Rattle.std.specs.Prelude.{ℕ, Result as Result·}
use Rattle.series.specs.Results.{Result}
use Rattle.series.specs.Answers.{outcome_of}
use Rattle.series.specs.declared.Contracts.{Contracts}
use Rattle.series.specs.declared.Refusal.{Refusal}
use Rattle.activity_rules.specs.declared.AfterDay.{AfterDay}

-- an investor's day: the limit, and long and short after the day, or the number of the refusal
abbrev pub investor_answer : Result· AfterDay Refusal → Result AfterDay
investor_answer a = outcome_of (λ d. d) a

-- a market-maker's day: the limit, or the number of the refusal
abbrev pub market_maker_answer : Result· Contracts Refusal → Result ℕ
market_maker_answer a = outcome_of (λ n. n.0) a
