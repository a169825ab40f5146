-- What writing comes to.
use Rattle.std.specs.Prelude.{ℕ, Result as Result·}
use Rattle.series.specs.Answers.{outcome_of}
use Rattle.series.specs.Results.{Result}
use Rattle.series.specs.declared.Refusal.{Refusal}

-- the length of the text, or the number of the refusal
abbrev pub writing_of : Result· ℕ Refusal → Result ℕ
writing_of w = outcome_of (λ n. n) w
