-- What judging a call makes of a judged list.
use Rattle.std.specs.Prelude.{ℕ, ◌≡◌, ◌≤◌, List, length}
use Rattle.series.specs.Results.{Result, ◌>>=◌}
use Rattle.series.specs.Refusals.{first, terms_rows}
use Rattle.series.specs.declared.Terms.{Terms}
use Rattle.judging.specs.declared.judged_list.JudgedList.{JudgedList}

-- the terms, judged after a list of n positions: its refusal stands
abbrev pub judged_after : Result ℕ → Terms → ℕ → Result ℕ
judged_after list t n = list >>= (λ T. first (terms_rows t T n) T)

-- a judged list has these shorts and this S, and an output of length room is long enough for it
pub record ListOf (shorts : List ℕ) (S room : ℕ) (l : JudgedList) : Type 0 where
  pub shorts_are : l.shorts.now ≡ shorts
  pub exercised_is : l.exercised.0 ≡ S
  pub fits : length l.shorts.now ≤ room
