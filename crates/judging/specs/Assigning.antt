-- What assigning by a method promises.
use Rattle.std.specs.Prelude.{ℕ, ◌≡◌, List}
use Rattle.series.specs.Results.{Result, value}
use Rattle.series.specs.Places.{total}
use Rattle.series.specs.Answers.{Allocation}
use Rattle.series.specs.Call.{assigned, further}
use Rattle.series.specs.declared.Terms.{Terms}

-- the answer and the amounts of a series that meets no refusal
pub record Assigns (t : Terms) (hs : List ℕ) (a : Result Allocation) (vs : List ℕ) : Type 0 where
  pub answered : a ≡ value (record { method = t.method; total = total hs; further = further t hs })
  pub written : vs ≡ assigned t hs
