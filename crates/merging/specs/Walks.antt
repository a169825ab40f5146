-- What the functions under the call ask and promise.
use Rattle.std.specs.Prelude.{ℕ, ◌+◌, ◌-◌, ◌≤◌, ◌≡◌, List, length, drop}
use Rattle.std.proofs.lemmas.List.Edits.{sets}
use Rattle.series.specs.Results.{Result, value, ◌>>=◌}
use Rattle.series.specs.Outputs.{Lent}
use Rattle.series.specs.Places.{total}
use Rattle.series.specs.Series.{MOST_POSITIONS, MOST_CONTRACTS}
use Rattle.merging.specs.Merging.{PositionList, merged_of, judged_alone}

-- judging both lists: the sum of their totals, or the first refusal, the first list's before the second's
unfoldable pub judged_both : PositionList → PositionList → Result ℕ
judged_both one two = do
  T ← judged_alone one
  U ← judged_alone two
  value (T + U)

-- what is asked of a list that is walked: as many shorts as accounts, and no more of both than a series may have
pub record Bounded (l : PositionList) : Type 0 where
  pub even : length l.accounts ≡ length l.shorts
  pub few : length l.shorts ≤ MOST_POSITIONS
  pub small : total l.shorts ≤ MOST_CONTRACTS

-- two lists, and the sum of their totals
pub record BothBounded (one two : PositionList) (T : ℕ) : Type 0 where
  pub bounded_one : Bounded one
  pub bounded_two : Bounded two
  pub sum : T ≡ total one.shorts + total two.shorts

-- two lists, and outputs that their merged list fits
pub record Fitting (one two : PositionList) (accounts shorts : List ℕ) : Type 0 where
  pub bounded_one : Bounded one
  pub bounded_two : Bounded two
  pub accounts_room : length (merged_of one two) ≤ length accounts
  pub shorts_room : length (merged_of one two) ≤ length shorts

-- a list, and outputs that what is left of it from one index on fits from another on
pub record FittingFrom (l : PositionList) (begin at : ℕ) (accounts shorts : List ℕ) : Type 0 where
  pub even : length l.accounts ≡ length l.shorts
  pub within : begin ≤ length l.accounts
  pub accounts_room : at + (length l.accounts - begin) ≤ length accounts
  pub shorts_room : at + (length l.accounts - begin) ≤ length shorts

-- what is left of a list from one index on is put into both outputs from another on
pub record PutFrom (l : PositionList) (begin at : ℕ) (accounts shorts : Lent (List ℕ)) : Type 0 where
  pub puts_accounts : accounts.new ≡ sets accounts.old at (drop begin l.accounts)
  pub puts_shorts : shorts.new ≡ sets shorts.old at (drop begin l.shorts)
