-- Pro rata: what its functions ask and promise.
use Rattle.std.specs.Prelude.{ℕ, ◌+◌, ◌*◌, ◌≤◌, ◌<◌, ◌≡◌, List, length, get_or, Some, None, Option as Option·}
use Rattle.std.proofs.Math.Option.{Option, none, some, map}
use Rattle.series.specs.Series.{MOST_CONTRACTS, MOST_POSITIONS}
use Rattle.series.specs.Sums.{sum_below, listed}
use Rattle.series.specs.ProRata.{round_one, decimals, larger, equal}
use Rattle.pro_rata.specs.declared.rounds.Percentage.{Percentage}
use Rattle.pro_rata.specs.declared.round_two.RoundTwo.{RoundTwo}
use Rattle.pro_rata.specs.declared.rounds.Cutoff.{Cutoff}

-- S of T contracts, T at most 10,000,000
pub record Exercised (S T : ℕ) : Type 0 where
  pub some : 0 < T
  pub most : S ≤ T
  pub small : T ≤ MOST_CONTRACTS

-- a percentage in units of the 17th decimal
abbrev pub units : Percentage → ℕ
units p = p.high * 1000000000000 + p.low

-- the first five decimals are in high, and the other twelve in low
pub record HighLow (p : Percentage) : Type 0 where
  pub five : p.high ≤ 100000
  pub twelve : p.low < 1000000000000

-- what stands at i
abbrev pub at : List ℕ → ℕ → ℕ
at xs i = get_or xs i 0

-- round one has assigned a contracts, each position's whole part, and kept its decimal part
pub record RoundOneDone (hs : List ℕ) (S a : ℕ) (amounts parts : List ℕ) : Type 0 where
  pub assigned : a ≡ sum_below (round_one hs S) (length hs)
  pub written : amounts ≡ listed (round_one hs S) (length hs)
  pub parted : parts ≡ listed (decimals hs S) (length hs)

-- the decimal parts of a list's positions, and how many contracts are left for them
pub record Decimals (parts : List ℕ) (left : ℕ) : Type 0 where
  pub few : length parts ≤ MOST_POSITIONS
  pub five : (i : ℕ) → i < length parts → at parts i < 100000
  pub most : left ≤ length parts

-- a cut-off, how many positions have a larger decimal part, and how many this one
pub record Counted : Type 0 where
  pub cut : ℕ
  pub above : ℕ
  pub tied : ℕ

-- the cut-off of n positions, with its counts
abbrev pub counted : (ℕ → ℕ) → ℕ → Option ℕ → Option Counted
counted d n = map (λ c. record { cut = c; above = larger d c n; tied = equal d c n })

-- what the search hands back
abbrev pub cut_off_of : Option· Cutoff → Option Counted
cut_off_of (Some c) = some (record { cut = c.cut; above = c.larger; tied = c.tied })
cut_off_of None = none

-- the amounts of round one with the decimal parts beside them: there is room for one contract more
pub record RoomForOne (parts amounts : List ℕ) : Type 0 where
  pub beside : length amounts ≡ length parts
  pub room : (i : ℕ) → i < length amounts → at amounts i ≤ MOST_CONTRACTS

-- what the service of a round asks: its tied positions are those at the cut-off
pub record Servable (parts amounts : List ℕ) (r : RoundTwo) : Type 0 where
  pub room : RoomForOne parts amounts
  pub tied : r.tied ≡ equal (at parts) r.cut (length parts)

-- a list with f 0, f 1, .. added to its elements
abbrev pub added : List ℕ → (ℕ → ℕ) → List ℕ
added xs f = listed (λ i. at xs i + f i) (length xs)
