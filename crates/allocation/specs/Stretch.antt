-- What the functions of places ask and promise: stretches of contracts without a wrap, and cursors on the wheel.
use Rattle.std.specs.Prelude.{ℕ, suc, ◌+◌, ◌-◌, ◌≤◌, ◌<◌, min, max, ◌≡◌, List, length, get_or, Ok, Err, Result as Result·}
use Rattle.series.specs.declared.Contracts.{Contracts}
use Rattle.series.specs.Series.{MOST_CONTRACTS}
use Rattle.series.specs.Places.{total, before, last, steps, marked}
use Rattle.allocation.specs.declared.places.Cursor.{Cursor}

-- how many of the contracts b + 1 up to e are among lo + 1 up to hi
unfoldable pub overlap : ℕ → ℕ → ℕ → ℕ → ℕ
overlap b e lo hi = min e hi - max b lo

-- each amount grew by the contracts lo + 1 up to hi that are its position's
pub record Grown (hs old new : List ℕ) (lo hi : ℕ) : Type 0 where
  pub same_length : length new ≡ length old
  pub grown : (j : ℕ) → j < length hs → get_or new j 0 ≡ get_or old j 0 + overlap (before hs j) (last hs j) lo hi

-- a list of at most 10,000,000 contracts, and for each position an amount of at most so many
pub record Small (hs out : List ℕ) (most : ℕ) : Type 0 where
  pub lengths : length out ≡ length hs
  pub list : total hs ≤ MOST_CONTRACTS
  pub amounts : (j : ℕ) → j < length hs → get_or out j 0 ≤ most

-- how many contracts stand before a cursor
abbrev pub contracts_before : List ℕ → Cursor → ℕ
contracts_before hs c = before hs c.at + c.passed.0

-- the place of a cursor
unfoldable pub place_of : List ℕ → Cursor → ℕ
place_of hs c = suc (contracts_before hs c)

-- the cursor's position has a contract after the passed ones
pub record OnList (hs : List ℕ) (c : Cursor) : Type 0 where
  pub position : c.at < length hs
  pub contract : c.passed.0 < get_or hs c.at 0

-- x contracts from the top of the list end at a cursor, or past the list with so many left
abbrev pub Ends : List ℕ → ℕ → Result· Cursor Contracts → Type 0
Ends hs x (Ok c) = OnList hs c × (contracts_before hs c ≡ x)
Ends hs x (Err left) = total hs + left.0 ≡ x

-- each amount grew by the marks ms on its position's contracts
pub record Assigned (hs old new ms : List ℕ) : Type 0 where
  pub same_length : length new ≡ length old
  pub grown : (j : ℕ) → j < length hs → get_or new j 0 ≡ get_or old j 0 + marked (before hs j) (last hs j) ms

-- the cursor stands n places after place p
pub record Stands (hs : List ℕ) (n p : ℕ) (c : Cursor) : Type 0 where
  pub on : OnList hs c
  pub place : place_of hs c ≡ steps (total hs) n p

-- n contracts on from the cursor, at most once round the wheel
pub record Ahead (hs : List ℕ) (c : Cursor) (n : ℕ) : Type 0 where
  pub on : OnList hs c
  pub most : n ≤ total hs
