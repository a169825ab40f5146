-- What the functions of the wheel ask and promise.
use Rattle.std.specs.Prelude.{ℕ, ◌+◌, ◌-◌, ◌*◌, ◌/◌, ◌%◌, ◌≤◌, ◌<◌, ◌≡◌, List, length, get_or}
use Rattle.series.specs.Series.{MOST_CONTRACTS}
use Rattle.series.specs.Places.{total, before, last, marked}
use Rattle.series.specs.Wheel.{ONE, MOST_INCREMENT, marks}
use Rattle.allocation.specs.Millionths.{millionths}
use Rattle.allocation.specs.Stretch.{OnList, Stands, place_of}
use Rattle.allocation.specs.declared.wheel.Wheel.{Wheel}

-- the next skip in millionths: skip interval plus reserve
abbrev pub due : Wheel → ℕ
due w = millionths w.interval + millionths w.reserve

-- the wheel stands on the list, and one skip passes no more than the list
pub record Ready (hs : List ℕ) (w : Wheel) : Type 0 where
  pub on : OnList hs w.cursor
  pub short : millionths w.interval + ONE ≤ total hs * ONE
  pub reserve : millionths w.reserve < ONE
  pub list : total hs ≤ MOST_CONTRACTS

-- the wheel r is the wheel w after one skip
pub record Skipped (hs : List ℕ) (w r : Wheel) : Type 0 where
  pub interval : r.interval ≡ w.interval
  pub stands : Stands hs (due w / ONE) (place_of hs w.cursor) r.cursor
  pub rest : millionths r.reserve ≡ due w % ONE

-- the marks of so many blocks of I contracts, the last one of l, from the wheel's place on
unfoldable pub marks_from : List ℕ → Wheel → ℕ → ℕ → ℕ → List ℕ
marks_from hs w blocks I l = marks (total hs) I (millionths w.interval) l (blocks - 1) (place_of hs w.cursor) (millionths w.reserve)

-- at least one block, each within the list; and the amounts stay small
pub record BlocksFit (hs out : List ℕ) (w : Wheel) (blocks I l : ℕ) : Type 0 where
  pub ready : Ready hs w
  pub lengths : length out ≡ length hs
  pub some : 0 < blocks
  pub whole : 1 < blocks → I ≤ total hs
  pub end : l ≤ total hs
  pub grown : (j : ℕ) → j < length hs → get_or out j 0 + marked (before hs j) (last hs j) (marks_from hs w blocks I l) ≤ MOST_CONTRACTS

-- an increment of 1 to 1,000
pub record Increment (I : ℕ) : Type 0 where
  pub some : 0 < I
  pub most : I ≤ MOST_INCREMENT
