-- The remainder draw (R), source document 004.
use Rattle.std.specs.Prelude.{ℕ, ◌+◌, ◌%◌, ◌≤◌, List}
use Rattle.series.specs.Places.{total, before, last}

-- the starting place: the draw modulo T, plus 1
unfoldable pub remainder_place : ℕ → ℕ → ℕ
remainder_place T draw = draw % T + 1

-- a range of sequence numbers: the first of them and the last
pub record Range : Type 0 where
  pub first : ℕ
  pub last : ℕ

-- number c is in the range
pub record InRange (r : Range) (c : ℕ) : Type 0 where
  pub from : r.first ≤ c
  pub to : c ≤ r.last

-- the first range of position i: its contracts, from the one after those before it
unfoldable pub first_range : List ℕ → ℕ → Range
first_range hs i = record { first = before hs i + 1; last = last hs i }

-- its second range: the first plus T
unfoldable pub second_range : List ℕ → ℕ → Range
second_range hs i = record { first = (first_range hs i).first + total hs; last = (first_range hs i).last + total hs }
