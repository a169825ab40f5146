-- Every contract 1 to T belongs to exactly one position of the list.
use Prim.Native.Nat.{ℕ, zero, suc, ◌≤◌, ◌<◌}
use mathlib.Core.Path.{◌≡◌, ap}
use mathlib.Core.List.{List}
use native.Mathlib.Omega.{arith}
use native.Mathlib.Nat.{le_refl, le_antisymm}
use native.Mathlib.Decide.{dec_lt, dec_le}
use lib.ListN.{length}
use borrow.Author.Tests.{lt-ltb, le-leb}
use Rattle.series.specs.Sums.{bit}
use Rattle.series.specs.Places.{total, within, before, last, OnWheel, Belongs}
use Rattle.series.proofs.PlaceLaws.{within_low, within-high, before-zero, before-suc, before_all, before_mono}

pub record OnePosition (hs : List ℕ) (c : ℕ) : Type 0 where
  pub position : ℕ
  pub belongs : Belongs hs position c
  pub only : (j : ℕ) → Belongs hs j c → j ≡ position

module _ (hs : List ℕ) (c : ℕ) where
  pub above_before : (i : ℕ) → Belongs hs i c → before hs i < c
  unfolding bit
  above_before i b =
      elim (dec_lt (before hs i) c) [
        | yes l ↦ l
        | no g ↦ absurd (omega (arith, ap bit b.in_range, within_low (before hs i) (last hs i) c (omega arith)))
      ]

  pub up_to_last : (i : ℕ) → Belongs hs i c → c ≤ last hs i
  unfolding bit
  up_to_last i b =
      elim (dec_le c (last hs i)) [
        | yes l ↦ l
        | no g ↦ absurd (omega (arith, ap bit b.in_range, within-high (before hs i) (last hs i) c (omega arith)))
      ]

  -- what belongs to position i belongs to none after it
  none_after : (i j : ℕ) → Belongs hs i c → Belongs hs j c → j ≤ i
  none_after i j b b' =
      elim (dec_le j i) [
        | yes l ↦ l
        | no g ↦
            absurd (omega (
              arith,
              up_to_last i b,
              before-suc hs i b.position,
              before_mono hs (suc i) j (omega arith) (omega (arith, b'.position)),
              above_before j b',
            ))
      ]

  -- the first n positions have the contracts up to the last of them
  among_first : (n : ℕ) → n ≤ length hs → 0 < c → c ≤ before hs n → OnePosition hs c
  unfolding within
  among_first zero h pos l = absurd (omega (arith, before-zero hs))
  among_first (suc n) h pos l =
      elim (dec_lt (before hs n) c) [
        | yes k ↦
            let up : c ≤ last hs n = omega (arith, before-suc hs n h) in
            let b : Belongs hs n c = record { position = h; in_range = rw (lt-ltb (before hs n) c k, le-leb c (last hs n) up) } in
            record { position = n; belongs = b; only = λ j b'. le_antisymm (none_after n j b b') (none_after j n b' b) }
        | no g ↦ among_first n (omega arith) pos (omega arith)
      ]

-- every contract 1 to T belongs to exactly one position
pub one-position : (hs : List ℕ) (c : ℕ) → OnWheel (total hs) c → OnePosition hs c
one-position hs c on = among_first hs c (length hs) (le_refl (length hs)) on.low (omega (arith, on.high, before_all hs))
