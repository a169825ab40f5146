-- The two ranges of a position: what they hold, and how they join.
use Prim.Native.Nat.{ℕ, suc, ◌+◌, ◌-◌, ◌≤◌, ◌<◌}
use mathlib.Core.Path.{◌≡◌, ap, ◌∙◌}
use mathlib.Core.List.{List}
use native.Mathlib.Omega.{arith}
use native.Mathlib.Nat.{le_refl}
use lib.ListN.{length, get_or}
use borrow.Author.Tests.{lt-ltb, le-leb}
use Rattle.series.specs.Places.{total, within, steps, before, last, OnWheel, Belongs}
use Rattle.series.specs.RemainderDraw.{InRange, first_range, second_range}
use Rattle.series.proofs.PlaceLaws.{before-zero, before-suc, before_all, before_mono, steps_plain, steps-past}
use Rattle.series.proofs.OnePosition.{above_before, up_to_last}

module _ (hs : List ℕ) where
  -- a place's contract lies in the first range of the position that it belongs to
  pub in_first : (i c : ℕ) → Belongs hs i c → InRange (first_range hs i) c
  unfolding first_range
  in_first i c b = record { from = omega (arith, above_before hs c i b); to = up_to_last hs c i b }

  -- and a turn later in the second
  pub in_second : (i c : ℕ) → Belongs hs i c → InRange (second_range hs i) (c + total hs)
  unfolding second_range
  in_second i c b = let first = in_first i c b in record { from = omega (arith, first.from); to = omega (arith, first.to) }

  -- what lies in the first range of a position belongs to it
  pub first_belongs : (i c : ℕ) → i < length hs → InRange (first_range hs i) c → Belongs hs i c
  unfolding first_range within
  first_belongs i c position r =
      let above : before hs i < c = omega (arith, r.from) in
      record { position = position; in_range = rw (lt-ltb (before hs i) c above, le-leb c (last hs i) r.to) }

  -- the first range has a number for each of the shorts
  pub range_size : (i : ℕ) → (first_range hs i).first + get_or hs i 0 ≡ (first_range hs i).last + 1
  unfolding first_range last
  range_size i = omega arith

  -- the ranges begin at 1
  pub ranges_begin : (first_range hs 0).first ≡ 1
  unfolding first_range
  ranges_begin = omega (arith, before-zero hs)

  -- each next one begins one above the last number before it
  pub ranges_join : (i : ℕ) → i < length hs → (first_range hs (suc i)).first ≡ (first_range hs i).last + 1
  unfolding first_range
  ranges_join i h = omega (arith, before-suc hs i h)

  -- and the second ranges begin one above T, where the first ones end
  pub ranges_end : (i : ℕ) → suc i ≡ length hs → ((first_range hs i).last ≡ total hs) × ((second_range hs 0).first ≡ total hs + 1)
  unfolding first_range second_range
  ranges_end i e = (omega (arith, before-suc hs i (omega arith), ap (before hs) e, before_all hs), omega (arith, before-zero hs))

  -- the first ranges lie within 1 to T; without shorts one would begin after its last number
  pub ranges_within : (i : ℕ) → i < length hs → ((first_range hs i).first ≤ total hs + 1) × ((first_range hs i).last ≤ total hs)
  unfolding first_range
  ranges_within i h =
      let up = before_mono hs i (length hs) (omega arith) (le_refl (length hs)) in
      let next = before_mono hs (suc i) (length hs) (omega arith) (le_refl (length hs)) in
      (omega (arith, before_all hs), omega (arith, before-suc hs i h, before_all hs))

  -- the contract n steps after place p has number p + n: it lies in the first range of its position up to T
  pub counted-first : (p n i : ℕ) → p + n ≤ total hs → Belongs hs i (steps (total hs) n p) → InRange (first_range hs i) (p + n)
  counted-first p n i h b = in_first i (p + n) (rw (steps_plain (total hs) n p h) at b)

  -- and past T in the second
  pub counted-second : (p n i : ℕ) → OnWheel (total hs) p → n < total hs → total hs < p + n → Belongs hs i (steps (total hs) n p) → InRange (second_range hs i) (p + n)
  counted-second p n i on less past b =
      let q : ℕ = p - 1 in
      let e : p ≡ suc q = omega (arith, on.low) in
      let there : steps (total hs) n p ≡ suc (q + n - total hs) = ap (steps (total hs) n) e ∙ steps-past (total hs) n q (omega (arith, on.low, on.high)) (omega (arith, on.low)) (omega (arith, on.low, on.high)) in
      let number : steps (total hs) n p + total hs ≡ p + n = omega (arith, on.low) in
      rw number at (in_second i (steps (total hs) n p) b)
