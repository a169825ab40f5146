-- The last numbers of shorts, filled in from left to right.
use Prim.Native.Nat.{ℕ, ◌+◌, ◌≤◌, ◌<◌}
use mathlib.Core.Path.{◌≡◌, sym, ap, ◌∙◌}
use mathlib.Core.List.{List}
use native.Mathlib.Omega.{arith}
use lib.ListN.{length, get_or, set}
use Rattle.series.specs.Sums.{listed}
use Rattle.series.specs.Places.{total, before, last}
use Rattle.series.proofs.ListLaws.{filled, fill_none, fill_more, fill_length, fill_all}
use Rattle.series.proofs.PlaceLaws.{before-zero, before-suc, last-total}
use Rattle.forms.specs.Forms.{sums}
use Rattle.forms.proofs.FormLaws.{sums_are_lasts}

-- the first i positions are filled in, and have so many contracts together
pub record Summing (hs old new : List ℕ) (sum i : ℕ) : Type 0 where
  pub up : i ≤ length hs
  pub so_far : sum ≡ before hs i
  pub done : new ≡ filled (last hs) i old

pub sum_start : (hs old : List ℕ) → Summing hs old old 0 0
sum_start hs old = record { up = omega arith; so_far = sym (before-zero hs); done = fill_none (last hs) old }

module _ (hs old new : List ℕ) (sum i : ℕ) (long : length old ≡ length hs) (s : Summing hs old new sum i) where
  pub sum-long : length new ≡ length old
  sum-long = fill_length (last hs) old new i s.done (omega (arith, s.up))

  module _ (lt : i < length hs) where
    pub sum_is : sum + get_or hs i 0 ≡ last hs i
    unfolding last
    sum_is = omega (arith, s.so_far)

    -- no sum passes T
    pub sum_fits : sum + get_or hs i 0 ≤ total hs
    sum_fits = omega (arith, sum_is, last-total hs i lt)

    pub sum-next : Summing hs old (set new i (sum + get_or hs i 0)) (sum + get_or hs i 0) (i + 1)
    sum-next =
        record {
          up = omega arith;
          so_far = sum_is ∙ sym (before-suc hs i lt) ∙ ap (before hs) (omega arith);
          done = fill_more (last hs) old new i (sum + get_or hs i 0) s.done (omega arith) sum_is;
        }

  pub sum-end : length hs ≤ i → new ≡ sums 0 hs
  sum-end past =
      let end : i ≡ length hs = omega (arith, s.up) in
      s.done ∙ fill_all (last hs) old i (omega arith) ∙ ap (listed (last hs)) end ∙ sym (sums_are_lasts hs)
