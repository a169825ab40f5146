-- The ranges, filled in from left to right.
use Prim.Native.Nat.{ℕ, ◌+◌, ◌≤◌, ◌<◌}
use mathlib.Core.Path.{◌≡◌, refl, sym, ap, ◌∙◌}
use mathlib.Core.List.{List, [], ◌∷◌}
use native.Mathlib.Omega.{arith}
use lib.ListN.{length, get_or, set, take, drop}
use lib.Seq.{take_at}
use Rattle.series.specs.Sums.{listed}
use Rattle.series.specs.Places.{total, before, last}
use Rattle.series.specs.RemainderDraw.{first_range, second_range}
use Rattle.responses.specs.Printed.{range_columns}
use Rattle.series.proofs.ListLaws.{filled, fill_none, fill_more}
use Rattle.series.proofs.SumLaws.{length-listed, get_d_listed, listed_cong}
use Rattle.series.proofs.RangeLaws.{ranges_within}
use Rattle.series.proofs.PlaceLaws.{before-zero, before-suc, before_all}

-- what is filled in for position i
abbrev pub first_of : List ℕ → ℕ → ℕ
first_of hs i = (first_range hs i).first

abbrev pub last_of : List ℕ → ℕ → ℕ
last_of hs i = (first_range hs i).last

-- a list that is filled in up to n begins with what was filled in
pub take_filled : (f : ℕ → ℕ) (l : List ℕ) {m : List ℕ} {i n : ℕ} → m ≡ filled f i l → i ≡ n → take n m ≡ listed f n
take_filled f l {m} {i} {n} e h = ap (take n) e ∙ rw h (take_at (listed f n) (drop n l) n (length-listed f n))

-- the ranges of the first i positions are filled in, and so many contracts are passed
pub record Filling (hs firsts₀ lasts₀ firsts lasts : List ℕ) (passed i : ℕ) : Type 0 where
  pub sum : passed ≡ before hs i
  pub first_numbers : firsts ≡ filled (first_of hs) i firsts₀
  pub last_numbers : lasts ≡ filled (last_of hs) i lasts₀

pub fill_start : (hs firsts lasts : List ℕ) → Filling hs firsts lasts firsts lasts 0 0
fill_start hs firsts lasts = record { sum = sym (before-zero hs); first_numbers = fill_none (first_of hs) firsts; last_numbers = fill_none (last_of hs) lasts }

module _ {hs firsts₀ lasts₀ firsts lasts : List ℕ} {passed i : ℕ} (f : Filling hs firsts₀ lasts₀ firsts lasts passed i) where
  module _ (lt : i < length hs) where
    sum-next : passed + get_or hs i 0 ≡ last hs i
    unfolding last
    sum-next = omega (arith, f.sum)

    -- no number passes T by more than one
    pub fill_fits : (passed + get_or hs i 0 ≤ total hs) × (passed ≤ total hs)
    unfolding first_range
    fill_fits = let within = ranges_within hs i lt in (omega (arith, sum-next, within.1), omega (arith, f.sum, within.0))

    pub fill_next : length hs ≤ length firsts₀ → length hs ≤ length lasts₀
        → Filling hs firsts₀ lasts₀ (set firsts i (passed + 1)) (set lasts i (passed + get_or hs i 0)) (passed + get_or hs i 0) (i + 1)
    unfolding first_range
    fill_next inF inL =
        record {
          sum = sum-next ∙ sym (before-suc hs i lt) ∙ ap (before hs) (omega arith);
          first_numbers = fill_more (first_of hs) firsts₀ firsts i (passed + 1) f.first_numbers (omega arith) (omega (arith, f.sum));
          last_numbers = fill_more (last_of hs) lasts₀ lasts i (passed + get_or hs i 0) f.last_numbers (omega arith) sum-next;
        }

  pub fill_end : i ≡ length hs → (passed ≡ total hs) × (take (length hs) firsts ≡ listed (first_of hs) (length hs)) × (take (length hs) lasts ≡ listed (last_of hs) (length hs))
  fill_end end = (f.sum ∙ ap (before hs) end ∙ before_all hs, take_filled (first_of hs) firsts₀ f.first_numbers end, take_filled (last_of hs) lasts₀ f.last_numbers end)

-- ---- the second ranges

-- a list that begins with the numbers of a column, each plus T
raised : (hs : List ℕ) (f : ℕ → ℕ) (more : List ℕ) {ns : List ℕ} {T : ℕ} → T ≡ total hs → ns ≡ listed f (length hs) → take (length ns) more ≡ listed (λ i. get_or ns i 0 + T) (length ns) → take (length hs) more ≡ listed (λ i. f i + total hs) (length hs)
raised hs f more eT e h =
    (rw (e, eT, length-listed f (length hs)) at h) ∙ listed_cong (λ i. get_or (listed f (length hs)) i 0 + total hs) (λ i. f i + total hs) (length hs) (λ i h. ap (◌+ total hs) (get_d_listed f (length hs) i h))

module _ (hs : List ℕ) {ns : List ℕ} {T : ℕ} (eT : T ≡ total hs) where
  pub firsts_raised : (more : List ℕ) → ns ≡ listed (first_of hs) (length hs) → take (length ns) more ≡ listed (λ i. get_or ns i 0 + T) (length ns) → take (length hs) more ≡ listed (λ i. (second_range hs i).first) (length hs)
  unfolding second_range
  firsts_raised more = raised hs (first_of hs) more eT

  pub lasts_raised : (more : List ℕ) → ns ≡ listed (last_of hs) (length hs) → take (length ns) more ≡ listed (λ i. get_or ns i 0 + T) (length ns) → take (length hs) more ≡ listed (λ i. (second_range hs i).last) (length hs)
  unfolding second_range
  lasts_raised more = raised hs (last_of hs) more eT

  -- no number is above T by more than one
  near : (f : ℕ → ℕ) → ((i : ℕ) → i < length hs → f i ≤ total hs + 1) → ns ≡ listed f (length hs) → (i : ℕ) → i < length ns → get_or ns i 0 ≤ T + 1
  near f small e i h =
      let h' : i < length hs = omega (arith, ap length e, length-listed f (length hs)) in
      let is : get_or ns i 0 ≡ f i = ap (λ l. get_or l i 0) e ∙ get_d_listed f (length hs) i h' in
      omega (arith, small i h')

  pub firsts_near : ns ≡ listed (first_of hs) (length hs) → (i : ℕ) → i < length ns → get_or ns i 0 ≤ T + 1
  firsts_near = near (first_of hs) (λ i h. (ranges_within hs i h).0)

  pub lasts_near : ns ≡ listed (last_of hs) (length hs) → (i : ℕ) → i < length ns → get_or ns i 0 ≤ T + 1
  lasts_near = near (last_of hs) (λ i h. omega (arith, (ranges_within hs i h).1))

-- the columns that are printed
pub columns_are : (hs firsts lasts firsts2 lasts2 accounts : List ℕ) → firsts ≡ listed (λ i. (first_range hs i).first) (length hs) → lasts ≡ listed (λ i. (first_range hs i).last) (length hs) → firsts2 ≡ listed (λ i. (second_range hs i).first) (length hs)
    → lasts2 ≡ listed (λ i. (second_range hs i).last) (length hs) → accounts ∷ firsts ∷ lasts ∷ firsts2 ∷ lasts2 ∷ [] ≡ range_columns accounts hs
unfolding range_columns
columns_are hs firsts lasts firsts2 lasts2 accounts f l f2 l2 = rw (f, l, f2, l2) refl
