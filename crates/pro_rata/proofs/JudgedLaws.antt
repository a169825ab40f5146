-- What a judged list gives to round one, and round one to round two.
use Prim.Native.Nat.{ℕ, ◌+◌, ◌-◌, ◌≤◌, ◌<◌}
use mathlib.Core.Path.{◌≡◌, sym, ap, ap₂, fun_ext, ◌∙◌}
use mathlib.Core.List.{List}
use native.Mathlib.Omega.{arith}
use native.Mathlib.Decide.{dec_lt}
use lib.ListN.{length, get_or, get_or-eq_default}
use Rattle.series.specs.Series.{MOST_CONTRACTS}
use Rattle.series.specs.Sums.{sum_below, listed}
use Rattle.series.specs.Places.{total}
use Rattle.series.specs.ProRata.{percentage, whole_part, decimal_part, round_one, decimals, remainder, round_two, pro_rata}
use Rattle.series.proofs.SumLaws.{sum_first, total_term, length-listed, get_d_listed, listed_cong}
use Rattle.series.proofs.ProRataLaws.{round_one_le, round_one_each, remainder_le, decimals_lt, decimals-past}
use Rattle.judging.specs.declared.judged_list.JudgedList.{JudgedList}
use Rattle.pro_rata.specs.Rounds.{RoundOneDone, Decimals, RoomForOne, at, added}

module _ (l : JudgedList) where
  abbrev hs : List ℕ
  hs = l.shorts.now

  abbrev S : ℕ
  S = l.exercised.0

  some-total : 0 < total hs
  some-total = omega (arith, l.some, l.most)

  pub shorts_le : (i : ℕ) → i < length hs → get_or hs i 0 ≤ MOST_CONTRACTS
  shorts_le i h = omega (arith, total_term hs i h, l.small)

  -- what round one has assigned to the first positions
  pub assigned_le : (i : ℕ) → i ≤ length hs → sum_below (round_one hs S) i ≤ S
  assigned_le i h =
      omega (arith, sum_first (round_one hs S) i (length hs) h, round_one_le hs S some-total l.small l.few l.most)

  pub each_le : (i : ℕ) → i < length hs → round_one hs S i ≤ MOST_CONTRACTS
  each_le i h = omega (arith, round_one_each hs S some-total l.small l.few l.most i h)

  -- the parts by the percentage are those of the rules
  module _ (q : ℕ) (e : q ≡ percentage S l.total.0) where
    pub wholes_are : ◌≡◌ {A = ℕ → ℕ} (λ i. whole_part q (at hs i)) (round_one hs S)
    unfolding round_one
    wholes_are = ap (λ p i. whole_part p (at hs i)) (e ∙ ap (percentage S) l.sum)

    pub decimals_are : ◌≡◌ {A = ℕ → ℕ} (λ i. decimal_part q (at hs i)) (decimals hs S)
    unfolding decimals
    decimals_are = ap (λ p i. decimal_part p (at hs i)) (e ∙ ap (percentage S) l.sum)

  -- what round one hands on to round two
  module _ (parts amounts : List ℕ) (a : ℕ) (done : RoundOneDone hs S a amounts parts) where
    pub left_is : S - a ≡ remainder hs S
    unfolding remainder
    left_is = ap (S -◌) done.assigned

    parts-length : length parts ≡ length hs
    parts-length = ap length done.parted ∙ length-listed (decimals hs S) (length hs)

    amounts-length : length amounts ≡ length hs
    amounts-length = ap length done.written ∙ length-listed (round_one hs S) (length hs)

    amounts-at : (i : ℕ) → i < length hs → at amounts i ≡ round_one hs S i
    amounts-at i h = ap (λ xs. at xs i) done.written ∙ get_d_listed (round_one hs S) (length hs) i h

    parts_at : (i : ℕ) → at parts i ≡ decimals hs S i
    parts_at i =
        elim (dec_lt i (length hs)) [
          | yes h ↦ ap (λ xs. at xs i) done.parted ∙ get_d_listed (decimals hs S) (length hs) i h
          | no g ↦
              get_or-eq_default parts 0 (omega (arith, parts-length))
              ∙ sym (decimals-past hs S some-total l.small l.few l.most i (omega arith))
        ]

    pub decimals-left : Decimals parts (S - a)
    decimals-left = record {
      few = omega (arith, parts-length);
      five = λ i h. omega (arith, parts_at i, decimals_lt hs S some-total l.small l.few l.most i (omega (arith, parts-length)));
      most = omega (arith, left_is, parts-length, remainder_le hs S some-total l.small l.few l.most);
    }

    pub room_for_one : RoomForOne parts amounts
    room_for_one = record {
      beside = omega (arith, parts-length, amounts-length);
      room = λ i h. omega (arith, amounts-at i (omega (arith, amounts-length)), each_le i (omega (arith, amounts-length)));
    }

    -- both rounds give the amounts of the rules
    pub rounds_are : (draw : ℕ) → added amounts (round_two (at parts) (length parts) draw (S - a)) ≡ pro_rata hs S draw
    unfolding pro_rata
    rounds_are draw =
        ap (listed (λ i. at amounts i + round_two (at parts) (length parts) draw (S - a) i)) amounts-length
        ∙ listed_cong
        (λ i. at amounts i + round_two (at parts) (length parts) draw (S - a) i)
        (λ i. round_one hs S i + round_two (decimals hs S) (length hs) draw (remainder hs S) i)
        (length hs)
        (λ i h. ap₂ ◌+◌ (amounts-at i h)
        (ap₂ (λ d n. round_two d n draw (S - a) i) (fun_ext parts_at) parts-length ∙ ap (λ left. round_two (decimals hs S) (length hs) draw left i) left_is))
