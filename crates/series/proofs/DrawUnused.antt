-- P: the draw is unused where no tie occurs, and used where one does.
use Prim.Native.Nat.{ℕ, zero, suc, ◌+◌, ◌-◌, ◌%◌, ◌<◌}
use mathlib.Core.Path.{◌≡◌, refl, sym, ap, ◌∙◌}
use mathlib.Core.List.{List, [], ◌∷◌}
use native.Mathlib.Omega.{arith}
use native.Mathlib.Nat.{le_refl, zero-mod, mod-eq_of_lt}
use native.Mathlib.Numerals.{add-one}
use native.Mathlib.Decide.{dec_le, ℕ_discrete}
use lib.Dec.{ltb}
use lib.ListN.{length, get_or}
use borrow.Author.Tests.{lt-ltb, le-ltb}
use Rattle.series.specs.Sums.{sum_below, bit, count_below, listed}
use Rattle.series.specs.Places.{total}
use Rattle.series.specs.ProRata.{percentage, assignment_amount, whole_part, decimal_part, round_one, decimals, remainder, larger, equal, turn, rank, round_two, pro_rata, Tie}
use Rattle.series.proofs.SumLaws.{listed_cong, get_d_listed}
use Rattle.series.proofs.ProRataLaws.{turn-first, turn-after, at_least-parts, equal_le, equal-same, served, unserved, tied_served}

round_two-same : (d : ℕ → ℕ) (n left : ℕ) → ((x : ℕ) → Tie d n left x → ⊥) → (draw draw2 i : ℕ) → i < n → round_two d n draw left i ≡ round_two d n draw2 left i
round_two-same d n left none draw draw2 i h =
    elim (dec_le left (larger d (d i) n)) [
      | yes l ↦ unserved d n draw left i l ∙ sym (unserved d n draw2 left i l)
      | no g ↦
          elim (dec_le (larger d (d i) n + equal d (d i) n) left) [
            | yes l ↦ served d n draw left i h l ∙ sym (served d n draw2 left i h l)
            | no g' ↦ absurd (none (d i) (record { fewer = omega arith; more = omega arith }))
          ]
    ]

-- the draw is unused where no tie occurs
pub draw_unused : (hs : List ℕ) (S : ℕ) → ((x : ℕ) → Tie (decimals hs S) (length hs) (remainder hs S) x → ⊥) → (draw draw2 : ℕ) → pro_rata hs S draw ≡ pro_rata hs S draw2
unfolding pro_rata
draw_unused hs S none draw draw2 =
    listed_cong _ _ (length hs) (λ i h. ap (round_one hs S i +◌) (round_two-same (decimals hs S) (length hs) (remainder hs S) none draw draw2 i h))

-- also where nothing remains for round two
pub nothing_remains : (hs : List ℕ) (S : ℕ) → remainder hs S ≡ 0 → (draw draw2 : ℕ) → pro_rata hs S draw ≡ pro_rata hs S draw2
nothing_remains hs S e = draw_unused hs S (λ x t. omega (arith, t.fewer))

-- the first position with the decimal part x
first-equal : (d : ℕ → ℕ) (x n : ℕ) → 0 < equal d x n → (i : ℕ) × (i < n) × (d i ≡ x) × (equal d x i ≡ 0)
first-equal d x zero h = absurd (omega (arith, equal_le d x 0))
first-equal d x (suc n) h =
    elim (dec_le 1 (equal d x n)) [
      | yes l ↦ let f = first-equal d x n l in (f.0, omega (arith, f.1), f.2, f.3)
      | no g ↦
          elim (ℕ_discrete (d n) x) [
            | yes e ↦ (n, le_refl (suc n), e, omega arith)
            | no u ↦ absurd (omega (arith, equal-same d x n u, ap (equal d x) (add-one n)))
          ]
    ]

-- the first of the tied positions is served for draw 0, and not for draw 1, where its turn is the last
module _ (d : ℕ → ℕ) (n left x : ℕ) (tie : Tie d n left x) (i : ℕ) (at_x : d i ≡ x) (first : equal d x i ≡ 0) where
  abbrev g : ℕ
  g = equal d x n

  by_turn : (draw : ℕ) → round_two d n draw left i ≡ bit (ltb (turn draw g 0) (left - larger d x n))
  by_turn draw =
      tied_served d n draw left x (record { fewer = tie.fewer; enough = omega (arith, at_least-parts d x n) }) i at_x ∙ ap (λ k. bit (ltb (turn draw g k) (left - larger d x n))) first

  served_by_0 : round_two d n 0 left i ≡ 1
  unfolding bit
  served_by_0 =
      let t : turn 0 g 0 ≡ 0 = turn-first 0 g 0 (omega (arith, zero-mod g)) (omega arith) ∙ omega arith in
      by_turn 0 ∙ rw (lt-ltb (turn 0 g 0) (left - larger d x n) (omega arith)) refl

  unserved_by_1 : round_two d n 1 left i ≡ 0
  unfolding bit
  unserved_by_1 =
      let one : 1 % g ≡ 1 = mod-eq_of_lt (omega arith) in
      let t : turn 1 g 0 ≡ g - 1 = turn-after 1 g 0 (omega arith) (omega arith) ∙ omega arith in
      by_turn 1 ∙ rw (le-ltb (turn 1 g 0) (left - larger d x n) (omega arith)) refl

-- the draw is used where a tie occurs
pub draw_used : (hs : List ℕ) (S x : ℕ) → Tie (decimals hs S) (length hs) (remainder hs S) x → pro_rata hs S 0 ≡ pro_rata hs S 1 → ⊥
unfolding pro_rata
draw_used hs S x tie e =
    let d : ℕ → ℕ = decimals hs S in
    let n : ℕ = length hs in
    let left : ℕ = remainder hs S in
    let f = first-equal d x n (omega arith) in
    let at : (draw : ℕ) → get_or (pro_rata hs S draw) f.0 0 ≡ round_one hs S f.0 + round_two d n draw left f.0 =
    λ draw. get_d_listed (λ i. round_one hs S i + round_two d n draw left i) n f.0 f.1
    in
    omega (
      arith,
      ap (λ l. get_or l f.0 0) e,
      at 0,
      at 1,
      served_by_0 d n left x tie f.0 f.2 f.3,
      unserved_by_1 d n left x tie f.0 f.2 f.3,
    )

-- three positions tie for one contract: the draw decides
abbrev three : List ℕ
three = 1 ∷ 1 ∷ 1 ∷ []

pub tied : Tie (decimals three 1) 3 (remainder three 1) 33333
unfolding sum_below bit count_below total percentage assignment_amount whole_part decimal_part round_one decimals remainder larger equal
tied = record { fewer = omega arith; more = omega arith }

pub draw_decides : (pro_rata three 1 0 ≡ 1 ∷ 0 ∷ 0 ∷ []) × (pro_rata three 1 1 ≡ 0 ∷ 1 ∷ 0 ∷ [])
unfolding sum_below bit count_below listed total percentage assignment_amount whole_part decimal_part round_one decimals remainder larger equal turn rank round_two pro_rata
draw_decides = (refl, refl)
