-- Laws of pro rata: round two by rank is round two by the cut_off and hands out exactly the remainder, no amount exceeds the shorts, and each is less than one contract from its share.
use Prim.Native.Nat.{ℕ, zero, suc, ◌+◌, ◌-◌, ◌*◌, ◌/◌, ◌%◌, ◌^◌, ◌≤◌, ◌<◌}
use mathlib.Core.Path.{◌≡◌, refl, sym, ap, ◌∙◌}
use mathlib.Core.Option.{none, some}
use mathlib.Core.List.{List}
use native.Mathlib.Omega.{arith}
use native.Mathlib.Nat.{le_trans, le_of_lt, mod-lt, mod-eq_of_lt, add-mod_right, mul-le-mul_left, mul-le-mul_right, mul-lt-mul_of_pos_left, mul-div-le, div-mul-le_self, lt-div-mul-add, lt-mul-div-succ, le_of_mul-le-mul_left, lt_of_mul-lt-mul_left}
use native.Mathlib.Decide.{dec_lt, dec_le, ℕ_discrete}
use lib.Dec.{eqb, ltb, leb}
use lib.ListN.{length, get_or, get_or-eq_default}
use borrow.Author.Tests.{lt-ltb, le-ltb, le-leb, lt-leb, eq-eqb, ne_eqb}
use Rattle.series.specs.Series.{MOST_CONTRACTS, MOST_POSITIONS}
use Rattle.series.specs.Sums.{sum_below, bit, count_below}
use Rattle.series.specs.Places.{total}
use Rattle.series.specs.ProRata.{percentage, assignment_amount, whole_part, decimal_part, round_one, decimals, remainder, larger, equal, turn, rank, round_two, pro_rata}
use Rattle.series.specs.CutOff.{at_least, first_below, cut_off, RunsOutAt, at_cut_off, by_cut_off, round_two_at, round_two_by_cut_off}
use Rattle.series.proofs.SumLaws.{sum_cong, sum_mono, sum-add, sum_scale, sum_const, sum_first, sum_term, total_term, sum-split, sum_numbered, bit_le, count_le, count_first, count_more, count_same, total-sum, total-listed, get_d_listed, length-listed}

-- number (draw modulo g) + 1 begins
pub turn-first : (draw g k : ℕ) → draw % g ≤ k → k < g → turn draw g k ≡ k - draw % g
unfolding turn
turn-first draw g k l h =
    let e : k + (g - draw % g) ≡ (k - draw % g) + g = omega (arith, mod-lt draw {m = g} (omega arith)) in
    ap (◌% g) e ∙ add-mod_right (k - draw % g) g ∙ mod-eq_of_lt (omega arith)

-- after number g comes number 1
pub turn-after : (draw g k : ℕ) → k < draw % g → 0 < g → turn draw g k ≡ (g - draw % g) + k
unfolding turn
turn-after draw g k l h = mod-eq_of_lt (omega (arith, mod-lt draw h)) ∙ omega arith

pub turn_lt : (draw g k : ℕ) → 0 < g → turn draw g k < g
unfolding turn
turn_lt draw g k h = mod-lt (k + (g - draw % g)) h

-- the turns of g tied positions are 0, 1, .., g - 1 in another order
pub sum_turns : (f : ℕ → ℕ) (draw g : ℕ) → 0 < g → sum_below (λ k. f (turn draw g k)) g ≡ sum_below f g
sum_turns f draw g h =
    let s : ℕ = draw % g in
    let l : s < g = mod-lt draw h in
    let F : ℕ → ℕ = λ k. f (turn draw g k) in
    let parts : s + (g - s) ≡ g = omega arith in
    let swapped : (g - s) + s ≡ g = omega arith in
    let first : sum_below F s ≡ sum_below (λ k. f ((g - s) + k)) s = sum_cong F (λ k. f ((g - s) + k)) s (λ k b. ap f (turn-after draw g k b h)) in
    let second : sum_below (λ i. F (s + i)) (g - s) ≡ sum_below f (g - s) =
    sum_cong (λ i. F (s + i)) f (g - s) (λ i b. ap f (turn-first draw g (s + i) (omega arith) (omega arith) ∙ omega arith))
    in
    ap (sum_below F) (sym parts) ∙ sum-split F s (g - s)
    ∙ omega (arith, first, second, sum-split f (g - s) s)
    ∙ ap (sum_below f) swapped

bits_parts : (x e : ℕ) → bit (leb x e) ≡ bit (ltb x e) + bit (eqb e x)
unfolding bit
bits_parts x e =
    elim (dec_lt x e) [
      | yes l ↦ rw (le-leb x e (omega arith), lt-ltb x e l, ne_eqb e x (omega arith)) (omega arith)
      | no g ↦
          elim (ℕ_discrete e x) [
            | yes q ↦ rw (le-leb x e (omega arith), le-ltb x e (omega arith), eq-eqb e x q) (omega arith)
            | no g' ↦ rw (lt-leb x e (omega arith), le-ltb x e (omega arith), ne_eqb e x g') (omega arith)
          ]
    ]

pub at_least-parts : (d : ℕ → ℕ) (x n : ℕ) → at_least d x n ≡ larger d x n + equal d x n
unfolding at_least larger equal count_below
at_least-parts d x n =
    sum_cong (λ i. bit (leb x (d i))) (λ i. bit (ltb x (d i)) + bit (eqb (d i) x)) n (λ i _. bits_parts x (d i))
    ∙ sum-add (λ i. bit (ltb x (d i))) (λ i. bit (eqb (d i) x)) n

-- a larger decimal part than x is x + 1 or more
pub larger-next : (d : ℕ → ℕ) (x n : ℕ) → larger d x n ≡ at_least d (suc x) n
unfolding at_least larger
larger-next d x n = refl

bits_fall : (x y e : ℕ) → x ≤ y → bit (leb y e) ≤ bit (leb x e)
unfolding bit
bits_fall x y e h =
    elim (dec_le y e) [
      | yes l ↦ rw (le-leb y e l, le-leb x e (omega arith)) (omega arith)
      | no g ↦ rw (lt-leb y e (omega arith)) (omega arith)
    ]

pub at_least_falls : (d : ℕ → ℕ) (x y n : ℕ) → x ≤ y → at_least d y n ≤ at_least d x n
unfolding at_least count_below
at_least_falls d x y n h = sum_mono (λ i. bit (leb y (d i))) (λ i. bit (leb x (d i))) n (λ i _. bits_fall x y (d i) h)

-- every position has a decimal part of 0 or more
pub at_least_all : (d : ℕ → ℕ) (n : ℕ) → at_least d 0 n ≡ n
unfolding at_least count_below bit
at_least_all d n =
    sum_cong (λ i. bit (leb 0 (d i))) (λ _. 1) n (λ i _. rw (le-leb 0 (d i) (omega arith)) refl)
    ∙ omega (arith, sum_const 1 n)

-- and none has one as large as what all are below
pub at_least_none : (d : ℕ → ℕ) (x n : ℕ) → ((i : ℕ) → i < n → d i < x) → at_least d x n ≡ 0
unfolding at_least count_below bit
at_least_none d x n h =
    sum_cong (λ i. bit (leb x (d i))) (λ _. 0) n (λ i l. rw (lt-leb x (d i) (h i l)) refl) ∙ omega (arith, sum_const 0 n)

pub at_least_le : (d : ℕ → ℕ) (x n : ℕ) → at_least d x n ≤ n
unfolding at_least
at_least_le d x n = count_le (λ i. leb x (d i)) n

pub equal_le : (d : ℕ → ℕ) (x n : ℕ) → equal d x n ≤ n
unfolding equal
equal_le d x n = count_le (λ i. eqb (d i) x) n

-- the number of an equal position in the list
pub equal-more : (d : ℕ → ℕ) (x i : ℕ) → d i ≡ x → equal d x (i + 1) ≡ equal d x i + 1
unfolding equal
equal-more d x i e = count_more (λ j. eqb (d j) x) i (eq-eqb (d i) x e)

pub equal-same : (d : ℕ → ℕ) (x i : ℕ) → (d i ≡ x → ⊥) → equal d x (i + 1) ≡ equal d x i
unfolding equal
equal-same d x i e = count_same (λ j. eqb (d j) x) i (ne_eqb (d i) x e)

pub equal-before : (d : ℕ → ℕ) (x n i : ℕ) → i < n → d i ≡ x → equal d x i < equal d x n
unfolding equal count_below
equal-before d x n i h e = omega (arith, equal-more d x i e, sum_first (λ j. bit (eqb (d j) x)) (i + 1) n (omega arith))

-- a position counts among those with its own decimal part
pub equal_own : (d : ℕ → ℕ) (n i : ℕ) → i < n → 0 < equal d (d i) n
equal_own d n i h = omega (arith, equal-before d (d i) n i h refl)

-- none of g equal positions comes after them all
pub rank_lt : (d : ℕ → ℕ) (n draw i : ℕ) → i < n → rank d n draw i < larger d (d i) n + equal d (d i) n
unfolding rank
rank_lt d n draw i h = omega (arith, turn_lt draw (equal d (d i) n) (equal d (d i) i) (equal_own d n i h))

pub rank_le : (d : ℕ → ℕ) (n draw i : ℕ) → larger d (d i) n ≤ rank d n draw i
unfolding rank
rank_le d n draw i = omega arith

-- a position is served where those with its decimal part or a larger one can all be served
pub served : (d : ℕ → ℕ) (n draw left i : ℕ) → i < n → larger d (d i) n + equal d (d i) n ≤ left → round_two d n draw left i ≡ 1
unfolding round_two bit
served d n draw left i h l = rw (lt-ltb (rank d n draw i) left (omega (arith, rank_lt d n draw i h))) refl

-- and not where those with a larger one use up what is left
pub unserved : (d : ℕ → ℕ) (n draw left i : ℕ) → left ≤ larger d (d i) n → round_two d n draw left i ≡ 0
unfolding round_two bit
unserved d n draw left i l = rw (le-ltb (rank d n draw i) left (omega (arith, rank_le d n draw i))) refl

-- one contract to a position
pub round_two_le : (d : ℕ → ℕ) (n draw left i : ℕ) → round_two d n draw left i ≤ 1
unfolding round_two
round_two_le d n draw left i = bit_le (ltb (rank d n draw i) left)

ltb_shift : (a t l : ℕ) → ltb (a + t) l ≡ ltb t (l - a)
ltb_shift a t l =
    elim (dec_lt t (l - a)) [
      | yes h ↦ lt-ltb (a + t) l (omega arith) ∙ sym (lt-ltb t (l - a) h)
      | no g ↦ le-ltb (a + t) l (omega arith) ∙ sym (le-ltb t (l - a) (omega arith))
    ]

-- by the cut_off c a position above it gets one contract, one at it by turn, one below it none
module _ (c draw g m x k : ℕ) where
  pub above : c < x → at_cut_off c draw g m x k ≡ 1
  unfolding at_cut_off bit
  above l = rw (lt-ltb c x l, ne_eqb x c (omega arith)) (omega arith)

  pub tied : x ≡ c → at_cut_off c draw g m x k ≡ bit (ltb (turn draw g k) m)
  unfolding at_cut_off bit
  tied e = rw (le-ltb c x (omega arith), eq-eqb x c e) (omega arith)

  pub below : x < c → at_cut_off c draw g m x k ≡ 0
  unfolding at_cut_off bit
  below l = rw (le-ltb c x (omega arith), ne_eqb x c (omega arith)) (omega arith)

-- what is left runs out at c
module _ (d : ℕ → ℕ) (n draw left c : ℕ) (at : RunsOutAt d n left c) where
  above_served : (i : ℕ) → i < n → c < d i → round_two d n draw left i ≡ 1
  above_served i h l = served d n draw left i h (omega (arith, at_least-parts d (d i) n, larger-next d c n, at_least_falls d (suc c) (d i) n l))

  below_unserved : (i : ℕ) → d i < c → round_two d n draw left i ≡ 0
  below_unserved i l = unserved d n draw left i (omega (arith, larger-next d (d i) n, at_least_falls d (suc (d i)) c n l))

  -- of the tied positions those are served whose turn is among the first m, where m can be served
  pub tied_served : (i : ℕ) → d i ≡ c → round_two d n draw left i ≡ bit (ltb (turn draw (equal d c n) (equal d c i)) (left - larger d c n))
  unfolding round_two rank
  tied_served i e = rw e (ap bit (ltb_shift (larger d c n) (turn draw (equal d c n) (equal d c i)) left))

  -- so the service by rank is that by the cut_off
  by_cut : (i : ℕ) → i < n → round_two d n draw left i ≡ by_cut_off d c draw (equal d c n) (left - larger d c n) i
  by_cut i h =
      elim (dec_lt c (d i)) [
        | yes l ↦ above_served i h l ∙ sym (above c draw (equal d c n) (left - larger d c n) (d i) (equal d c i) l)
        | no g ↦
            elim (ℕ_discrete (d i) c) [
              | yes e ↦ tied_served i e ∙ sym (tied c draw (equal d c n) (left - larger d c n) (d i) (equal d c i) e)
              | no g' ↦ below_unserved i (omega arith) ∙ sym (below c draw (equal d c n) (left - larger d c n) (d i) (equal d c i) (omega arith))
            ]
      ]

  -- all larger ones and m of the tied ones are served
  sum_by_cut : sum_below (round_two d n draw left) n ≡ left
  unfolding larger equal count_below at_cut_off
  sum_by_cut =
      let g : ℕ = equal d c n in
      let m : ℕ = left - larger d c n in
      let S : ℕ → ℕ = λ k. bit (ltb (turn draw g k) m) in
      sum_cong (round_two d n draw left) (λ i. bit (ltb c (d i)) + bit (eqb (d i) c) * S (equal d c i)) n by_cut
      ∙ sum-add (λ i. bit (ltb c (d i))) (λ i. bit (eqb (d i) c) * S (equal d c i)) n
      ∙ omega (
        arith,
        sum_numbered (λ i. eqb (d i) c) S n,
        sum_turns (λ k. bit (ltb k m)) draw g (omega (arith, at_least-parts d c n)),
        count_first m g (omega (arith, at_least-parts d c n)),
      )

-- where a count falls from `left` or more to less, `first_below` finds where, and what is left runs out there
first_below_lem : (d : ℕ → ℕ) (n left b : ℕ) → left ≤ at_least d 0 n → at_least d b n < left → (c : ℕ) × (first_below d n left b ≡ some c) × RunsOutAt d n left c
unfolding first_below
first_below_lem d n left zero h l = absurd (omega arith)
first_below_lem d n left (suc b) h l =
    elim (dec_le left (at_least d b n)) [
      | yes e ↦ (
        b,
        rw (le-leb left (at_least d b n) e) refl,
        record { fewer = omega (arith, larger-next d b n); enough = e },
      )
      | no g ↦
          let c = first_below_lem d n left b h (omega arith) in
          (c.0, rw (lt-leb left (at_least d b n) (omega arith)) c.1, c.2)
    ]

-- what is left runs out at one decimal part only
not_above : (d : ℕ → ℕ) (n left c c2 : ℕ) → RunsOutAt d n left c → RunsOutAt d n left c2 → c2 ≤ c
not_above d n left c c2 at at2 =
    elim (dec_lt c c2) [
      | yes l ↦ absurd (omega (arith, larger-next d c n, at_least_falls d (suc c) c2 n l))
      | no g ↦ omega arith
    ]

runs_out_once : (d : ℕ → ℕ) (n left c c2 : ℕ) → RunsOutAt d n left c → RunsOutAt d n left c2 → c ≡ c2
runs_out_once d n left c c2 at at2 = omega (arith, not_above d n left c c2 at at2, not_above d n left c2 c at2 at)

-- none is found where nothing is left
pub no_cut_off : (d : ℕ → ℕ) (n left : ℕ) → left ≡ 0 → cut_off d n left ≡ none
unfolding cut_off
no_cut_off d n left e = rw (eq-eqb left 0 e) refl

-- the decimal parts of n positions, and what is left for them, one contract to a position
module _ (d : ℕ → ℕ) (n left : ℕ) (five : (i : ℕ) → i < n → d i < 100000) (most : left ≤ n) where
  -- where something is left there is a cut_off
  cut_off_lem : 0 < left → (c : ℕ) × (cut_off d n left ≡ some c) × RunsOutAt d n left c
  unfolding cut_off
  cut_off_lem some_left =
      rw (ne_eqb left 0 (λ e. omega arith)) (first_below_lem d n left 100000 (omega (arith, at_least_all d n)) (omega (arith, at_least_none d 100000 n five)))

  -- and what is left runs out there
  pub cut_off_is : (c : ℕ) → cut_off d n left ≡ some c → RunsOutAt d n left c
  cut_off_is c e =
      elim (ℕ_discrete left 0) [
        | yes z ↦ let none_is = no_cut_off d n left z in let z : ◌≡◌ {A = ℕ} 0 1 = cc in absurd (omega arith)
        | no g ↦ let cut = cut_off_lem (omega arith) in let same : cut.0 ≡ c = cc cut.1 in rw (← same) cut.2
      ]

  -- and at no other decimal part
  pub cut_off_only : (c : ℕ) → RunsOutAt d n left c → cut_off d n left ≡ some c
  cut_off_only c at =
      let cut = cut_off_lem (omega (arith, at.fewer)) in cut.1 ∙ ap some (runs_out_once d n left cut.0 c cut.2 at)

  -- where none is found nothing is left
  pub none_left : cut_off d n left ≡ none → left ≡ 0
  none_left e =
      elim (ℕ_discrete left 0) [
        | yes z ↦ z
        | no g ↦ let cut = cut_off_lem (omega arith) in let z : ◌≡◌ {A = ℕ} 0 1 = cc cut.1 in absurd (omega arith)
      ]

  -- round two by rank is round two by the cut_off
  pub round_two_by_cut_off_lem : (draw i : ℕ) → i < n → round_two d n draw left i ≡ round_two_by_cut_off d n draw left i
  unfolding round_two_by_cut_off round_two_at
  round_two_by_cut_off_lem draw i h =
      elim (ℕ_discrete left 0) [
        | yes z ↦ unserved d n draw left i (omega arith) ∙ rw (no_cut_off d n left z) refl
        | no g ↦ let cut = cut_off_lem (omega arith) in by_cut d n draw left cut.0 cut.2 i h ∙ rw cut.1 refl
      ]

  -- round two hands out exactly what is left, one contract to a position
  pub round_two-sum : (draw : ℕ) → sum_below (round_two d n draw left) n ≡ left
  round_two-sum draw =
      elim (ℕ_discrete left 0) [
        | yes z ↦ sum_cong (round_two d n draw left) (λ _. 0) n (λ i _. unserved d n draw left i (omega arith)) ∙ omega (arith, sum_const 0 n)
        | no g ↦ let cut = cut_off_lem (omega arith) in sum_by_cut d n draw left cut.0 cut.2
      ]

-- what round one leaves of a position's share, in parts of T of a contract
residue : ℕ → ℕ → ℕ → ℕ
residue T S h = h * S - T * whole_part (percentage S T) h

-- the two truncations
module _ (T S h : ℕ) (pos : 0 < T) (few : T ≤ MOST_CONTRACTS) (part : h ≤ T) where
  abbrev w : ℕ
  w = whole_part (percentage S T) h

  abbrev x : ℕ
  x = decimal_part (percentage S T) h

  pub decimal_lt : x < 100000
  unfolding decimal_part
  decimal_lt = omega arith

  amount-parts : assignment_amount (percentage S T) h ≡ 100000 * w + x
  unfolding whole_part decimal_part
  amount-parts = omega arith

  share_low : T * assignment_amount (percentage S T) h ≤ 100000 * (h * S)
  unfolding assignment_amount percentage
  share_low =
      let q : ℕ = S * 10 ^ 17 / T in
      omega (arith, mul-le-mul_left h (mul-div-le (S * 10 ^ 17) T), mul-le-mul_left T (div-mul-le_self (h * q) (10 ^ 12)))

  share_high : 10000000000 * (h * S) < 100000 * (T * assignment_amount (percentage S T) h) + 100001 * T
  unfolding assignment_amount percentage
  share_high =
      let q : ℕ = S * 10 ^ 17 / T in
      let a : ℕ = h * q / 10 ^ 12 in
      let up : h * q < a * 10 ^ 12 + 10 ^ 12 = lt-div-mul-add (omega arith) in
      omega (
        arith,
        mul-le-mul_left h (le_of_lt (lt-mul-div-succ (S * 10 ^ 17) pos)),
        mul-lt-mul_of_pos_left up pos,
        mul-le-mul_right T (le_trans part few),
      )

  share_parts : T * assignment_amount (percentage S T) h ≡ 100000 * (T * w) + x * T
  share_parts = ap (T *◌) amount-parts ∙ omega arith

  residue_sum : T * w + residue T S h ≡ h * S
  unfolding residue
  residue_sum = omega (arith, share_low, share_parts)

  residue_low : x * T ≤ 100000 * residue T S h
  residue_low = omega (arith, share_low, share_parts, residue_sum)

  residue_high : 10000000000 * residue T S h < 100000 * (x * T) + 100001 * T
  residue_high = omega (arith, share_high, share_parts, residue_sum)

  residue_le : residue T S h ≤ T
  residue_le = omega (arith, residue_high, mul-le-mul_right T decimal_lt)

  -- a position whose residue is 0 has the decimal part 0
  residue_none : residue T S h ≡ 0 → x ≡ 0
  residue_none e =
      elim (ℕ_discrete x 0) [
        | yes z ↦ z
        | no g ↦ let l : 1 ≤ x = omega arith in absurd (omega (arith, residue_low, mul-le-mul_right T l))
      ]

  -- a position whose residue is T has the largest decimal part
  residue_all : residue T S h ≡ T → x ≡ 99999
  residue_all e =
      elim (dec_le x 99998) [
        | yes l ↦ absurd (omega (arith, residue_high, mul-le-mul_right T l))
        | no g ↦ omega (arith, decimal_lt)
      ]

  -- what each position brings to the count of decimal parts above 0, and of those of 99999
  residue_above : 100000 * residue T S h ≤ (100000 * T) * bit (ltb 0 x) + 2 * T
  unfolding bit
  residue_above =
      elim (ℕ_discrete x 0) [
        | yes z ↦ rw (le-ltb 0 x (omega arith)) (omega (arith, residue_high, ap (◌* T) z))
        | no g ↦ rw (lt-ltb 0 x (omega arith)) (omega (arith, residue_le))
      ]

  residue_largest : (99999 * T) * bit (eqb x 99999) ≤ 100000 * residue T S h
  unfolding bit
  residue_largest =
      elim (ℕ_discrete x 99999) [
        | yes z ↦ rw (eq-eqb x 99999 z) (omega (arith, residue_low, ap (◌* T) z))
        | no g ↦ rw (ne_eqb x 99999 g) (omega arith)
      ]

module _ (hs : List ℕ) (S : ℕ) (pos : 0 < total hs) (few : total hs ≤ MOST_CONTRACTS) (short : length hs ≤ MOST_POSITIONS) (within : S ≤ total hs) where
  abbrev T : ℕ
  T = total hs

  abbrev n : ℕ
  n = length hs

  abbrev d : ℕ → ℕ
  d = decimals hs S

  abbrev shorts : ℕ → ℕ
  shorts i = get_or hs i 0

  abbrev left : ℕ
  left = remainder hs S

  abbrev residues : ℕ
  residues = sum_below (λ i. residue T S (shorts i)) n

  pub decimals_lt : (i : ℕ) → i < n → d i < 100000
  unfolding decimals
  decimals_lt i h = decimal_lt T S (shorts i) pos few (total_term hs i h)

  pub decimals-past : (i : ℕ) → n ≤ i → d i ≡ 0
  unfolding decimals decimal_part assignment_amount
  decimals-past i h = rw (get_or-eq_default hs 0 h) (omega arith)

  residues_sum : T * sum_below (round_one hs S) n + residues ≡ T * S
  unfolding round_one
  residues_sum =
      let each : (i : ℕ) → i < n → T * round_one hs S i + residue T S (shorts i) ≡ S * shorts i =
      λ i h. residue_sum T S (shorts i) pos few (total_term hs i h) ∙ omega arith
      in
      omega (
        arith,
        sum_cong (λ i. T * round_one hs S i + residue T S (shorts i)) (λ i. S * shorts i) n each,
        sum-add (λ i. T * round_one hs S i) (λ i. residue T S (shorts i)) n,
        sum_scale T (round_one hs S) n,
        sum_scale S shorts n,
        ap (S *◌) (total-sum hs),
      )

  pub round_one_le : sum_below (round_one hs S) n ≤ S
  round_one_le = le_of_mul-le-mul_left {k = T} (omega (arith, residues_sum)) pos

  pub round_one_each : (i : ℕ) → i < n → round_one hs S i ≤ S
  round_one_each i h = omega (arith, sum_term (round_one hs S) n i h, round_one_le)

  -- both rounds together hand out S
  pub rounds : sum_below (round_one hs S) n + left ≡ S
  unfolding remainder
  rounds = omega (arith, round_one_le)

  residues_left : residues ≡ T * left
  residues_left = omega (arith, residues_sum, ap (T *◌) rounds)

  -- what remains is no more than the positions with a decimal part above 0
  pub remainder-above : left ≤ larger d 0 n
  unfolding larger count_below decimals
  remainder-above =
      let each : (i : ℕ) → i < n → 100000 * residue T S (shorts i) ≤ (100000 * T) * bit (ltb 0 (d i)) + 2 * T =
      λ i h. residue_above T S (shorts i) pos few (total_term hs i h)
      in
      let all : T * (100000 * left) ≤ T * (100000 * larger d 0 n + 2 * n) =
      omega (
        arith,
        sum_mono (λ i. 100000 * residue T S (shorts i)) (λ i. (100000 * T) * bit (ltb 0 (d i)) + 2 * T) n each,
        sum_scale 100000 (λ i. residue T S (shorts i)) n,
        sum-add (λ i. (100000 * T) * bit (ltb 0 (d i))) (λ _. 2 * T) n,
        sum_scale (100000 * T) (λ i. bit (ltb 0 (d i))) n,
        sum_const (2 * T) n,
        residues_left,
      )
      in
      omega (arith, le_of_mul-le-mul_left all pos)

  pub remainder_le : left ≤ n
  unfolding larger
  remainder_le = omega (arith, remainder-above, count_le (λ i. ltb 0 (d i)) n)

  -- and no less than those with the largest decimal part
  pub remainder_largest : equal d 99999 n ≤ left
  unfolding equal count_below decimals
  remainder_largest =
      let each : (i : ℕ) → i < n → (99999 * T) * bit (eqb (d i) 99999) ≤ 100000 * residue T S (shorts i) =
      λ i h. residue_largest T S (shorts i) pos few (total_term hs i h)
      in
      let all : T * (99999 * equal d 99999 n) ≤ T * (100000 * left) =
      omega (
        arith,
        sum_mono (λ i. (99999 * T) * bit (eqb (d i) 99999)) (λ i. 100000 * residue T S (shorts i)) n each,
        sum_scale 100000 (λ i. residue T S (shorts i)) n,
        sum_scale (99999 * T) (λ i. bit (eqb (d i) 99999)) n,
        residues_left,
      )
      in
      omega (arith, le_of_mul-le-mul_left all pos, remainder_le)

  module _ (draw : ℕ) where
    abbrev amount : ℕ → ℕ
    amount i = round_one hs S i + round_two d n draw left i

    -- the amounts add up to S
    pub pro_rata-sum : total (pro_rata hs S draw) ≡ S
    unfolding pro_rata
    pro_rata-sum =
        total-listed amount n
        ∙ sum-add (round_one hs S) (round_two d n draw left) n
        ∙ omega (arith, round_two-sum d n left decimals_lt remainder_le draw, rounds)

    pub pro_rata-at : (i : ℕ) → i < n → get_or (pro_rata hs S draw) i 0 ≡ amount i
    unfolding pro_rata
    pro_rata-at i h = get_d_listed amount n i h

    abbrev residue_at : ℕ → ℕ
    residue_at i = residue T S (shorts i)

    -- a position whose share round one has met is not served in round two
    met_unserved : (i : ℕ) → i < n → residue_at i ≡ 0 → round_two d n draw left i ≡ 0
    unfolding decimals
    met_unserved i h e =
        let z : d i ≡ 0 = residue_none T S (shorts i) pos few (total_term hs i h) e in
        unserved d n draw left i (omega (arith, remainder-above, ap (λ y. larger d y n) z))

    -- and one that wants a whole contract is
    whole_served : (i : ℕ) → i < n → residue_at i ≡ T → round_two d n draw left i ≡ 1
    unfolding decimals
    whole_served i h e =
        let z : d i ≡ 99999 = residue_all T S (shorts i) pos few (total_term hs i h) e in
        served d n draw left i h
        (omega (
          arith,
          ap (λ y. larger d y n + equal d y n) z,
          larger-next d 99999 n,
          at_least_none d 100000 n decimals_lt,
          remainder_largest,
        ))

    -- shorts times S and T times the amount lie less than T apart
    pub pro_rata_share : (i : ℕ) → i < n → (shorts i * S < T * get_or (pro_rata hs S draw) i 0 + T) × (T * get_or (pro_rata hs S draw) i 0 < shorts i * S + T)
    unfolding round_one
    pro_rata_share i h =
        let sum : T * round_one hs S i + residue_at i ≡ shorts i * S = residue_sum T S (shorts i) pos few (total_term hs i h) in
        let most : residue_at i ≤ T = residue_le T S (shorts i) pos few (total_term hs i h) in
        let at : T * get_or (pro_rata hs S draw) i 0 ≡ T * round_one hs S i + T * round_two d n draw left i = ap (T *◌) (pro_rata-at i h) ∙ omega arith in
        elim (ℕ_discrete (round_two d n draw left i) 0) [
          | yes z ↦
              let l : residue_at i < T =
              elim (dec_lt (residue_at i) T) [ yes l ↦ l | no g ↦ let e : residue_at i ≡ T = omega arith in absurd (omega (arith, whole_served i h e)) ]
              in
              omega (arith, ap (T *◌) z)
          | no g ↦
              let o : round_two d n draw left i ≡ 1 = omega (arith, round_two_le d n draw left i) in
              let l : 0 < residue_at i =
              elim (dec_lt 0 (residue_at i)) [ yes l ↦ l | no g' ↦ let e : residue_at i ≡ 0 = omega arith in absurd (omega (arith, met_unserved i h e)) ]
              in
              omega (arith, ap (T *◌) o)
        ]

    -- no amount exceeds the shorts
    pub pro_rata-most : (i : ℕ) → get_or (pro_rata hs S draw) i 0 ≤ shorts i
    unfolding pro_rata
    pro_rata-most i =
        elim (dec_lt i n) [
          | yes h ↦
              let l : T * get_or (pro_rata hs S draw) i 0 < T * suc (shorts i) =
              omega (arith, pro_rata_share i h, mul-le-mul_left (shorts i) within)
              in
              omega (arith, lt_of_mul-lt-mul_left T l)
          | no g ↦
              let out : n ≤ i = omega arith in
              omega (arith, get_or-eq_default (pro_rata hs S draw) 0 {n = i} (omega (arith, length-listed amount n)))
        ]
