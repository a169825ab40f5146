-- Cut-off first, proved of the definitions for every accepted series s: what the decimal part is at which the remainder runs out, and that round two goes by it.
use Prim.Native.Nat.{ℕ, ◌+◌, ◌≤◌, ◌<◌}
use mathlib.Core.Path.{◌≡◌, refl, ap}
use mathlib.Core.Option.{Option, none, some}
use mathlib.Core.List.{List, [], ◌∷◌}
use native.Mathlib.Omega.{arith}
use native.Mathlib.Decide.{ℕ_discrete}
use lib.ListN.{length}
use Rattle.series.specs.Sums.{sum_below, bit, count_below, listed}
use Rattle.series.specs.Places.{total}
use Rattle.series.specs.Series.{Series, exercised, MOST_POSITIONS, MOST_CONTRACTS}
use Rattle.series.specs.ProRata.{percentage, assignment_amount, whole_part, decimal_part, round_one, decimals, remainder, larger, equal, Tie, round_two, pro_rata}
use Rattle.series.specs.CutOff.{at_least, cut_off_in, RunsOutAt, round_two_by_cut_off}
use Rattle.series.specs.Refusals.{Accepted}
use Rattle.series.proofs.SumLaws.{listed_cong}
use Rattle.series.proofs.AcceptedLaws.{Facts, accepted_facts}
use Rattle.series.proofs.ProRataLaws.{at_least-parts, decimals_lt, remainder-above, remainder_le, no_cut_off, cut_off_is, cut_off_only, none_left, round_two_by_cut_off_lem}

-- the decimal parts of a series, the number of its positions, and the contracts that remain for round two
abbrev d : Series → ℕ → ℕ
d s = decimals s.shorts (exercised s)

abbrev n : Series → ℕ
n s = length s.shorts

abbrev left : Series → ℕ
left s = remainder s.shorts (exercised s)

-- and its cut-off
abbrev cut : Series → Option ℕ
cut s = cut_off_in s.shorts (exercised s)

module _ (s : Series) (room : ℕ) (ok : Accepted s room) where
  facts : Facts s
  facts = accepted_facts s room ok

  five : (i : ℕ) → i < n s → d s i < 100000
  five = decimals_lt s.shorts (exercised s) facts.total_some facts.total_most facts.few facts.exercised_most

  most : left s ≤ n s
  most = remainder_le s.shorts (exercised s) facts.total_some facts.total_most facts.few facts.exercised_most

  -- Fewer positions than remaining contracts have a larger decimal part.
  pub fewer_have_larger : (c : ℕ) → cut s ≡ some c → larger (d s) c (n s) < left s
  fewer_have_larger c e = (cut_off_is (d s) (n s) (left s) five most c e).fewer

  -- At least as many have one as large or larger.
  pub enough_have_it : (c : ℕ) → cut s ≡ some c → left s ≤ at_least (d s) c (n s)
  enough_have_it c e = (cut_off_is (d s) (n s) (left s) five most c e).enough

  -- None is found where nothing remains, and only there.
  pub none_where_nothing_remains : left s ≡ 0 → cut s ≡ none
  none_where_nothing_remains = no_cut_off (d s) (n s) (left s)

  pub nothing_remains_where_none : cut s ≡ none → left s ≡ 0
  nothing_remains_where_none = none_left (d s) (n s) (left s) five most

  -- It is the only one with these properties.
  pub only_cut_off : (c : ℕ) → RunsOutAt (d s) (n s) (left s) c → cut s ≡ some c
  only_cut_off = cut_off_only (d s) (n s) (left s) five most

  -- Some position has it.
  pub some_have_it : (c : ℕ) → cut s ≡ some c → 0 < equal (d s) c (n s)
  some_have_it c e = omega (arith, fewer_have_larger c e, enough_have_it c e, at_least-parts (d s) c (n s))

  -- It is above 0: no position without a decimal part is served.
  pub cut_off_above_0 : (c : ℕ) → cut s ≡ some c → 0 < c
  cut_off_above_0 c e =
      elim (ℕ_discrete c 0) [
        | yes z ↦ absurd (omega (arith, fewer_have_larger c e, ap (λ x. larger (d s) x (n s)) z, remainder-above s.shorts (exercised s) facts.total_some facts.total_most facts.few facts.exercised_most))
        | no g ↦ omega arith
      ]

  -- A tie is at the cut-off.
  pub tie_at_cut_off : (x : ℕ) → Tie (d s) (n s) (left s) x → cut s ≡ some x
  tie_at_cut_off x tie = only_cut_off x (record { fewer = tie.fewer; enough = omega (arith, at_least-parts (d s) x (n s)) })

  -- Round two by rank, the document's own order, is round two by the cut-off.
  pub by_rank_by_cut_off : (draw i : ℕ) → i < n s → round_two (d s) (n s) draw (left s) i ≡ round_two_by_cut_off (d s) (n s) draw (left s) i
  by_rank_by_cut_off = round_two_by_cut_off_lem (d s) (n s) (left s) five most

  -- So the amounts are the same.
  pub amounts-by_cut_off : (draw : ℕ) → pro_rata s.shorts (exercised s) draw ≡ listed (λ i. round_one s.shorts (exercised s) i + round_two_by_cut_off (d s) (n s) draw (left s) i) (n s)
  unfolding pro_rata
  amounts-by_cut_off draw = listed_cong _ _ (n s) (λ i h. ap (round_one s.shorts (exercised s) i +◌) (by_rank_by_cut_off draw i h))

-- the cut-off of a list, known by its properties
known : (hs : List ℕ) (S c : ℕ)
    → (0 < total hs) × (total hs ≤ MOST_CONTRACTS) × (length hs ≤ MOST_POSITIONS) × (S ≤ total hs) × (larger (decimals hs S) c (length hs) < remainder hs S) × (remainder hs S ≤ at_least (decimals hs S) c (length hs))
    → cut_off_in hs S ≡ some c
known hs S c (some-held, few, short, within, fewer, enough) =
    cut_off_only (decimals hs S) (length hs) (remainder hs S) (decimals_lt hs S some-held few short within) (remainder_le hs S some-held few short within) c (record { fewer = fewer; enough = enough })

-- The cut-offs of the starred series F, G, H, J and K, and of one where nothing remains.
pub starred_cut_offs : (cut_off_in (5 ∷ 3 ∷ 2 ∷ []) 4 ≡ some 80000) × (cut_off_in (3 ∷ []) 1 ≡ some 99999) × (cut_off_in (1 ∷ 1 ∷ 1 ∷ []) 1 ≡ some 33333) × (cut_off_in (1 ∷ 1 ∷ 1 ∷ []) 2 ≡ some 66666) × (cut_off_in (3 ∷ 1 ∷ 2 ∷ []) 2 ≡ some 66666) × (cut_off_in (2 ∷ 2 ∷ []) 2 ≡ none)
unfolding sum_below bit count_below total percentage assignment_amount whole_part decimal_part round_one decimals remainder larger at_least
starred_cut_offs = (
  known (5 ∷ 3 ∷ 2 ∷ []) 4 80000 (omega arith),
  known (3 ∷ []) 1 99999 (omega arith),
  known (1 ∷ 1 ∷ 1 ∷ []) 1 33333 (omega arith),
  known (1 ∷ 1 ∷ 1 ∷ []) 2 66666 (omega arith),
  known (3 ∷ 1 ∷ 2 ∷ []) 2 66666 (omega arith),
  no_cut_off (decimals (2 ∷ 2 ∷ []) 2) 2 (remainder (2 ∷ 2 ∷ []) 2) refl,
)
