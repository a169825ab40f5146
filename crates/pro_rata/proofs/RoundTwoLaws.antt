-- The cut-off that the search finds, and that round two by it serves the positions that the rules serve.
use Prim.Native.Nat.{ℕ, ◌+◌, ◌-◌, ◌*◌, ◌%◌, ◌≤◌, ◌<◌}
use mathlib.Core.Path.{◌≡◌, refl, sym, ap, ap₂, ◌∙◌}
use mathlib.Core.Option.{Option, none, some, some-injective}
use mathlib.Core.List.{List}
use native.Mathlib.Omega.{arith}
use native.Mathlib.Nat.{mod-eq_of_lt, mod-mod}
use native.Mathlib.Numerals.{add-one}
use native.Mathlib.Decide.{dec_lt, ℕ_discrete}
use lib.Dec.{eqb, ltb}
use lib.ListN.{length}
use Rattle.series.specs.Series.{MOST_POSITIONS}
use Rattle.series.specs.Sums.{bit}
use Rattle.series.specs.ProRata.{turn, larger, equal, round_two}
use Rattle.series.specs.CutOff.{at_least, cut_off, RunsOutAt, at_cut_off, by_cut_off, round_two_at, round_two_by_cut_off}
use Rattle.series.proofs.SumLaws.{bit_le, listed_cong}
use Rattle.series.proofs.ProRataLaws.{equal_le, turn-first, turn-after, above, tied, below, at_least-parts, larger-next, no_cut_off, cut_off_is, cut_off_only, none_left, round_two_by_cut_off_lem}
use Rattle.pro_rata.specs.Rounds.{at, Decimals, added, counted, cut_off_of}
use Rattle.std.specs.Prelude.{Some, None}

-- the turn of a tied position, with no division
pub turn_low : (first g k : ℕ) → first < g → k < first → turn first g k ≡ g - first + k
turn_low first g k h l =
    let e : first % g ≡ first = mod-eq_of_lt h in turn-after first g k (omega arith) (omega arith) ∙ ap (λ s. g - s + k) e

pub turn-high : (first g k : ℕ) → k < g → first ≤ k → turn first g k ≡ k - first
turn-high first g k h l =
    let e : first % g ≡ first = mod-eq_of_lt (omega arith) in turn-first first g k (omega arith) h ∙ ap (k -◌) e

-- at most one contract by the cut-off
pub one-most : (c first g m x k : ℕ) → at_cut_off c first g m x k ≤ 1
one-most c first g m x k =
    elim (dec_lt c x) [
      | yes l ↦ omega (arith, above c first g m x k l)
      | no n ↦
          elim (ℕ_discrete x c) [
            | yes e ↦ omega (arith, tied c first g m x k e, bit_le (ltb (turn first g k) m))
            | no n' ↦ omega (arith, below c first g m x k (omega arith))
          ]
    ]

-- only the draw modulo g counts
turn-mod : (draw g k : ℕ) → turn (draw % g) g k ≡ turn draw g k
unfolding turn
turn-mod draw g k = ap (λ s. (k + (g - s)) % g) (mod-mod draw g)

-- what the search hands back of a cut-off c: l positions have a larger decimal part and g have c
pub record CutOffAt (d : ℕ → ℕ) (n left c l g : ℕ) : Type 0 where
  pub is : cut_off d n left ≡ some c
  pub larger_are : l ≡ larger d c n
  pub tied_are : g ≡ equal d c n

pub none_found : (d : ℕ → ℕ) (n left : ℕ) → left ≡ 0 → cut_off_of None ≡ counted d n (cut_off d n left)
none_found d n left e = rw (no_cut_off d n left e) refl

module _ {parts : List ℕ} {left : ℕ} (ok : Decimals parts left) where
  abbrev d : ℕ → ℕ
  d = at parts

  abbrev n : ℕ
  n = length parts

  -- where at least as many positions as are left have c or more, and fewer c + 1 or more, that is the cut-off with its counts
  pub found : (c next enough l : ℕ) → next ≡ c + 1 → enough ≡ at_least d c n → l ≡ at_least d next n → left ≤ enough → l < left → cut_off_of (Some (record { cut = c; larger = l; tied = enough - l })) ≡ counted d n (cut_off d n left)
  found c next enough l one enough-are l-are some_left fewer =
      let larger_are : l ≡ larger d c n = l-are ∙ ap (λ x. at_least d x n) (one ∙ add-one c) ∙ sym (larger-next d c n) in
      let tied_are : enough - l ≡ equal d c n = omega (arith, at_least-parts d c n) in
      rw (cut_off_only d n left ok.five ok.most c (record { fewer = omega arith; enough = omega arith }), tied_are, larger_are)

  -- and the other way round
  pub is_cut_off : {c l g : ℕ} → cut_off_of (Some (record { cut = c; larger = l; tied = g })) ≡ counted d n (cut_off d n left) → CutOffAt d n left c l g
  is_cut_off {c} {l} {g} e = by_cases (cut_off d n left) refl e
    where
      by_cases : (o : Option ℕ) → cut_off d n left ≡ o → cut_off_of (Some (record { cut = c; larger = l; tied = g })) ≡ counted d n o → CutOffAt d n left c l g
      by_cases none q e = let z : ◌≡◌ {A = ℕ} 0 1 = cc in absurd (omega arith)
      by_cases (some x) q e =
          let k = some-injective _ _ e in
          let same : c ≡ x = ap (λ a. a.cut) k in
          record {
            is = q ∙ ap some (sym same);
            larger_are = ap (λ a. a.above) k ∙ ap (λ y. larger d y n) (sym same);
            tied_are = ap (λ a. a.tied) k ∙ ap (λ y. equal d y n) (sym same);
          }

  pub is_none : cut_off_of None ≡ counted d n (cut_off d n left) → left ≡ 0
  is_none e = by_cases (cut_off d n left) refl e
    where
      by_cases : (o : Option ℕ) → cut_off d n left ≡ o → cut_off_of None ≡ counted d n o → left ≡ 0
      by_cases none q e = none_left d n left ok.five ok.most q
      by_cases (some x) q e = let z : ◌≡◌ {A = ℕ} 0 1 = cc in absurd (omega arith)

  -- the walk by the cut-off serves as the rules do
  module _ {c l g : ℕ} (cut : CutOffAt d n left c l g) where
    runs_out : RunsOutAt d n left c
    runs_out = cut_off_is d n left ok.five ok.most c cut.is

    pub larger_lt : l < left
    larger_lt = omega (arith, runs_out.fewer, cut.larger_are)

    pub tied-some : 0 < g
    tied-some = omega (arith, runs_out.fewer, runs_out.enough, cut.tied_are, at_least-parts d c n)

    pub tied-few : g ≤ MOST_POSITIONS
    tied-few = omega (arith, cut.tied_are, equal_le d c n, ok.few)

    pub serves : left - l ≤ g
    serves = omega (arith, runs_out.enough, cut.larger_are, cut.tied_are, at_least-parts d c n)

    by_rank : (draw i : ℕ) → i < n → by_cut_off d c (draw % equal d c n) (equal d c n) (left - larger d c n) i ≡ round_two d n draw left i
    unfolding at_cut_off round_two_at round_two_by_cut_off
    by_rank draw i h =
        ap (λ t. bit (ltb c (d i)) + bit (eqb (d i) c) * bit (ltb t (left - larger d c n))) (turn-mod draw (equal d c n) (equal d c i))
        ∙ sym (ap (λ o. round_two_at o d n draw left i) cut.is)
        ∙ sym (round_two_by_cut_off_lem d n left ok.five ok.most draw i h)

    pub service : (draw : ℕ) (xs : List ℕ) → length xs ≡ n → added xs (by_cut_off d c (draw % g) g (left - l)) ≡ added xs (round_two d n draw left)
    service draw xs e =
        listed_cong (λ i. at xs i + by_cut_off d c (draw % g) g (left - l) i) (λ i. at xs i + round_two d n draw left i) (length xs)
        (λ i h. ap (at xs i +◌) (ap₂ (λ g l. by_cut_off d c (draw % g) g (left - l) i) cut.tied_are cut.larger_are ∙ by_rank draw i (omega arith)))
