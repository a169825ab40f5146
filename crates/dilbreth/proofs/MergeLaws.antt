-- What the merging call hands back behind its arguments.
use Prim.Native.Nat.{ℕ}
use mathlib.Core.Path.{◌≡◌, refl, ap, ◌∙◌}
use mathlib.Core.List.{List}
use lib.ListN.{length}
use Rattle.series.specs.Results.{Result, refused, value, after, status}
use Rattle.series.specs.Outputs.{Lent, lent}
use Rattle.series.specs.Places.{total}
use Rattle.merging.specs.Merging.{Position, shorts_of, Handed, handed, Merges}
use Rattle.dilbreth.specs.Exports.{HandsMerged}

module _ (m : Result (List Position)) (a : Result Handed) (accounts shorts : Lent (List ℕ)) (merges : Merges m a accounts shorts) (positions₀ total₀ : ℕ) where
  pub hands-merged : HandsMerged m (status a) accounts shorts (lent positions₀ (after a (λ h. h.positions) positions₀)) (lent total₀ (after a (λ h. h.total) total₀))
  unfolding handed
  hands-merged =
      record {
        answers = ap status merges.answered ∙ answer m;
        lists = merges.written;
        hands_positions = ap (λ r. after r (λ h. h.positions) positions₀) merges.answered ∙ count m;
        hands_total = ap (λ r. after r (λ h. h.total) total₀) merges.answered ∙ sum m;
      }
    where
      answer : (r : Result (List Position)) → status (handed r) ≡ status r
      answer (refused n) = refl
      answer (value ps) = refl

      count : (r : Result (List Position)) → after (handed r) (λ h. h.positions) positions₀ ≡ after r (λ ps. length ps) positions₀
      count (refused n) = refl
      count (value ps) = refl

      sum : (r : Result (List Position)) → after (handed r) (λ h. h.total) total₀ ≡ after r (λ ps. total (shorts_of ps)) total₀
      sum (refused n) = refl
      sum (value ps) = refl
