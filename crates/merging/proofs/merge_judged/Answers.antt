-- The merged list is counted and judged, and written where nothing refuses it.
use Rattle.std.proofs.Common.{◌≡◌, ℕ, List, length, sym, subst, ◌∙◌}
use Rattle.series.proofs.ResultLaws.{refusal_met}
use Rattle.series.specs.Results.{Result, value}
use Rattle.series.specs.Outputs.{lent}
use Rattle.series.specs.Places.{total}
use Rattle.series.specs.Refusals.{first}
use Rattle.merging.specs.Merging.{Position, PositionList, Handed, positions, accounts_of, shorts_of, merged, merged_of, merged_rows, judged_merged, handed, ListsMerged}
use Rattle.merging.specs.Walks.{BothBounded}
use Rattle.merging.proofs.WalkLaws.{paired-accounts}
use Rattle.merging.proofs.CallLaws.{whole-total, Passed, passed, handed-from, refused_kept}
use Rattle.merging.proofs.merge_judged.Goals as goal

module _ {one two : PositionList} {T : ℕ} (b : BothBounded one two T) (accountsRoom shortsRoom n : ℕ)
    (counted : (ps qs : List Position) → accounts_of ps ≡ one.accounts → accounts_of qs ≡ two.accounts → n ≡ length (merged ps qs)) where
  -- the answer is the merged list's
  answered : (a : Result Handed) → ((ps : List Position) → n ≡ length ps → T ≡ total (shorts_of ps) → a ≡ handed (first (merged_rows ps accountsRoom shortsRoom) ps))
      → a ≡ handed (judged_merged one two accountsRoom shortsRoom)
  unfolding judged_merged
  answered a judged =
      judged (merged_of one two)
      (counted (positions one) (positions two) (paired-accounts one.accounts one.shorts b.bounded_one.even) (paired-accounts two.accounts two.shorts b.bounded_two.even))
      (b.sum ∙ sym (whole-total one two b.bounded_one b.bounded_two))

  -- where it is a merged list, that fits the outputs
  fits : (h : Handed) → ((ps : List Position) → n ≡ length ps → T ≡ total (shorts_of ps) → value h ≡ handed (first (merged_rows ps accountsRoom shortsRoom) ps)) → Passed one two accountsRoom shortsRoom
  fits h judged =
      let from = handed-from (judged_merged one two accountsRoom shortsRoom) h (sym (answered (value h) judged)) in
      passed one two accountsRoom shortsRoom from.from from.step

pub returns-in_err-merged : goal.returns-in_err-merged
returns-in_err-merged c =
    let is = answered c.requires (length c.args.accounts.now) (length c.args.shorts.now) _ c.count_merged-positions.ensures _ c.in_err-merged.ensures in
    rw (refusal_met c.from_residual.result _ c.from_residual.ensures.1) (record { answered = is; written = refused_kept _ _ c.args.accounts.now c.args.shorts.now (sym is) })

pub write_merged-requires : goal.write_merged-requires
write_merged-requires c =
    let fit = fits c.requires (length c.args.accounts.now) (length c.args.shorts.now) _ c.count_merged-positions.ensures _ c.in_ok-merged.ensures in
    record {
      bounded_one = c.requires.bounded_one;
      bounded_two = c.requires.bounded_two;
      accounts_room = fit.accounts_fit;
      shorts_room = fit.shorts_fit;
    }

pub returns : goal.returns
returns c =
    let fit = fits c.requires (length c.args.accounts.now) (length c.args.shorts.now) _ c.count_merged-positions.ensures _ c.in_ok-merged.ensures in
    record {
      answered = answered c.requires (length c.args.accounts.now) (length c.args.shorts.now) _ c.count_merged-positions.ensures _ c.in_ok-merged.ensures;
      written = subst (λ r. ListsMerged r (lent c.args.accounts.now c.write_merged.new.accounts) (lent c.args.shorts.now c.write_merged.new.shorts))
          (sym fit.comes_to_is) c.write_merged.ensures;
    }
