-- `merge` meets its contract: a refusal of one of the lists stands, else the judged lists are merged.
use mathlib.Core.Path.{sym, subst}
use lib.ListN.{length}
use Rattle.series.proofs.ResultLaws.{refusal_met}
use Rattle.series.specs.Outputs.{lent}
use Rattle.merging.specs.Merging.{account_list_of, merging_of, Merges}
use Rattle.merging.proofs.CallLaws.{merges_refused, call_refused, call_judged, both_bounded}
use Rattle.merging.proofs.merge.Goals as goal

pub returns-in_err-total : goal.returns-in_err-total
returns-in_err-total c =
    rw (refusal_met c.from_residual.result _ c.from_residual.ensures.1) (merges_refused _ _ c.args.accounts.now c.args.shorts.now (call_refused (account_list_of c.args.first.now) (account_list_of c.args.second.now) (length c.args.accounts.now) (length c.args.shorts.now) _ (sym c.in_err-total.ensures)))

pub merge_judged-requires : goal.merge_judged-requires
merge_judged-requires c = both_bounded (account_list_of c.args.first.now) (account_list_of c.args.second.now) _ (sym c.in_ok-total.ensures)

pub returns : goal.returns
returns c =
    subst (λ r. Merges r (merging_of c.merge_judged.result) (lent c.args.accounts.now c.merge_judged.new.accounts) (lent c.args.shorts.now c.merge_judged.new.shorts))
    (sym (call_judged (account_list_of c.args.first.now) (account_list_of c.args.second.now) (length c.args.accounts.now) (length c.args.shorts.now) _ (sym c.in_ok-total.ensures)))
    c.merge_judged.ensures
