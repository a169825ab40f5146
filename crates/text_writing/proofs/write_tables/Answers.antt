-- `write_tables` meets its contract: two tables are judged, measured, and put one after the other.
use native.Mathlib.Omega.{arith}
use Rattle.series.proofs.ResultLaws.{refusal_met}
use Rattle.text_writing.proofs.WriteLaws.{first_refused, second_refused, tables_short, both_fit, tables_put}
use Rattle.text_writing.proofs.write_tables.Goals as goal

pub returns-in_err-first : goal.returns-in_err-first
returns-in_err-first c =
    rw (refusal_met c.from_residual.result _ c.from_residual.ensures.1) (first_refused _ _ _ _ c.args.text.now c.in_err-first.ensures.judged)

pub returns-in_err-second : goal.returns-in_err-second
returns-in_err-second c =
    rw (refusal_met c.from_residual-in_err-second.result _ c.from_residual-in_err-second.ensures.1) (second_refused _ _ _ _ c.args.text.now c.in_ok-first.ensures.judged c.in_err-second.ensures.judged)

pub returns-in_err-both_within : goal.returns-in_err-both_within
returns-in_err-both_within c =
    let short = rw (c.length.ensures, c.length-2.ensures) at c.in_err-both_within.ensures in
    rw (refusal_met c.from_residual-in_err-both_within.result _ c.from_residual-in_err-both_within.ensures.1) (tables_short _ _ _ _ c.args.text.now c.in_ok-first.ensures.judged c.in_ok-second.ensures.judged short)

pub put-at-requires : goal.put-at-requires
put-at-requires c = omega (arith, both_fit _ _ _ _ c.in_ok-both_within.ensures, c.length.ensures)

pub put-requires : goal.put-requires
put-requires c = omega (arith, both_fit _ _ _ _ c.in_ok-both_within.ensures, c.length.ensures, c.length-2.ensures, c.put-at.ensures.after)

pub returns : goal.returns
returns c =
    let fit = rw (c.length.ensures, c.length-2.ensures) at (both_fit _ _ _ _ c.in_ok-both_within.ensures) in
    tables_put _ _ _ _ c.args.text.now c.in_ok-first.ensures.judged c.in_ok-second.ensures.judged fit c.put-at.ensures c.put.ensures
