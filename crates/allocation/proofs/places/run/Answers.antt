-- `run` meets its contract: within a position, or a walk to the end of the list and, where contracts are left, one from the top.
use Rattle.std.proofs.Common.{arith}
use Rattle.allocation.proofs.RunLaws.{ends_inside, ends_here, grown_here, stands_part, stands_top, top_inside, assigned_part, assigned_top, small_grown}
use Rattle.allocation.proofs.PartLaws.{first_rest, small_rest, small_top, ends_rest, past_rest, grown_rest}
use Rattle.allocation.proofs.StretchLaws.{flag_on, on_flag}
use Rattle.allocation.proofs.places.run.Goals as goal
use Rattle.allocation.proofs.places.run.Goals.{then-this-ne0, else-this-ne0}

pub overflow_add-amounts : goal.overflow_add-amounts
overflow_add-amounts g c =
    let small = c.requires.small (flag_on _ c.if-this-ne0.true) in
    omega (arith, small.amounts c.args.cursor.at c.requires.ahead.on.position, small.list, c.requires.ahead.most)

pub overflow_add-result : goal.overflow_add-result
overflow_add-result g c = omega (arith, c.type_inv.shorts c.args.cursor.at)

pub returns-then-count-shorts : goal.returns-then-count-shorts
returns-then-count-shorts g c =
    let ends = ends_here _ _ _ c.requires.ahead.on c.if-count-shorts.true in
    record {
      stands = stands_part _ _ _ c.requires.ahead _ ends;
      assigned = λ e. assigned_part _ _ _ _ c.requires.ahead _ _ ends (elim c.if-this-ne0.branch [
        | then-this-ne0 w ↦ rw w.amounts-is (grown_here _ _ _ c.requires.ahead.on c.if-count-shorts.true _ (omega (arith, (c.requires.small e).lengths, c.requires.ahead.on.position)))
        | else-this-ne0 w ↦ absurd (on_flag g.row.ASSIGNS e w.if-this-ne0.false)
      ]);
    }

pub walk-requires-clause-passed : goal.walk-requires-clause-passed
walk-requires-clause-passed g c = first_rest c.args.shorts.now c.args.cursor.at c.args.cursor.passed.0 (omega (arith, c.requires.ahead.on.contract))

pub walk-requires-clause-small : goal.walk-requires-clause-small
walk-requires-clause-small g c = λ e. small_rest _ _ _ _ _ _ (c.requires.small e) (omega arith) (omega (arith, c.requires.ahead.on.position)) c.min-start.ensures

pub walk-requires-in-Err-clause-small : goal.walk-requires-in-Err-clause-small
walk-requires-in-Err-clause-small g c = λ e.
    let small = c.requires.small e in
    small_top _ _ _ _ _ (small_grown _ _ _ _ _ _ small (grown_rest _ _ _ _ _ _ c.requires.ahead.on small.lengths c.min-start.ensures (c.in-Err.ensures.grown e))) (omega (arith, c.requires.ahead.on.position)) c.min-end.ensures

pub unwrap-requires : goal.unwrap-requires
unwrap-requires g c = ends_inside _ _ _ (top_inside _ _ _ c.requires.ahead _ (past_rest _ _ _ _ _ c.in-Err.ensures.ends)) c.walk-in-Err.ensures.ends

pub returns-in-Ok : goal.returns-in-Ok
returns-in-Ok g c =
    let ends = ends_rest _ _ _ _ _ c.in-Ok.ensures.ends in
    record {
      stands = stands_part _ _ _ c.requires.ahead _ ends;
      assigned = λ e. assigned_part _ _ _ _ c.requires.ahead _ _ ends (grown_rest _ _ _ _ _ _ c.requires.ahead.on (c.requires.small e).lengths c.min-start.ensures (c.in-Ok.ensures.grown e));
    }

pub returns-in-Err : goal.returns-in-Err
returns-in-Err g c =
    let ends = past_rest _ _ _ _ _ c.in-Err.ensures.ends in
    record {
      stands = stands_top _ _ _ c.requires.ahead _ _ ends (rw c.unwrap.ensures at c.walk-in-Err.ensures.ends);
      assigned = λ e.
          let room = (c.requires.small e).lengths in
          assigned_top _ _ _ _ c.requires.ahead _ _ _ _ ends room (grown_rest _ _ _ _ _ _ c.requires.ahead.on room c.min-start.ensures (c.in-Err.ensures.grown e)) c.min-end.ensures (c.walk-in-Err.ensures.grown e);
    }
