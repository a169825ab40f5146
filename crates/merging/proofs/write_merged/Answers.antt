-- A turn of the loop writes a position of the merged list, and has room for it; then both calls write what is left of the lists.
use Rattle.std.proofs.Common.{◌≤◌, length, ◌⊎◌, inl, inr, arith}
use Rattle.merging.proofs.WriteLaws.{on-lists, has_room, writes-first, writes-second, writes-both, sum-small, first_fits, second_fits, all_written}
use Rattle.merging.proofs.write_merged.Goals as goal
use Rattle.merging.proofs.write_merged.Goals.{then-loop-i-test+else-j-second, else-loop-i-test}

pub bounds-accounts-at : goal.bounds-accounts-at
bounds-accounts-at c = (has_room c.requires c.loop-i.invariant c.loop-i-test.true c.if-j-second.true).0

pub bounds-shorts-at : goal.bounds-shorts-at
bounds-shorts-at c = (has_room c.requires c.loop-i.invariant c.loop-i-test.true c.if-j-second.true).1

pub bounds-accounts-at-then-other-account : goal.bounds-accounts-at-then-other-account
bounds-accounts-at-then-other-account c = (has_room c.requires c.loop-i.invariant c.loop-i-test.true c.if-j-second.true).0

pub bounds-shorts-at-then-other-account : goal.bounds-shorts-at-then-other-account
bounds-shorts-at-then-other-account c = (has_room c.requires c.loop-i.invariant c.loop-i-test.true c.if-j-second.true).1

pub bounds-accounts-at-else-other-account : goal.bounds-accounts-at-else-other-account
bounds-accounts-at-else-other-account c = (has_room c.requires c.loop-i.invariant c.loop-i-test.true c.if-j-second.true).0

pub bounds-shorts-at-else-other-account : goal.bounds-shorts-at-else-other-account
bounds-shorts-at-else-other-account c = (has_room c.requires c.loop-i.invariant c.loop-i-test.true c.if-j-second.true).1

pub overflow_add-shorts : goal.overflow_add-shorts
overflow_add-shorts c = omega (arith, sum-small c.requires c.loop-i.invariant c.loop-i-test.true c.if-j-second.true)

pub loop-i-preserved-then-account-other : goal.loop-i-preserved-then-account-other
loop-i-preserved-then-account-other c = writes-first c.requires c.loop-i.invariant c.loop-i-test.true c.if-j-second.true c.if-account-other.true

pub loop-i-preserved-then-other-account : goal.loop-i-preserved-then-other-account
loop-i-preserved-then-other-account c = writes-second c.requires c.loop-i.invariant c.loop-i-test.true c.if-j-second.true c.if-other-account.true

pub loop-i-preserved : goal.loop-i-preserved
loop-i-preserved c = writes-both c.requires c.loop-i.invariant c.loop-i-test.true c.if-j-second.true (omega (arith, c.if-other-account.false, c.if-account-other.false))

pub overflow_sub-next : goal.overflow_sub-next
overflow_sub-next c = (on-lists c.requires c.loop-i.invariant).0

pub put_rest-requires : goal.put_rest-requires
put_rest-requires c =
    let ended : (length c.args.first.now.accounts.now ≤ c.loop-i.i) ⊎ (length c.args.second.now.accounts.now ≤ c.loop-i.j) = elim c.loop-i-test.branch [
      | then-loop-i-test+else-j-second w ↦ inr w.if-j-second.false
      | else-loop-i-test w ↦ inl w.loop-i-test.false
    ]
    in
    first_fits c.requires c.loop-i.invariant ended

pub put_rest-requires-2 : goal.put_rest-requires-2
put_rest-requires-2 c =
    let ended : (length c.args.first.now.accounts.now ≤ c.loop-i.i) ⊎ (length c.args.second.now.accounts.now ≤ c.loop-i.j) = elim c.loop-i-test.branch [
      | then-loop-i-test+else-j-second w ↦ inr w.if-j-second.false
      | else-loop-i-test w ↦ inl w.loop-i-test.false
    ]
    in
    second_fits c.requires c.loop-i.invariant ended
    c.put_rest.new.accounts c.put_rest.new.shorts c.put_rest.ensures

pub returns : goal.returns
returns c =
    let ended : (length c.args.first.now.accounts.now ≤ c.loop-i.i) ⊎ (length c.args.second.now.accounts.now ≤ c.loop-i.j) = elim c.loop-i-test.branch [
      | then-loop-i-test+else-j-second w ↦ inr w.if-j-second.false
      | else-loop-i-test w ↦ inl w.loop-i-test.false
    ]
    in
    all_written c.requires c.loop-i.invariant ended
    c.put_rest.new.accounts c.put_rest.new.shorts c.put_rest.ensures c.put_rest-2.new.accounts c.put_rest-2.new.shorts c.put_rest-2.ensures
