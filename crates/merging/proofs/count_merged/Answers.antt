-- A turn of the loop passes a position of the merged list, whatever the shorts; where one list is passed, all of the other is left.
use Rattle.std.proofs.Common.{◌≡◌, ℕ, ◌+◌, ◌-◌, ◌≤◌, ◌<◌, List, length, get_or, ◌⊎◌, inl, inr, ⊎_elim, sym, ap₂, ◌∙◌, arith}
use Rattle.merging.specs.Merging.{Position, accounts_of, added, merged}
use Rattle.merging.proofs.WalkLaws.{none, Walked, walked_start, account-at, accounts-long, Step, step_first, step_second, step_both, walked_next, walked_count}
use Rattle.merging.proofs.count_merged.Goals as goal
use Rattle.merging.proofs.count_merged.Goals.{then-loop-i-test+else-j-second, else-loop-i-test}

module _ (first second : List ℕ) (i j n : ℕ) (walked : (ps qs : List Position) → accounts_of ps ≡ first → accounts_of qs ≡ second → Walked ps qs i j n) where
  -- a turn: the step that the next accounts of both lists tell, for all positions with these accounts
  turn : i < length first → j < length second → (k l : ℕ)
      → ((ps qs : List Position) → i < length ps → j < length qs → get_or first i 0 ≡ (get_or ps i none).account → get_or second j 0 ≡ (get_or qs j none).account → (m : Position) × Step ps qs i j k l m)
      → (ps qs : List Position) → accounts_of ps ≡ first → accounts_of qs ≡ second → Walked ps qs k l (n + 1)
  turn has also k l step ps qs e f =
      let s = step ps qs (omega (arith, accounts-long ps first e)) (omega (arith, accounts-long qs second f)) (account-at ps first i e) (account-at qs second j f) in
      walked_next ps qs i j n (walked ps qs e f) k l s.0 s.1

  -- where one list is passed
  all_counted : (length first ≤ i) ⊎ (length second ≤ j) → (ps qs : List Position) → accounts_of ps ≡ first → accounts_of qs ≡ second
      → n + (length first - i) + (length second - j) ≡ length (merged ps qs)
  all_counted ended ps qs e f =
      let long = accounts-long ps first e in
      let long2 = accounts-long qs second f in
      let end : (length ps ≤ i) ⊎ (length qs ≤ j) = ⊎_elim (λ h. inl (omega arith)) (λ h. inr (omega arith)) ended in
      ap₂ (λ x y. n + (x - i) + (y - j)) (sym long) (sym long2) ∙ walked_count ps qs i j n (walked ps qs e f) end

pub loop-i-init : goal.loop-i-init
loop-i-init c = record { on_first = omega arith; on_second = omega arith; few = omega arith; walked = λ ps qs e f. walked_start ps qs }

pub loop-i-preserved-then-account-other : goal.loop-i-preserved-then-account-other
loop-i-preserved-then-account-other c = record {
  on_first = omega arith;
  on_second = omega arith;
  few = omega arith;
  walked = turn c.args.first.now c.args.second.now c.loop-i.i c.loop-i.j c.loop-i.n c.loop-i.invariant.walked c.loop-i-test.true c.if-j-second.true (c.loop-i.i + 1) c.loop-i.j
      (λ ps qs h k e f. (get_or ps c.loop-i.i none, step_first ps qs c.loop-i.i c.loop-i.j h k (omega (arith, c.if-account-other.true))));
}

pub loop-i-preserved-then-other-account : goal.loop-i-preserved-then-other-account
loop-i-preserved-then-other-account c = record {
  on_first = omega arith;
  on_second = omega arith;
  few = omega arith;
  walked = turn c.args.first.now c.args.second.now c.loop-i.i c.loop-i.j c.loop-i.n c.loop-i.invariant.walked c.loop-i-test.true c.if-j-second.true c.loop-i.i (c.loop-i.j + 1)
      (λ ps qs h k e f. (get_or qs c.loop-i.j none, step_second ps qs c.loop-i.i c.loop-i.j h k (omega (arith, c.if-other-account.true))));
}

pub loop-i-preserved : goal.loop-i-preserved
loop-i-preserved c = record {
  on_first = omega arith;
  on_second = omega arith;
  few = omega arith;
  walked = turn c.args.first.now c.args.second.now c.loop-i.i c.loop-i.j c.loop-i.n c.loop-i.invariant.walked c.loop-i-test.true c.if-j-second.true (c.loop-i.i + 1) (c.loop-i.j + 1)
      (λ ps qs h k e f. (added (get_or ps c.loop-i.i none) (get_or qs c.loop-i.j none), step_both ps qs c.loop-i.i c.loop-i.j h k (omega (arith, c.if-other-account.false, c.if-account-other.false))));
}

pub returns : goal.returns
returns c =
    let ended : (length c.args.first.now ≤ c.loop-i.i) ⊎ (length c.args.second.now ≤ c.loop-i.j) = elim c.loop-i-test.branch [
      | then-loop-i-test+else-j-second w ↦ inr w.if-j-second.false
      | else-loop-i-test w ↦ inl w.loop-i-test.false
    ]
    in
    all_counted c.args.first.now c.args.second.now c.loop-i.i c.loop-i.j c.loop-i.n c.loop-i.invariant.walked ended
