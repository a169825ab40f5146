-- What the call's promise alone tells of an answer that is no refusal: the list that stands in the outputs, handed on to a call.
use Prim.Native.Nat.{ℕ, ◌+◌, ◌≤◌}
use mathlib.Core.Path.{◌≡◌, refl, sym, ap, ap₂, subst, ◌∙◌}
use mathlib.Core.List.{List, ◌++◌, map}
use native.Mathlib.Omega.{arith}
use lib.ListN.{length, take, drop, length-map}
use lib.Seq.{take_at, drop_at}
use borrow.Author.Tests.{ltb-false}
use Rattle.series.specs.Results.{Result, value, ◌>>=◌, after}
use Rattle.series.specs.Outputs.{onto, Lent}
use Rattle.series.specs.Places.{total}
use Rattle.series.specs.Series.{MOST_POSITIONS, MOST_CONTRACTS, ordered_by}
use Rattle.series.specs.Refusals.{NoneApplies, list_verdict}
use Rattle.series.specs.declared.Method.{Method}
use Rattle.series.proofs.ResultLaws.{value_is, stepped}
use Rattle.series.proofs.RowLaws.{value_passed}
use Rattle.merging.specs.Merging.{Position, PositionList, list_of, paired, positions, accounts_of, shorts_of, judged_alone, merged_rows, judged_merged, merge_into, Handed, handed, MergingCall, merged_of}
use Rattle.merging.proofs.MergeLaws.{Between, held_by, merged-held, only_list, either_order}
use Rattle.merging.proofs.JudgeLaws.{faultless}
use Rattle.merging.proofs.WalkLaws.{paired-accounts, paired-shorts, paired_back}
use Rattle.merging.proofs.CallLaws.{whole-total, handed-from, passed}
use Rattle.merging.proofs.ListLaws.{faultless_rises, whole_rises, whole_length, whole_sum, whole_accepted}

-- what a call that is not refused found: both lists without a fault, and a merged list that is not too long
record Found (one two : PositionList) (accountsRoom shortsRoom : ℕ) : Type 0 where
  first_total : ℕ
  second_total : ℕ
  first_is : judged_alone one ≡ value first_total
  second_is : judged_alone two ≡ value second_total
  few : length (merged_of one two) ≤ MOST_POSITIONS
  small : total (shorts_of (merged_of one two)) ≤ MOST_CONTRACTS
  comes_to_is : merge_into one two accountsRoom shortsRoom ≡ value (merged_of one two)

found : (one two : PositionList) (accountsRoom shortsRoom : ℕ) (ms : List Position) → merge_into one two accountsRoom shortsRoom ≡ value ms → Found one two accountsRoom shortsRoom
unfolding merge_into judged_merged merged_rows NoneApplies
found one two accountsRoom shortsRoom ms e =
    let s = stepped (judged_alone one) (λ T. judged_alone two >>= (λ U. judged_merged one two accountsRoom shortsRoom)) ms e in
    let t = stepped (judged_alone two) (λ U. judged_merged one two accountsRoom shortsRoom) ms s.on in
    let none = value_passed (merged_rows (merged_of one two) accountsRoom shortsRoom) (merged_of one two) ms t.on in
    record {
      first_total = s.from;
      second_total = t.from;
      first_is = s.step;
      second_is = t.step;
      few = ltb-false _ _ none.0;
      small = ltb-false _ _ none.1.0;
      comes_to_is = rw (s.step, t.step) (passed one two accountsRoom shortsRoom ms t.on).comes_to_is;
    }

module _ (one two : PositionList) (h : Handed) (accounts shorts : Lent (List ℕ)) (c : MergingCall one two (value h) accounts shorts) where
  abbrev outcome : Result (List Position)
  outcome = merge_into one two (length accounts.old) (length shorts.old)

  abbrev ms : List Position
  ms = merged_of one two

  f : Found one two (length accounts.old) (length shorts.old)
  f = let from = handed-from outcome h (sym c.answered) in found one two (length accounts.old) (length shorts.old) from.from from.step

  -- what is handed back is the merged list's
  hands : h ≡ record { positions = length ms; total = total (shorts_of ms) }
  unfolding handed
  hands = value_is (c.answered ∙ ap handed f.comes_to_is)

  -- the list that stands in the outputs
  abbrev pub out : PositionList
  out = list_of (take h.positions accounts.new) (take h.positions shorts.new)

  -- an output: the merged list's numbers, and past them what stood there
  written : (g : Position → ℕ) (l : Lent (List ℕ)) → l.new ≡ after outcome (λ ps. onto (map g ps) l.old) l.old → (take h.positions l.new ≡ map g ms) × (drop h.positions l.new ≡ drop h.positions l.old)
  unfolding onto
  written g l e =
      let long : length (map g ms) ≡ h.positions = length-map ms g ∙ sym (ap (λ x. x.positions) hands) in
      let is : l.new ≡ map g ms ++ drop (length (map g ms)) l.old = e ∙ ap (λ r. after r (λ ps. onto (map g ps) l.old) l.old) f.comes_to_is in (
        ap (take h.positions) is ∙ take_at (map g ms) (drop (length (map g ms)) l.old) h.positions long,
        ap (drop h.positions) is ∙ drop_at (map g ms) (drop (length (map g ms)) l.old) h.positions long ∙ ap (λ n. drop n l.old) long,
      )

  -- elements past the merged list are kept
  pub call_kept : (drop h.positions accounts.new ≡ drop h.positions accounts.old) × (drop h.positions shorts.new ≡ drop h.positions shorts.old)
  call_kept = ((written (λ p. p.account) accounts c.written.writes_accounts).1, (written (λ p. p.shorts) shorts c.written.writes_shorts).1)

  out_accounts : out.accounts ≡ accounts_of ms
  out_accounts = (written (λ p. p.account) accounts c.written.writes_accounts).0

  out_shorts : out.shorts ≡ shorts_of ms
  out_shorts = (written (λ p. p.shorts) shorts c.written.writes_shorts).0

  out_is : positions out ≡ ms
  out_is = ap₂ paired out_accounts out_shorts ∙ paired_back ms

  -- T is the sum of both lists'
  pub call_total : h.total ≡ total one.shorts + total two.shorts
  call_total = ap (λ x. x.total) hands ∙ whole-total one two (faultless one _ f.first_is).bounded (faultless two _ f.second_is).bounded

  -- the number of positions lies between that of the longer list and the sum of both
  pub call_length : Between (length one.accounts) (length two.accounts) h.positions
  call_length = subst (Between (length one.accounts) (length two.accounts)) (sym (ap (λ x. x.positions) hands)) (whole_length one two _ _ f.first_is f.second_is)

  -- every account has what both lists have together
  pub call_held : (a : ℕ) → held_by a (positions out) ≡ held_by a (positions one) + held_by a (positions two)
  call_held a = ap (held_by a) out_is ∙ merged-held a (positions one) (positions two)

  -- the list meets no refusal of a list: under P, L and R, and under W where its codes are its accounts
  pub call_accepted : (m : Method) (codes : List ℕ) → ordered_by m codes out.accounts ≡ out.accounts → list_verdict m codes out.accounts out.shorts ≡ value h.total
  call_accepted m codes e =
      let sum = whole_sum one two _ _ f.first_is f.second_is in
      ap₂ (list_verdict m codes) out_accounts out_shorts
      ∙ whole_accepted one two _ _ f.first_is f.second_is f.few (omega (arith, f.small)) m codes (ap (ordered_by m codes) (sym out_accounts) ∙ e ∙ out_accounts)
      ∙ ap value (sym sum ∙ sym (ap (λ x. x.total) hands))

  -- any list without a fault in which every account has as much is this one
  pub call_only : (l : PositionList) (T : ℕ) → judged_alone l ≡ value T → ((a : ℕ) → held_by a (positions l) ≡ held_by a (positions one) + held_by a (positions two)) → l ≡ out
  call_only l T e same =
      let even = (faultless l T e).bounded.even in
      let is : positions l ≡ ms = only_list (positions l) ms 0 (faultless_rises l T e) (whole_rises one two _ _ f.first_is f.second_is) (λ a. same a ∙ sym (merged-held a (positions one) (positions two))) in
      ap₂ list_of
      (sym (paired-accounts l.accounts l.shorts even) ∙ ap accounts_of is ∙ sym out_accounts)
      (sym (paired-shorts l.accounts l.shorts even) ∙ ap shorts_of is ∙ sym out_shorts)

-- where neither list has a fault, the order of the two does not matter: answer and outputs are the same
pub either_way : (one two : PositionList) (T U accountsRoom shortsRoom : ℕ) → judged_alone one ≡ value T → judged_alone two ≡ value U → merge_into one two accountsRoom shortsRoom ≡ merge_into two one accountsRoom shortsRoom
unfolding merge_into judged_merged
either_way one two T U accountsRoom shortsRoom e g =
    let same : merged_of one two ≡ merged_of two one = either_order (positions one) (positions two) 0 (faultless_rises one T e) (faultless_rises two U g) in
    rw (e, g, same) refl
