-- SUB-ACCOUNTS CHANGE NOTHING FOR OTHERS, under W, L and R. The laws have no direction: they hold as well of sub-accounts that are put together.
use Prim.Native.Nat.{ℕ, ◌*◌, ◌<◌}
use mathlib.Core.Path.{◌≡◌, refl, sym, ap, ◌∙◌}
use mathlib.Core.Bool.{Bool, true, false, cond}
use mathlib.Core.Option.{some}
use mathlib.Core.List.{List, [], ◌∷◌}
use native.Mathlib.Omega.{arith}
use lib.Dec.{eqb}
use lib.ListN.{length, get_or, take, drop}
use lib.Seq.{take_at}
use borrow.Author.Tests.{eq-eqb}
use Rattle.series.specs.Results.{value}
use Rattle.series.specs.Outputs.{onto}
use Rattle.series.specs.Places.{total, amounts, run, OnWheel, over_places}
use Rattle.series.specs.Series.{Series, method, exercised, draw, increment, held, by_method, order}
use Rattle.series.specs.Wheel.{wheel_marks, wheel, blocks_used}
use Rattle.series.specs.Lottery.{starting_place, lottery, unstarted, lottery_amounts}
use Rattle.series.specs.RemainderDraw.{remainder_place}
use Rattle.series.specs.Refusals.{Row, first, NoneApplies, undrawn, draw_rows, then_draw_rows, terms_rows, list_rows, rows, verdict, Accepted}
use Rattle.series.specs.Answers.{Allocation}
use Rattle.series.specs.Call.{assigned, further, answer, output}
use Rattle.series.specs.Fair.{AllocatingCall}
use Rattle.series.specs.SubAccounts.{by_places, Split, OthersKeep, SplitAtOnce}
use Rattle.series.specs.declared.Method.{Method}
use Rattle.series.specs.declared.Terms.{Terms}
use Rattle.series.proofs.ResultLaws.{value_is, stepped}
use Rattle.series.proofs.RowLaws.{first-append, passed_value}
use Rattle.series.proofs.PlaceLaws.{over_cong}
use Rattle.series.proofs.CallLaws.{verdict-total}
use Rattle.series.proofs.WheelLaws.{wheel-whole}
use Rattle.series.proofs.LotteryLaws.{one_element, lottery_amounts_lem, unstarted_any, used}
use Rattle.series.proofs.SplitLaws.{split-within, split-total, others_keep, split-amounts, at_once_total, at_once_amounts}
use Rattle.series.proofs.AcceptedLaws.{accepted_facts, verdict_accepted}
use Rattle.series.proofs.Demand3.{wheel_shares, lottery_shares, length-assigned, Drawn, lottery_drawn, remainder_drawn, assigned-fair}

not_pro_rata : (t : Terms) → by_places t.method ≡ true → t.method ≡ Method.ProRata → ⊥
not_pro_rata t rule e = let none : false ≡ true = rw e at rule in let z : ◌≡◌ {A = ℕ} 0 1 = cc in omega arith

-- two lists with one total whose shorts stand in a relation, as do their amounts, whatever is marked
module _ (R : List ℕ → List ℕ → Type 0) (hs us : List ℕ) (same : total us ≡ total hs) (shorts : R hs us) (marks : (ms : List ℕ) → R (amounts hs ms) (amounts us ms)) where
  -- then those of the wheel do
  wheel_related : (I S p : ℕ) → R (wheel I hs S p) (wheel I us S p)
  unfolding wheel
  wheel_related I S p = rw same (by_cases (eqb S (total hs)))
    where
      by_cases : (whole : Bool) → R (cond whole hs (amounts hs (wheel_marks I (total hs) S p))) (cond whole us (amounts us (wheel_marks I (total hs) S p)))
      by_cases true = shorts
      by_cases false = marks (wheel_marks I (total hs) S p)

  -- so do those of the run from a place
  from_place : (S p : ℕ) → OnWheel (total hs) p → R (lottery_amounts hs S p) (lottery_amounts us S p)
  unfolding lottery
  from_place S p on =
      rw (lottery_amounts_lem hs S p on, lottery_amounts_lem us S p (rw same on), same) (marks (run (total hs) S p))

  -- and from any number, if it is a place where one of the lists needs a starting place
  run_related : (S p : ℕ) → 0 < total hs → (unstarted (total hs) (length hs) S ≡ false → OnWheel (total hs) p) → (unstarted (total hs) (length us) S ≡ false → OnWheel (total hs) p) → R (lottery_amounts hs S p) (lottery_amounts us S p)
  run_related S p above drawn drawn' = by_cases (unstarted (total hs) (length hs) S) (unstarted (total hs) (length us) S) refl refl
    where
      by_cases : (u w : Bool) → unstarted (total hs) (length hs) S ≡ u → unstarted (total hs) (length us) S ≡ w → R (lottery_amounts hs S p) (lottery_amounts us S p)
      by_cases false w e f = from_place S p (drawn e)
      by_cases true false e f = from_place S p (drawn' f)
      by_cases true true e f =
          rw (unstarted_any hs S e p 1, unstarted_any us S (rw same f) p 1) (from_place S 1 (record { low = omega arith; high = above }))

-- two series with equal terms, by a method with the rule, neither refused
module _ (s r : Series) (room more T U : ℕ) (v : verdict s room ≡ value T) (w : verdict r more ≡ value U) (terms : r.terms ≡ s.terms) (rule : by_places (method s) ≡ true) where
  some-total : 0 < held s
  some-total = (accepted_facts s room (verdict_accepted s room T v)).total_some

  module _ (R : List ℕ → List ℕ → Type 0) (same : held r ≡ held s) (shorts : R s.shorts r.shorts) (marks : (ms : List ℕ) → R (amounts s.shorts ms) (amounts r.shorts ms)) where
    -- by L or R, p being where they start by T and the draw
    started : (p : ℕ → ℕ → ℕ) → Drawn s room T v (p (held s) (draw s)) → Drawn r more U w (p (held r) (draw r)) → R (lottery_amounts s.shorts (exercised s) (p (held s) (draw s))) (lottery_amounts r.shorts (exercised s) (p (held r) (draw s)))
    started p drawn drawn' =
        rw same (run_related R s.shorts r.shorts same shorts marks (exercised s) (p (held s) (draw s)) some-total drawn (rw (terms, same) at drawn'))

    assigned_related : R (assigned s.terms s.shorts) (assigned r.terms r.shorts)
    unfolding assigned
    assigned_related = rw terms (by_cases (method s) refl)
      where
        by_cases : (m : Method) → method s ≡ m → R (assigned s.terms s.shorts) (assigned s.terms r.shorts)
        by_cases Method.Wheel e = rw e (wheel_related R s.shorts r.shorts same shorts marks _ _ _)
        by_cases Method.ProRata e = absurd (not_pro_rata s.terms rule e)
        by_cases Method.Lottery e = rw e (started starting_place (lottery_drawn s room T v e) (lottery_drawn r more U w (ap (λ t. t.method) terms ∙ e)))
        by_cases Method.RemainderDraw e = rw e (started remainder_place (remainder_drawn s room T v) (remainder_drawn r more U w))

  -- one position split: so are the amounts
  pub amounts-split : (n m : ℕ) → Split n m s.shorts r.shorts → Split n m (assigned s.terms s.shorts) (assigned r.terms r.shorts)
  amounts-split n m split =
      assigned_related (Split n m) (split-total n m s.shorts r.shorts split) split (λ ms. split-amounts n m s.shorts r.shorts ms split)

  -- every other position keeps its amount, and the new ones together get what the old one got
  pub nothing_for_others : (n m : ℕ) → Split n m s.shorts r.shorts → OthersKeep n m (assigned s.terms s.shorts) (assigned r.terms r.shorts)
  nothing_for_others n m split = others_keep n m (assigned s.terms s.shorts) (assigned r.terms r.shorts) (amounts-split n m split)

  -- any number of positions split at once: so are the amounts
  pub amounts_split_at_once : (ns : List ℕ) → SplitAtOnce ns s.shorts r.shorts → SplitAtOnce ns (assigned s.terms s.shorts) (assigned r.terms r.shorts)
  amounts_split_at_once ns split =
      assigned_related (SplitAtOnce ns) (at_once_total ns s.shorts r.shorts split) split (λ ms. at_once_amounts ns s.shorts r.shorts ms split)

-- ---- the calls

-- what an allocation wrote: its verdict is a value, and the output begins with the amounts
record Wrote (s : Series) (a : Allocation) (room : ℕ) (new : List ℕ) : Type 0 where
  judged : verdict s room ≡ value (held s)
  handed : a ≡ record { method = method s; total = held s; further = further s.terms s.shorts }
  written : take (length s.shorts) new ≡ assigned s.terms s.shorts

wrote : (s : Series) (a : Allocation) (old new : List ℕ) → AllocatingCall s (value a) old new → Wrote s a (length old) new
unfolding answer output onto
wrote s a old new call =
    let step = stepped (verdict s (length old)) _ a (sym call.answered) in
    let T = verdict-total s (length old) step.from step.step in
    record {
      judged = step.step ∙ ap value (sym T);
      handed = sym (value_is step.on) ∙ ap (λ n. record { method = method s; total = n; further = further s.terms s.shorts }) (sym T);
      written =
          let vs : List ℕ = assigned s.terms s.shorts in
          rw (call.written, step.step) (take_at vs (drop (length vs) old) (length s.shorts) (length-assigned s.terms s.shorts));
    }

-- the further number of W, L and R, where one is handed back, by T alone
abbrev further_at : Terms → ℕ → ℕ
further_at t T = by_method t.method (blocks_used t.increment.0 T t.exercised.0) 0 (starting_place T t.draw) (remainder_place T t.draw)

further_is : (t : Terms) (hs : List ℕ) (x : ℕ) → by_places t.method ≡ true → further t hs ≡ some x → x ≡ further_at t (total hs)
unfolding further
further_is t hs x rule h = by_cases t.method refl
  where
    by_cases : (m : Method) → t.method ≡ m → x ≡ further_at t (total hs)
    by_cases Method.Wheel e = let k = rw e at h in rw e cc
    by_cases Method.ProRata e = absurd (not_pro_rata t rule e)
    by_cases Method.Lottery e = rw e (used hs t.exercised.0 (starting_place (total hs) t.draw) x (rw e at h)).1
    by_cases Method.RemainderDraw e = rw e (used hs t.exercised.0 (remainder_place (total hs) t.draw) x (rw e at h)).1

-- two calls that allocate, with equal terms, by a method with the rule
module _ (s r : Series) (a b : Allocation) (old new old' new' : List ℕ) (call : AllocatingCall s (value a) old new) (call' : AllocatingCall r (value b) old' new') (terms : r.terms ≡ s.terms) (rule : by_places (method s) ≡ true) where
  before : Wrote s a (length old) new
  before = wrote s a old new call

  after : Wrote r b (length old') new'
  after = wrote r b old' new' call'

  -- of the amounts that they wrote it is so
  pub calls_keep_others : (n m : ℕ) → Split n m s.shorts r.shorts → OthersKeep n m (take (length s.shorts) new) (take (length r.shorts) new')
  calls_keep_others n m split =
      rw (before.written, after.written) (nothing_for_others s r (length old) (length old') (held s) (held r) before.judged after.judged terms rule n m split)

  pub calls_split_at_once : (ns : List ℕ) → SplitAtOnce ns s.shorts r.shorts → SplitAtOnce ns (take (length s.shorts) new) (take (length r.shorts) new')
  calls_split_at_once ns split =
      rw (before.written, after.written) (amounts_split_at_once s r (length old) (length old') (held s) (held r) before.judged after.judged terms rule ns split)

  -- with one total, which every split has
  module _ (same : held r ≡ held s) where
    -- they hand back the same T
    pub total_kept : b.total ≡ a.total
    total_kept = ap (λ x. x.total) after.handed ∙ same ∙ ap (λ x. x.total) (sym before.handed)

    -- and the same further number, where both have one
    pub further_kept : (x y : ℕ) → a.further ≡ some x → b.further ≡ some y → x ≡ y
    further_kept x y one other =
        further_is s.terms s.shorts x rule (ap (λ c. c.further) (sym before.handed) ∙ one)
        ∙ ap (further_at s.terms) (sym same)
        ∙ sym (further_is s.terms r.shorts y rule (rw terms at (ap (λ c. c.further) (sym after.handed) ∙ other)))

-- ---- the cases without a draw

-- S equal to T: every position of any list gets its shorts
pub whole-assigned : (t : Terms) (hs : List ℕ) → by_places t.method ≡ true → t.exercised.0 ≡ total hs → assigned t hs ≡ hs
unfolding assigned lottery_amounts
whole-assigned t hs rule whole = by_cases t.method refl
  where
    by_cases : (m : Method) → t.method ≡ m → assigned t hs ≡ hs
    by_cases Method.Wheel e = rw e (wheel-whole t.increment.0 hs t.exercised.0 t.draw whole)
    by_cases Method.ProRata e = absurd (not_pro_rata t rule e)
    by_cases Method.Lottery e = rw (e, eq-eqb t.exercised.0 (total hs) whole) refl
    by_cases Method.RemainderDraw e = rw (e, eq-eqb t.exercised.0 (total hs) whole) refl

-- one position, which needs no draw under L and R, gets S; from any draw that is not refused those in its place get S together
module _ (s r : Series) (room more T U : ℕ) (v : verdict s room ≡ value T) (w : verdict r more ≡ value U) (terms : r.terms ≡ s.terms) (h : ℕ) (one : s.shorts ≡ h ∷ []) where
  pub one_gets_all : assigned s.terms s.shorts ≡ exercised s ∷ []
  one_gets_all = one_element (assigned s.terms s.shorts) (exercised s) (length-assigned s.terms s.shorts ∙ ap length one) (assigned-fair s room T v).adds_up

  pub parts_get_all : total (assigned r.terms r.shorts) ≡ exercised s
  parts_get_all = (assigned-fair r more U w).adds_up ∙ ap (λ t. t.exercised.0) terms

-- ---- refused as without a split

none_either_way : (b : Bool) → ◌≡◌ {A = List Row} (cond b [] []) []
none_either_way true = refl
none_either_way false = refl

-- the rows of the draw look at the number of positions under L alone
draws_alike : (t : Terms) (T n k : ℕ) → (t.method ≡ Method.Lottery → eqb k 1 ≡ eqb n 1) → then_draw_rows t T k ≡ then_draw_rows t T n
unfolding then_draw_rows undrawn draw_rows unstarted
draws_alike t T n k alike = by_cases t.method refl
  where
    by_cases : (m : Method) → t.method ≡ m → then_draw_rows t T k ≡ then_draw_rows t T n
    by_cases Method.Wheel e = rw e refl
    by_cases Method.ProRata e = rw e refl
    by_cases Method.Lottery e = rw (e, alike e) refl
    by_cases Method.RemainderDraw e = rw e (none_either_way (unstarted T k t.exercised.0) ∙ sym (none_either_way (unstarted T n t.exercised.0)))

-- judging a series whose list is not refused: its terms are judged
terms_judged : (s : Series) (room : ℕ) → NoneApplies (list_rows (method s) (order s) s.accounts s.shorts room) → verdict s room ≡ first (terms_rows s.terms (held s) (length s.shorts)) (held s)
unfolding verdict rows
terms_judged s room passed =
    let list = list_rows (method s) (order s) s.accounts s.shorts room in
    first-append list (terms_rows s.terms (held s) (length s.shorts)) (held s) ∙ rw (passed_value list (held s) passed) refl

-- REFUSED ALIKE: of two series with equal terms and one total, neither list at fault, both meet the same refusal or none; under L where both lists have one position, or neither has
pub refused_alike : (s r : Series) (room more : ℕ) → r.terms ≡ s.terms → held r ≡ held s
    → NoneApplies (list_rows (method s) (order s) s.accounts s.shorts room) → NoneApplies (list_rows (method r) (order r) r.accounts r.shorts more)
    → (method s ≡ Method.Lottery → eqb (length r.shorts) 1 ≡ eqb (length s.shorts) 1) → verdict r more ≡ verdict s room
unfolding terms_rows
refused_alike s r room more terms same passed passed' alike =
    terms_judged r more passed'
    ∙ rw (terms, same, draws_alike s.terms (held s) (length s.shorts) (length r.shorts) alike) refl
    ∙ sym (terms_judged s room passed)

-- ---- the share

-- summed over the starting places 1 to T, the positions in the place of one get its shorts times S together
module _ (s : Series) (room : ℕ) (ok : Accepted s room) (n m : ℕ) (us : List ℕ) (split : Split n m s.shorts us) where
  parts_share : (from to : ℕ → List ℕ) → ((p : ℕ) → Split n m (from p) (to p)) → over_places (held s) (λ p. total (take m (drop n (to p)))) ≡ over_places (held s) (λ p. get_or (from p) n 0)
  parts_share from to each = over_cong (held s) _ _ (λ p _. (others_keep n m (from p) (to p) (each p)).together)

  by_marks : (ms : List ℕ) → Split n m (amounts s.shorts ms) (amounts us ms)
  by_marks ms = split-amounts n m s.shorts us ms split

  same-held : total us ≡ held s
  same-held = split-total n m s.shorts us split

  place-within : n < length s.shorts
  place-within = split-within n m s.shorts us split

  -- W
  pub wheel_parts_share : method s ≡ Method.Wheel → over_places (held s) (λ p. total (take m (drop n (wheel (increment s) us (exercised s) p)))) ≡ get_or s.shorts n 0 * exercised s
  wheel_parts_share e =
      parts_share (wheel (increment s) s.shorts (exercised s)) (wheel (increment s) us (exercised s)) (wheel_related (Split n m) s.shorts us same-held split by_marks (increment s) (exercised s))
      ∙ wheel_shares s room ok e n place-within

  -- L and R
  pub lottery_parts_share : over_places (held s) (λ p. total (take m (drop n (lottery us (exercised s) p)))) ≡ get_or s.shorts n 0 * exercised s
  unfolding lottery
  lottery_parts_share =
      parts_share (lottery s.shorts (exercised s)) (lottery us (exercised s)) (λ p. rw same-held (by_marks (run (held s) (exercised s) p)))
      ∙ lottery_shares s room ok n place-within
