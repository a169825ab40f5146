-- What the wheel, the starting number and the remainder draw ask of a judged list, and what their answers come to.
use Prim.Native.Nat.{ℕ}
use mathlib.Core.Path.{◌≡◌, refl, sym, ap, ap₂, ◌∙◌}
use mathlib.Core.Bool.{true, false}
use mathlib.Core.Option.{Option, none, some}
use mathlib.Core.List.{List, [], ◌∷◌, ◌++◌}
use native.Mathlib.Omega.{arith}
use lib.Dec.{eqb}
use lib.ListN.{length, drop, set}
use borrow.Author.Tests.{eq-eqb, ne_eqb}
use Rattle.series.specs.Results.{Result, refused, value}
use Rattle.series.specs.Places.{total, OnWheel}
use Rattle.series.specs.Series.{Series, Given, DEFAULT_INCREMENT, terms_of, method, exercised, draw, increment}
use Rattle.series.specs.Wheel.{wheel, blocks_used}
use Rattle.series.specs.Lottery.{lottery, unstarted, lottery_amounts, start_used}
use Rattle.series.specs.Refusals.{NoneApplies, then_draw_rows, verdict}
use Rattle.series.specs.Answers.{Allocation}
use Rattle.series.specs.Call.{assigned, further}
use Rattle.series.specs.Fair.{AllocatingCall}
use Rattle.series.specs.declared.Method.{Method}
use Rattle.series.specs.declared.Terms.{Terms}
use Rattle.series.proofs.CallLaws.{wheel_judged, wheel-draw, lottery_judged, lottery-draw, codes_unseen}
use Rattle.series.proofs.IncrementLaws.{call_by_terms}
use Rattle.starts.proofs.StartLaws.{started_not_wheel}
use Rattle.starts.specs.Starts.{method_for, place_by, Leads}
use Rattle.starts.specs.declared.StartBy.{StartBy}
use Rattle.judging.specs.Assigning.{Assigns}
use Rattle.judging.specs.Judged.{ListOf}
use Rattle.judging.specs.declared.judged_list.JudgedList.{JudgedList}
use Rattle.judging.proofs.CallLaws.{call_refused, call_draw, call_increment, call_allocated}
use Rattle.allocation.specs.Blocks.{Increment}

-- an allocation by a method, with T and the further number
abbrev answered_by : Method → ℕ → Option ℕ → Result Allocation
answered_by m T f = value (record { method = m; total = T; further = f })

-- the definitions of a call by L or R
started_further : (by : StartBy) (t : Terms) (hs : List ℕ) → t.method ≡ method_for by → further t hs ≡ start_used hs t.exercised.0 (place_by by (total hs) t.draw)
unfolding further
started_further StartBy.TenThousandths t hs e = rw e refl
started_further StartBy.Remainder t hs e = rw e refl

started_assigned : (by : StartBy) (t : Terms) (hs : List ℕ) → t.method ≡ method_for by → assigned t hs ≡ lottery_amounts hs t.exercised.0 (place_by by (total hs) t.draw)
unfolding assigned
started_assigned StartBy.TenThousandths t hs e = rw e refl
started_assigned StartBy.Remainder t hs e = rw e refl

-- where a starting place is needed, a judged draw leads to one
judged_leads : (by : StartBy) (t : Terms) (T n : ℕ) → t.method ≡ method_for by → unstarted T n t.exercised.0 ≡ false → NoneApplies (then_draw_rows t T n) → Leads by t.draw
judged_leads StartBy.TenThousandths t T n e needed draw = lottery-draw t T e (lottery_judged t T n e needed draw)
judged_leads StartBy.Remainder t T n e needed draw = tt

-- what the wheel, and assigning by a draw, make of a judged list
module _ (t : Terms) (l : JudgedList) (same : l.exercised.0 ≡ t.exercised.0) where
  abbrev hs : List ℕ
  hs = l.shorts.now

  abbrev T : ℕ
  T = l.total.0

  abbrev S : ℕ
  S = l.exercised.0

  wheel_gives : t.method ≡ Method.Wheel → (b : ℕ) (vs : List ℕ) → b ≡ blocks_used t.increment.0 T S → vs ≡ wheel t.increment.0 hs S t.draw → Assigns t hs (answered_by Method.Wheel T (some b)) vs
  unfolding further assigned
  wheel_gives e b vs eb ev =
      record {
        answered = rw (e, ← same) (ap₂ (λ x f. answered_by Method.Wheel x (some f)) l.sum (eb ∙ ap (λ x. blocks_used t.increment.0 x S) l.sum));
        written = rw (e, ← same) ev;
      }

  started_gives : (by : StartBy) → t.method ≡ method_for by → (f : Option ℕ) (vs : List ℕ) → f ≡ start_used hs S (place_by by T t.draw) → vs ≡ lottery_amounts hs S (place_by by T t.draw) → Assigns t hs (answered_by (method_for by) T f) vs
  started_gives by e f vs ef ev =
      let place : place_by by T t.draw ≡ place_by by (total hs) t.draw = ap (λ x. place_by by x t.draw) l.sum in
      record {
        answered = rw (started_further by t hs e, e, ← same) (ap₂ (answered_by (method_for by)) l.sum (ef ∙ ap (start_used hs S) place));
        written = rw (started_assigned by t hs e, ← same) (ev ∙ ap (lottery_amounts hs S) place);
      }

-- the call by the wheel, where it is not turned away
module _ (s : Series) (old : List ℕ) (l : JudgedList) (v : value l.total.0 ≡ verdict s (length old)) (of : ListOf s.shorts (exercised s) (length old) l) (e : method s ≡ Method.Wheel) where
  pub wheel_asked : Increment (increment s) × ((l.exercised.0 ≡ l.total.0 → ⊥) → OnWheel l.total.0 (draw s))
  wheel_asked =
      let by = call_increment s old l v of e in
      (record { some = by.some; most = by.most }, λ part. wheel-draw s.terms l.total.0 e (wheel_judged s.terms l.total.0 (length l.shorts.now) e (rw of.exercised_is at part) (call_draw s old l v of)))

  pub wheel_called : (b : ℕ) (vs : List ℕ) → b ≡ blocks_used (increment s) l.total.0 l.exercised.0 → vs ≡ wheel (increment s) l.shorts.now l.exercised.0 (draw s)
      → AllocatingCall s (answered_by Method.Wheel l.total.0 (some b)) old (vs ++ drop (length l.shorts.now) old)
  wheel_called b vs eb ev = call_allocated s old l v of _ vs (wheel_gives s.terms l of.exercised_is e b vs eb ev)

-- a call by L or R, with these codes and the default increment, of which an allocation is told neither
module _ (by : StartBy) (S draw : ℕ) (accounts shorts old : List ℕ) where
  abbrev called : List ℕ → Series
  called codes = record { terms = terms_of (method_for by) S draw DEFAULT_INCREMENT; codes = codes; accounts = accounts; shorts = shorts }

  -- what judging it without codes answers
  abbrev pub Judged : Result ℕ → Type 0
  Judged v = v ≡ verdict (called accounts) (length old)

  by_codes : (v : Result ℕ) → Judged v → (codes : List ℕ) → v ≡ verdict (called codes) (length old)
  by_codes v e codes = e ∙ codes_unseen (called codes).terms accounts codes accounts shorts (length old) (started_not_wheel by)

  -- what the call then answers and writes, by any codes and terms that it may have been given
  abbrev pub Allocates : Result Allocation → List ℕ → Type 0
  Allocates a new = (t : Terms) (codes : List ℕ) → Given t (method_for by) S draw → AllocatingCall (record { terms = t; codes = codes; accounts = accounts; shorts = shorts }) a old new

  pub started_refused : (n : ℕ) → Judged (refused n) → Allocates (refused n) old
  started_refused n v t codes given = call_by_terms t _ _ _ _ codes accounts shorts (started_not_wheel by) given (call_refused (called codes) old n (by_codes (refused n) v codes))

  module _ (l : JudgedList) (v : Judged (value l.total.0)) (of : ListOf shorts S (length old) l) where
    pub started_leads : unstarted l.total.0 (length l.shorts.now) l.exercised.0 ≡ false → Leads by draw
    started_leads needed = judged_leads by (called accounts).terms l.total.0 (length l.shorts.now) refl (rw of.exercised_is at needed) (call_draw (called accounts) old l v of)

    pub started_called : (f : Option ℕ) (vs : List ℕ) → f ≡ start_used l.shorts.now l.exercised.0 (place_by by l.total.0 draw) → vs ≡ lottery_amounts l.shorts.now l.exercised.0 (place_by by l.total.0 draw)
        → Allocates (answered_by (method_for by) l.total.0 f) (vs ++ drop (length l.shorts.now) old)
    started_called f vs ef ev t codes given =
        call_by_terms t _ _ _ _ codes accounts shorts (started_not_wheel by) given
        (call_allocated (called codes) old l (by_codes (value l.total.0) v codes) of _ vs (started_gives (called codes).terms l of.exercised_is by refl f vs ef ev))

-- ---- assigning by a draw

stored : (vs : List ℕ) (S : ℕ) → length vs ≡ 1 → set vs 0 S ≡ S ∷ []
stored [] S l = absurd (omega arith)
stored (v ∷ []) S l = refl
stored (v ∷ w ∷ vs) S l = absurd (omega arith)

-- a starting place is needed
pub place_needed : (T n S : ℕ) → (S ≡ T → ⊥) → (n ≡ 1 → ⊥) → unstarted T n S ≡ false
unfolding unstarted
place_needed T n S part more = rw (ne_eqb S T part, ne_eqb n 1 more)

module _ (hs : List ℕ) (T S p : ℕ) (sum : T ≡ total hs) where
  -- S equals T
  module _ (whole : S ≡ T) where
    is_whole : eqb S (total hs) ≡ true
    is_whole = eq-eqb S (total hs) (whole ∙ sum)

    pub whole_start : none ≡ start_used hs S p
    unfolding start_used unstarted
    whole_start = rw is_whole

    pub whole-amounts : hs ≡ lottery_amounts hs S p
    unfolding lottery_amounts
    whole-amounts = rw is_whole

  module _ (part : S ≡ T → ⊥) where
    is_part : eqb S (total hs) ≡ false
    is_part = ne_eqb S (total hs) (λ e. part (e ∙ sym sum))

    -- one position
    pub one_start : length hs ≡ 1 → none ≡ start_used hs S p
    unfolding start_used unstarted
    one_start one = rw (is_part, eq-eqb (length hs) 1 one)

    pub one-amounts : length hs ≡ 1 → (vs : List ℕ) → length vs ≡ 1 → set vs 0 S ≡ lottery_amounts hs S p
    unfolding lottery_amounts
    one-amounts one vs l = stored vs S l ∙ rw (is_part, eq-eqb (length hs) 1 one) refl

    -- from the starting place
    module _ (more : length hs ≡ 1 → ⊥) where
      pub place_start : (q : ℕ) → q ≡ p → some q ≡ start_used hs S p
      unfolding start_used unstarted
      place_start q e = rw (is_part, ne_eqb (length hs) 1 more) (ap some e)

      pub place-amounts : (q : ℕ) → q ≡ p → (vs : List ℕ) → vs ≡ lottery hs S q → vs ≡ lottery_amounts hs S p
      unfolding lottery_amounts
      place-amounts q e vs ev = rw (is_part, ne_eqb (length hs) 1 more) (ev ∙ ap (lottery hs S) e)
