-- What a judged call asks of its method, and what the method's answer makes of the call.
use Prim.Native.Nat.{ℕ}
use mathlib.Core.Path.{◌≡◌, sym, ap, ap₂, ◌∙◌}
use mathlib.Core.List.{List, ◌++◌}
use lib.ListN.{length, drop}
use Rattle.series.specs.Results.{Result, refused, value}
use Rattle.series.specs.Outputs.{onto}
use Rattle.series.specs.Series.{Series, method, exercised, held}
use Rattle.series.specs.Refusals.{NoneApplies, then_draw_rows, verdict}
use Rattle.series.specs.Answers.{Allocation}
use Rattle.series.specs.Call.{further, answer, output}
use Rattle.series.specs.Fair.{AllocatingCall}
use Rattle.series.specs.declared.Method.{Method}
use Rattle.series.proofs.AcceptedLaws.{IncrementFacts, accepted_facts, verdict_accepted}
use Rattle.series.proofs.CallLaws.{verdict-total, draw_passes}
use Rattle.series.proofs.Demand3.{length-assigned, call_fair}
use Rattle.judging.specs.Assigning.{Assigns}
use Rattle.judging.specs.Judged.{ListOf}
use Rattle.judging.specs.declared.judged_list.JudgedList.{JudgedList}

-- the whole call
module _ (s : Series) (old : List ℕ) where
  kept : (a : Result Allocation) (new : List ℕ) → a ≡ answer s (length old) → new ≡ output s old → AllocatingCall s a old new
  kept a new ea en = record { answered = ea; written = en; fair = rw (ea, en) (call_fair s old) }

  pub call_refused : (n : ℕ) → refused n ≡ verdict s (length old) → AllocatingCall s (refused n) old old
  unfolding answer output
  call_refused n v = kept (refused n) old (rw (← v)) (rw (← v))

  module _ (T : ℕ) (v : value T ≡ verdict s (length old)) where
    total_is : held s ≡ T
    total_is = verdict-total s (length old) T (sym v)

    answered : (a : Result Allocation) (vs : List ℕ) → Assigns s.terms s.shorts a vs → AllocatingCall s a old (vs ++ drop (length s.shorts) old)
    unfolding answer output onto
    answered a vs done =
        kept a (vs ++ drop (length s.shorts) old)
        (rw (← v) (done.answered ∙ ap (λ x. value (record { method = s.terms.method; total = x; further = further s.terms s.shorts })) total_is))
        (rw (← v) (ap₂ (λ xs n. xs ++ drop n old) done.written (sym (length-assigned s.terms s.shorts))))

  -- the judged list of the call
  module _ (l : JudgedList) (v : value l.total.0 ≡ verdict s (length old)) (of : ListOf s.shorts (exercised s) (length old) l) where
    pub call_draw : NoneApplies (then_draw_rows s.terms l.total.0 (length l.shorts.now))
    call_draw = rw (← total_is l.total.0 v, of.shorts_are) (draw_passes s (length old) l.total.0 (sym v))

    -- under W what the judged series has of its increment
    pub call_increment : method s ≡ Method.Wheel → IncrementFacts s
    call_increment = (accepted_facts s (length old) (verdict_accepted s (length old) l.total.0 (sym v))).by_increment

    pub call_allocated : (a : Result Allocation) (vs : List ℕ) → Assigns s.terms l.shorts.now a vs → AllocatingCall s a old (vs ++ drop (length l.shorts.now) old)
    call_allocated a vs done = rw of.shorts_are (answered l.total.0 v a vs (rw of.shorts_are at done))
