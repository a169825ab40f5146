-- DEMAND 3, proved of the definitions for every accepted series s: none of the call's refusals applies to it, 4 and 10 left aside.
-- T is held s, S is exercised s, and i is any position of the list.
use Prim.Native.Nat.{ℕ, suc, ◌*◌, ◌≤◌, ◌<◌}
use mathlib.Core.Path.{◌≡◌, refl, sym, ap, ◌∙◌}
use mathlib.Core.Bool.{Bool, true, false}
use mathlib.Core.Option.{some}
use mathlib.Core.List.{List}
use native.Mathlib.Omega.{arith}
use native.Mathlib.Decide.{ℕ_discrete}
use lib.ListN.{length, get_or, drop}
use lib.Seq.{take_at}
use Rattle.series.specs.Results.{Result, refused, value}
use Rattle.series.specs.Outputs.{onto}
use Rattle.series.specs.Sums.{sum_below}
use Rattle.series.specs.Places.{total, run, marked, OnWheel, over_places}
use Rattle.series.specs.Series.{Series, method, exercised, draw, increment, held, redrawn}
use Rattle.series.specs.Wheel.{ONE, blocks, wheel_marks, wheel}
use Rattle.series.specs.ProRata.{pro_rata}
use Rattle.series.specs.Lottery.{starting_place, lottery, unstarted, lottery_amounts, start_used}
use Rattle.series.specs.RemainderDraw.{remainder_place}
use Rattle.series.specs.Refusals.{verdict, Accepted}
use Rattle.series.specs.Call.{assigned, further, answer, output}
use Rattle.series.specs.Fair.{Near, Fair, FairOutput}
use Rattle.series.specs.declared.Method.{Method}
use Rattle.series.specs.declared.Terms.{Terms}
use Rattle.series.proofs.AcceptedLaws.{IncrementFacts, Facts, accepted_facts, verdict_accepted}
use Rattle.series.proofs.CallLaws.{draw_passes, wheel_judged, lottery_judged, wheel-draw, lottery-draw, starting_on}
use Rattle.series.proofs.SumLaws.{sum_cong, length-listed}
use Rattle.series.proofs.ProRataLaws.{pro_rata-sum, pro_rata-most, pro_rata_share}
use Rattle.series.proofs.WheelLaws.{length-wheel, wheel-whole, wheel-sum, wheel-most, wheel_share, wheel_once}
use Rattle.series.proofs.LotteryLaws.{length-lottery_amounts, lottery_amounts_lem, unstarted_any, used, lottery-sum, lottery-most, lottery_share, lottery_once}
use Rattle.series.proofs.RemainderLaws.{remainder-on, remainder_of}

module _ (s : Series) (room : ℕ) (ok : Accepted s room) where
  facts : Facts s
  facts = accepted_facts s room ok

  some-total : 0 < held s
  some-total = facts.total_some

  module _ (w : method s ≡ Method.Wheel) where
    by : IncrementFacts s
    by = facts.by_increment w

    few : exercised s < held s → blocks (increment s) (exercised s) ≤ ONE
    few less = omega (arith, by.few_blocks less)

    -- W: from every starting place the amounts add up to S.
    pub wheel_adds_up : (p : ℕ) → OnWheel (held s) p → total (wheel (increment s) s.shorts (exercised s) p) ≡ exercised s
    wheel_adds_up = wheel-sum (increment s) s.shorts (exercised s) by.some facts.exercised_some facts.exercised_most

    -- W: from every starting place no position gets more than its shorts.
    pub wheel-at_most : (p : ℕ) → OnWheel (held s) p → (i : ℕ) → i < length s.shorts → get_or (wheel (increment s) s.shorts (exercised s) p) i 0 ≤ get_or s.shorts i 0
    wheel-at_most = wheel-most (increment s) s.shorts (exercised s) by.some facts.exercised_some facts.exercised_most few

    -- W: summed over the starting places 1 to T, with one increment at all of them, a position's amounts are its shorts times S.
    pub wheel_shares : (i : ℕ) → i < length s.shorts → over_places (held s) (λ p. get_or (wheel (increment s) s.shorts (exercised s) p) i 0) ≡ get_or s.shorts i 0 * exercised s
    wheel_shares = wheel_share (increment s) s.shorts (exercised s) by.some facts.exercised_some facts.exercised_most

    -- W: no contract c + 1 is marked twice.
    pub wheel_marks_once : exercised s < held s → (p c : ℕ) → OnWheel (held s) p → c < held s → marked c (suc c) (wheel_marks (increment s) (held s) (exercised s) p) ≤ 1
    wheel_marks_once less = wheel_once (increment s) (held s) (exercised s) by.some facts.exercised_some less (few less)

  -- L and R: from every place, drawn or not, the amounts add up to S.
  pub lottery_adds_up : (p : ℕ) → OnWheel (held s) p → total (lottery s.shorts (exercised s) p) ≡ exercised s
  lottery_adds_up = lottery-sum s.shorts (exercised s)

  -- L and R: from every place no position gets more than its shorts.
  pub lottery-at_most : (p : ℕ) → OnWheel (held s) p → (i : ℕ) → i < length s.shorts → get_or (lottery s.shorts (exercised s) p) i 0 ≤ get_or s.shorts i 0
  lottery-at_most p = lottery-most s.shorts (exercised s) p facts.exercised_most

  -- L and R: summed over the places 1 to T, a position's amounts are its shorts times S.
  pub lottery_shares : (i : ℕ) → i < length s.shorts → over_places (held s) (λ p. get_or (lottery s.shorts (exercised s) p) i 0) ≡ get_or s.shorts i 0 * exercised s
  lottery_shares = lottery_share s.shorts (exercised s)

  -- L and R: no contract c + 1 is marked twice.
  pub lottery_marks_once : (p c : ℕ) → OnWheel (held s) p → c < held s → marked c (suc c) (run (held s) (exercised s) p) ≤ 1
  lottery_marks_once p c = lottery_once (held s) (exercised s) p c facts.exercised_most

  -- P: for every draw the amounts add up to S.
  pub pro_rata_adds_up : (d : ℕ) → total (pro_rata s.shorts (exercised s) d) ≡ exercised s
  pro_rata_adds_up = pro_rata-sum s.shorts (exercised s) some-total facts.total_most facts.few facts.exercised_most

  -- P: for every draw no position gets more than its shorts.
  pub pro_rata-at_most : (d i : ℕ) → get_or (pro_rata s.shorts (exercised s) d) i 0 ≤ get_or s.shorts i 0
  pro_rata-at_most = pro_rata-most s.shorts (exercised s) some-total facts.total_most facts.few facts.exercised_most

  -- P: for every position and every draw, shorts × S and T × amount lie less than T apart.
  pub pro_rata-near : (d i : ℕ) → i < length s.shorts → Near (held s) (get_or s.shorts i 0) (exercised s) (get_or (pro_rata s.shorts (exercised s) d) i 0)
  pro_rata-near d i h =
      let share = pro_rata_share s.shorts (exercised s) some-total facts.total_most facts.few facts.exercised_most d i h in
      record { below = share.0; above = share.1 }

pub length-assigned : (t : Terms) (hs : List ℕ) → length (assigned t hs) ≡ length hs
unfolding assigned pro_rata
length-assigned t hs = by_cases t.method refl
  where
    by_cases : (m : Method) → t.method ≡ m → length (assigned t hs) ≡ length hs
    by_cases Method.Wheel e = rw e (length-wheel t.increment.0 hs t.exercised.0 t.draw)
    by_cases Method.ProRata e = rw e (length-listed _ (length hs))
    by_cases Method.Lottery e = rw e (length-lottery_amounts hs t.exercised.0 (starting_place (total hs) t.draw))
    by_cases Method.RemainderDraw e = rw e (length-lottery_amounts hs t.exercised.0 (remainder_place (total hs) t.draw))

-- the amounts vs are those from a place on the wheel
pub record FromPlace (T : ℕ) (from : ℕ → List ℕ) (vs : List ℕ) : Type 0 where
  pub place : ℕ
  pub on : OnWheel T place
  pub same : vs ≡ from place

module _ (s : Series) (room T : ℕ) (v : verdict s room ≡ value T) where
  ok : Accepted s room
  ok = verdict_accepted s room T v

  first-place : OnWheel (held s) 1
  first-place = record { low = omega arith; high = some-total s room ok }

  -- W: an allocation is one from a place on the wheel, drawn or not
  pub wheel-from : method s ≡ Method.Wheel → FromPlace (held s) (wheel (increment s) s.shorts (exercised s)) (wheel (increment s) s.shorts (exercised s) (draw s))
  wheel-from e =
      elim (ℕ_discrete (exercised s) (held s)) [
        | yes whole ↦ record { place = 1; on = first-place; same = wheel-whole (increment s) s.shorts (exercised s) (draw s) whole ∙ sym (wheel-whole (increment s) s.shorts (exercised s) 1 whole) }
        | no part ↦ record { place = draw s; on = wheel-draw s.terms (held s) e (wheel_judged s.terms (held s) (length s.shorts) e part (draw_passes s room T v)); same = refl }
      ]

  -- p is a place on the wheel where a starting place is needed
  abbrev pub Drawn : ℕ → Type 0
  Drawn p = unstarted (held s) (length s.shorts) (exercised s) ≡ false → OnWheel (held s) p

  pub lottery_drawn : method s ≡ Method.Lottery → Drawn (starting_place (held s) (draw s))
  lottery_drawn e needed =
      starting_on (held s) (draw s) (some-total s room ok) (lottery-draw s.terms (held s) e (lottery_judged s.terms (held s) (length s.shorts) e needed (draw_passes s room T v)))

  pub remainder_drawn : Drawn (remainder_place (held s) (draw s))
  remainder_drawn needed = remainder-on (held s) (draw s) (some-total s room ok)

  -- so is one that starts at such a place
  run-from : (p : ℕ) → Drawn p → FromPlace (held s) (lottery s.shorts (exercised s)) (lottery_amounts s.shorts (exercised s) p)
  run-from p drawn = by_cases (unstarted (held s) (length s.shorts) (exercised s)) refl
    where
      by_cases : (u : Bool) → unstarted (held s) (length s.shorts) (exercised s) ≡ u → FromPlace (held s) (lottery s.shorts (exercised s)) (lottery_amounts s.shorts (exercised s) p)
      by_cases true u = record { place = 1; on = first-place; same = unstarted_any s.shorts (exercised s) u p 1 ∙ lottery_amounts_lem s.shorts (exercised s) 1 first-place }
      by_cases false u = record { place = p; on = drawn u; same = lottery_amounts_lem s.shorts (exercised s) p (drawn u) }

  -- L: so is one by the starting number
  pub lottery-from : method s ≡ Method.Lottery → FromPlace (held s) (lottery s.shorts (exercised s)) (lottery_amounts s.shorts (exercised s) (starting_place (held s) (draw s)))
  lottery-from e = run-from (starting_place (held s) (draw s)) (lottery_drawn e)

  -- R: so is one by the remainder draw
  pub remainder-from : FromPlace (held s) (lottery s.shorts (exercised s)) (lottery_amounts s.shorts (exercised s) (remainder_place (held s) (draw s)))
  remainder-from = run-from (remainder_place (held s) (draw s)) remainder_drawn

  used_on_wheel : (q : ℕ) → Drawn q → (p : ℕ) → start_used s.shorts (exercised s) q ≡ some p → OnWheel (held s) p
  used_on_wheel q drawn p h = let u = used s.shorts (exercised s) q p h in rw u.1 (drawn u.0)

  -- L: a starting place that is handed back is a place on the wheel
  pub start_on_wheel : method s ≡ Method.Lottery → (p : ℕ) → further s.terms s.shorts ≡ some p → OnWheel (held s) p
  unfolding further
  start_on_wheel e p h = used_on_wheel (starting_place (held s) (draw s)) (lottery_drawn e) p (rw e at h)

  -- R: so it is
  pub remainder-on-wheel : method s ≡ Method.RemainderDraw → (p : ℕ) → further s.terms s.shorts ≡ some p → OnWheel (held s) p
  unfolding further
  remainder-on-wheel e p h = used_on_wheel (remainder_place (held s) (draw s)) remainder_drawn p (rw e at h)

  -- what amounts from a place need to be fair, the method not being P
  fair-from : (from : ℕ → List ℕ) (vs : List ℕ) → FromPlace (held s) from vs → (method s ≡ Method.ProRata → ⊥)
      → ((p : ℕ) → OnWheel (held s) p → total (from p) ≡ exercised s)
      → ((p : ℕ) → OnWheel (held s) p → (i : ℕ) → i < length s.shorts → get_or (from p) i 0 ≤ get_or s.shorts i 0)
      → Fair s vs
  fair-from from vs f other sum most =
      record {
        adds_up = ap total f.same ∙ sum f.place f.on;
        at_most = λ i h. rw f.same (most f.place f.on i h);
        near = λ e. absurd (other e);
      }

  pub assigned-fair : Fair s (assigned s.terms s.shorts)
  unfolding assigned
  assigned-fair = by_cases (method s) refl
    where
      -- the amounts vs are those of the method
      fair_by : (vs : List ℕ) → assigned s.terms s.shorts ≡ vs → Fair s vs → Fair s (assigned s.terms s.shorts)
      fair_by vs is fair = rw is fair

      by_cases : (m : Method) → method s ≡ m → Fair s (assigned s.terms s.shorts)
      by_cases Method.Wheel e = fair_by _ (rw e refl) (fair-from (wheel (increment s) s.shorts (exercised s)) _ (wheel-from e) (λ p. let z : ◌≡◌ {A = ℕ} 0 1 = cc in omega arith) (wheel_adds_up s room ok e) (wheel-at_most s room ok e))
      by_cases Method.ProRata e =
          fair_by (pro_rata s.shorts (exercised s) (draw s)) (rw e refl) (record {
            adds_up = pro_rata_adds_up s room ok (draw s);
            at_most = λ i _. pro_rata-at_most s room ok (draw s) i;
            near = λ _. pro_rata-near s room ok (draw s);
          })
      by_cases Method.Lottery e = fair_by _ (rw e refl) (fair-from (lottery s.shorts (exercised s)) _ (lottery-from e) (λ p. let z : ◌≡◌ {A = ℕ} 0 1 = cc in omega arith) (lottery_adds_up s room ok) (lottery-at_most s room ok))
      by_cases Method.RemainderDraw e = fair_by _ (rw e refl) (fair-from (lottery s.shorts (exercised s)) _ remainder-from (λ p. let z : ◌≡◌ {A = ℕ} 0 1 = cc in omega arith) (lottery_adds_up s room ok) (lottery-at_most s room ok))

-- R: summed over the draws 0 to T - 1, the amounts of the calls are a position's shorts times S.
pub remainder_shares : (s : Series) (room : ℕ) → Accepted s room → method s ≡ Method.RemainderDraw → (i : ℕ) → i < length s.shorts → sum_below (λ d. get_or (assigned (redrawn d s.terms) s.shorts) i 0) (held s) ≡ get_or s.shorts i 0 * exercised s
unfolding over_places assigned redrawn
remainder_shares s room ok e i h =
    sum_cong (λ d. get_or (assigned (redrawn d s.terms) s.shorts) i 0) (λ d. get_or (lottery s.shorts (exercised s) (suc d)) i 0) (held s) (λ d l. ap (λ vs. get_or vs i 0) (each d l)) ∙ lottery_shares s room ok i h
  where
    -- the draw d leads to the place d + 1
    each : (d : ℕ) → d < held s → assigned (redrawn d s.terms) s.shorts ≡ lottery s.shorts (exercised s) (suc d)
    each d l = rw (e, remainder_of (held s) d l) (lottery_amounts_lem s.shorts (exercised s) (suc d) (record { low = omega arith; high = l }))

-- a call that is not turned away
allocation_fair : (s : Series) (old : List ℕ) (T : ℕ) → verdict s (length old) ≡ value T → FairOutput (answer s (length old)) s (output s old)
unfolding answer output onto
allocation_fair s old T e = rw (e, take_at (assigned s.terms s.shorts) (drop (length (assigned s.terms s.shorts)) old) (length s.shorts) (length-assigned s.terms s.shorts)) (assigned-fair s (length old) T e)

-- a call that is
refusal-fair : (s : Series) (old : List ℕ) (n : ℕ) → verdict s (length old) ≡ refused n → FairOutput (answer s (length old)) s (output s old)
unfolding answer
refusal-fair s old n e = rw e tt

-- The call itself: whatever it answers with an allocation, the amounts that it wrote are fair.
pub call_fair : (s : Series) (old : List ℕ) → FairOutput (answer s (length old)) s (output s old)
call_fair s old = by_cases (verdict s (length old)) refl
  where
    by_cases : (v : Result ℕ) → verdict s (length old) ≡ v → FairOutput (answer s (length old)) s (output s old)
    by_cases (value T) e = allocation_fair s old T e
    by_cases (refused n) e = refusal-fair s old n e
