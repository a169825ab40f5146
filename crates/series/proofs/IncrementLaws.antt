-- The increment: P, L and R look at none, and with the one that is meant where none is given every call has the answer that it had before there were others.
use Prim.Native.Nat.{ℕ, ◌+◌, ◌≤◌}
use mathlib.Core.Path.{◌≡◌, refl, sym, ap, ap₂, subst, ◌∙◌}
use mathlib.Core.Bool.{Bool, true, false, ◌&&◌}
use mathlib.Core.Option.{Option, some}
use mathlib.Core.List.{List, [], ◌++◌}
use native.Mathlib.Omega.{arith}
use native.Mathlib.Nat.{zero-add}
use lib.Dec.{ltb}
use lib.ListN.{length}
use borrow.Author.Tests.{le-ltb, ltb-true, eqb-true, not-false}
use Rattle.series.specs.Results.{Result, refused, value, ◌>>=◌, after}
use Rattle.series.specs.Outputs.{onto}
use Rattle.series.specs.Places.{total}
use Rattle.series.specs.Series.{Series, MOST_CONTRACTS, DEFAULT_INCREMENT, terms_of, Given, method, exercised, increment, held, by_method, order}
use Rattle.series.specs.Wheel.{MOST_BLOCKS, blocks, wheel, blocks_used}
use Rattle.series.specs.ProRata.{pro_rata, remainder}
use Rattle.series.specs.Lottery.{starting_place, lottery_amounts, start_used}
use Rattle.series.specs.RemainderDraw.{remainder_place}
use Rattle.series.specs.Refusals.{Row, first, NoneApplies, length_rows, room_rows, exercised_rows, outside, too_many_blocks, increment_rows, undrawn, draw_rows, then_draw_rows, terms_rows, list_rows, rows, verdict}
use Rattle.series.specs.Answers.{Allocation}
use Rattle.series.specs.Call.{assigned, further, answer, output}
use Rattle.series.specs.Fair.{FairOutput, AllocatingCall}
use Rattle.series.specs.declared.Method.{Method}
use Rattle.series.specs.declared.Terms.{Terms}
use Rattle.series.proofs.RowLaws.{first-append, same-below, passed_value, value_passed}
use Rattle.series.proofs.AcceptedLaws.{or-false, positions-total}

-- ---- P, L and R

-- a series of terms and lists
abbrev over : Terms → List ℕ → List ℕ → List ℕ → Series
over t codes accounts shorts = record { terms = t; codes = codes; accounts = accounts; shorts = shorts }

module _ (S d I J : ℕ) (codes accounts hs : List ℕ) where
  -- under P, L and R the answer and the output are the same with any two increments
  pub any_answer : (m : Method) → (m ≡ Method.Wheel → ⊥) → (room : ℕ) → answer (over (terms_of m S d I) codes accounts hs) room ≡ answer (over (terms_of m S d J) codes accounts hs) room
  unfolding answer verdict rows terms_rows increment_rows then_draw_rows undrawn draw_rows further
  any_answer Method.Wheel other room = absurd (other refl)
  any_answer Method.ProRata other room = refl
  any_answer Method.Lottery other room = refl
  any_answer Method.RemainderDraw other room = refl

  pub any_output : (m : Method) → (m ≡ Method.Wheel → ⊥) → (old : List ℕ) → output (over (terms_of m S d I) codes accounts hs) old ≡ output (over (terms_of m S d J) codes accounts hs) old
  unfolding output verdict rows terms_rows increment_rows then_draw_rows undrawn draw_rows assigned
  any_output Method.Wheel other old = absurd (other refl)
  any_output Method.ProRata other old = refl
  any_output Method.Lottery other old = refl
  any_output Method.RemainderDraw other old = refl

  -- so is the whole call
  any_increment : (m : Method) → (m ≡ Method.Wheel → ⊥) → {a : Result Allocation} {old new : List ℕ} → AllocatingCall (over (terms_of m S d I) codes accounts hs) a old new → AllocatingCall (over (terms_of m S d J) codes accounts hs) a old new
  any_increment m other {a} {old} {new} call =
      record {
        answered = call.answered ∙ any_answer m other (length old);
        written = call.written ∙ any_output m other old;
        fair = as_fair a call.fair;
      }
    where
      as_fair : (a : Result Allocation) → FairOutput a (over (terms_of m S d I) codes accounts hs) new → FairOutput a (over (terms_of m S d J) codes accounts hs) new
      as_fair (refused n) f = tt
      as_fair (value b) f = record { adds_up = f.adds_up; at_most = f.at_most; near = f.near }

-- terms with a method, S and a draw have nothing else but their increment
given_terms : (t : Terms) (m : Method) (S d : ℕ) → Given t m S d → terms_of m S d t.increment.0 ≡ t
given_terms t m S d given =
    ap (λ n. terms_of n S d t.increment.0) (sym given.given_method)
    ∙ ap (λ x. terms_of t.method x d t.increment.0) (sym given.given_exercised)
    ∙ ap (λ x. terms_of t.method t.exercised.0 x t.increment.0) (sym given.given_draw)

-- so a call by these and the increment is one by the terms
pub call_with_increment : (t : Terms) (m : Method) (S d : ℕ) (codes accounts shorts : List ℕ) {a : Result Allocation} {old new : List ℕ} → Given t m S d
    → AllocatingCall (over (terms_of m S d t.increment.0) codes accounts shorts) a old new → AllocatingCall (over t codes accounts shorts) a old new
call_with_increment t m S d codes accounts shorts {a} {old} {new} given call =
    subst (λ (u : Terms). AllocatingCall (over u codes accounts shorts) a old new) (given_terms t m S d given) call

-- and, by another method than W, whatever the increment
pub call_by_terms : (t : Terms) (m : Method) (S d I : ℕ) (codes accounts shorts : List ℕ) {a : Result Allocation} {old new : List ℕ} → (m ≡ Method.Wheel → ⊥) → Given t m S d
    → AllocatingCall (over (terms_of m S d I) codes accounts shorts) a old new → AllocatingCall (over t codes accounts shorts) a old new
call_by_terms t m S d I codes accounts shorts {a} {old} {new} other given call =
    call_with_increment t m S d codes accounts shorts given (any_increment S d I t.increment.0 codes accounts shorts m other call)

-- ---- the increment where none is given

-- the call before there were others: no row for the increment, and 25 for every wheel
pub earlier_verdict : Series → ℕ → Result ℕ
earlier_verdict s room =
    first (list_rows (method s) (order s) s.accounts s.shorts room ++ (exercised_rows (held s) (exercised s) ++ then_draw_rows s.terms (held s) (length s.shorts))) (held s)

pub earlier_assigned : Terms → List ℕ → List ℕ
earlier_assigned t hs =
    by_method t.method
    (wheel 25 hs t.exercised.0 t.draw)
    (pro_rata hs t.exercised.0 t.draw)
    (lottery_amounts hs t.exercised.0 (starting_place (total hs) t.draw))
    (lottery_amounts hs t.exercised.0 (remainder_place (total hs) t.draw))

pub earlier_further : Terms → List ℕ → Option ℕ
earlier_further t hs =
    by_method t.method
    (some (blocks_used 25 (total hs) t.exercised.0))
    (some (remainder hs t.exercised.0))
    (start_used hs t.exercised.0 (starting_place (total hs) t.draw))
    (start_used hs t.exercised.0 (remainder_place (total hs) t.draw))

pub earlier_answer : Series → ℕ → Result Allocation
earlier_answer s room = do
  T ← earlier_verdict s room
  value (record { method = method s; total = T; further = earlier_further s.terms s.shorts })

pub earlier_output : Series → List ℕ → List ℕ
earlier_output s old = after (earlier_verdict s (length old)) (λ _. onto (earlier_assigned s.terms s.shorts) old) old

-- 10,000,000 contracts have 400,000 blocks of 25
default_blocks : (T S : ℕ) → T ≤ MOST_CONTRACTS → too_many_blocks DEFAULT_INCREMENT T S ≡ false
unfolding too_many_blocks blocks
default_blocks T S most = by_cases (ltb S T) refl
  where
    by_cases : (b : Bool) → ltb S T ≡ b → (ltb S T && ltb MOST_BLOCKS (blocks DEFAULT_INCREMENT S)) ≡ false
    by_cases true e = rw e (le-ltb MOST_BLOCKS (blocks DEFAULT_INCREMENT S) (omega (arith, ltb-true S T e)))
    by_cases false e = rw e refl

-- with 25 neither row applies to a list of at most 10,000,000 contracts
pub default_passes : (t : Terms) (T : ℕ) → t.increment.0 ≡ DEFAULT_INCREMENT → T ≤ MOST_CONTRACTS → NoneApplies (increment_rows t T)
unfolding increment_rows NoneApplies outside
default_passes t T is most = by_cases t.method refl
  where
    by_cases : (m : Method) → t.method ≡ m → NoneApplies (increment_rows t T)
    by_cases Method.Wheel e = rw (e, is) (refl, (default_blocks T t.exercised.0 most, tt))
    by_cases Method.ProRata e = rw e tt
    by_cases Method.Lottery e = rw e tt
    by_cases Method.RemainderDraw e = rw e tt

-- rows that come to nothing below a list of at most 10,000,000 contracts change no verdict
module _ (s : Series) (is : increment s ≡ DEFAULT_INCREMENT) where
  abbrev list : ℕ → List Row
  list room = list_rows (method s) (order s) s.accounts s.shorts room

  abbrev draws : List Row
  draws = then_draw_rows s.terms (held s) (length s.shorts)

  -- a list that no row turns away has at most 10,000,000 contracts
  list-total : (room : ℕ) → NoneApplies (list room) → held s ≤ MOST_CONTRACTS
  unfolding list_rows length_rows room_rows NoneApplies
  list-total room passed =
      let low : 0 ≤ MOST_CONTRACTS = omega arith in
      let even = or-false _ _ passed.0 in
      let same : length s.accounts ≡ length s.shorts = eqb-true _ _ (not-false _ even.0) in
      let beside : length (order s) ≡ length s.shorts = eqb-true _ _ (not-false _ even.1) in
      let most : 0 + held s ≤ MOST_CONTRACTS = positions-total (method s) [] 0 0 (order s) s.accounts s.shorts same beside low passed.1.1.1.1 in
      subst (λ n. n ≤ MOST_CONTRACTS) (zero-add (held s)) most

  -- the first refusal is the one that it was
  pub verdict_as_before : (room : ℕ) → verdict s room ≡ earlier_verdict s room
  unfolding verdict rows terms_rows earlier_verdict exercised_rows
  verdict_as_before room =
      first-append (list room) (terms_rows s.terms (held s) (length s.shorts)) (held s)
      ∙ by_cases (first (list room) (held s)) refl
      ∙ sym (first-append (list room) (exercised_rows (held s) (exercised s) ++ draws) (held s))
    where
      -- the rows of the increment are passed
      passes : (T : ℕ) → NoneApplies (list room) → first (increment_rows s.terms (held s) ++ draws) T ≡ first draws T
      passes T passed =
          first-append (increment_rows s.terms (held s)) draws T ∙ ap (λ r. r >>= first draws) (passed_value (increment_rows s.terms (held s)) T (default_passes s.terms (held s) is (list-total room passed)))

      by_cases : (r : Result ℕ) → first (list room) (held s) ≡ r → (r >>= first (terms_rows s.terms (held s) (length s.shorts))) ≡ (r >>= first (exercised_rows (held s) (exercised s) ++ draws))
      by_cases (refused n) e = refl
      by_cases (value T) e = same-below (exercised_rows (held s) (exercised s)) (increment_rows s.terms (held s) ++ draws) draws T (passes T (value_passed (list room) (held s) T e))

  further_as_before : further s.terms s.shorts ≡ earlier_further s.terms s.shorts
  unfolding further earlier_further
  further_as_before = rw is refl

  assigned_as_before : assigned s.terms s.shorts ≡ earlier_assigned s.terms s.shorts
  unfolding assigned earlier_assigned
  assigned_as_before = rw is refl

  -- AS BEFORE: with 25 every call has the answer and the output that it had
  pub answer_as_before : (room : ℕ) → answer s room ≡ earlier_answer s room
  unfolding answer earlier_answer
  answer_as_before room =
      ap₂ (λ v f. v >>= (λ T. value (record { method = method s; total = T; further = f }))) (verdict_as_before room) further_as_before

  pub output_as_before : (old : List ℕ) → output s old ≡ earlier_output s old
  unfolding output earlier_output
  output_as_before old = ap₂ (λ v vs. after v (λ _. onto vs old) old) (verdict_as_before (length old)) assigned_as_before
