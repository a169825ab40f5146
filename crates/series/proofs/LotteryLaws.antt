-- The lottery's run as places at offsets 0 to S - 1, and where no starting place is needed.
use Prim.Native.Nat.{ℕ, suc, ◌*◌, ◌≤◌, ◌<◌}
use mathlib.Core.Path.{◌≡◌, refl, sym, ap, ◌∙◌}
use mathlib.Core.Bool.{Bool, true, false, ◌||◌, cond}
use mathlib.Core.Option.{none, some}
use mathlib.Core.List.{List, [], ◌∷◌}
use native.Mathlib.Omega.{arith}
use native.Mathlib.Decide.{ℕ_discrete}
use lib.Dec.{eqb}
use lib.ListN.{length, get_or}
use borrow.Author.Tests.{eq-eqb, ne_eqb, eqb-true}
use Rattle.series.specs.Places.{total, steps, run, marked, amounts, OnWheel, over_places}
use Rattle.series.specs.Lottery.{lottery, unstarted, lottery_amounts, start_used}
use Rattle.series.proofs.SumLaws.{all_of}
use Rattle.series.proofs.PlaceLaws.{length-amounts, up_from, length-up_from, places_at, run_places, rising_up_from, over_cong, places_sum, places_share, places_most, places_once}

run_offsets : (T S p : ℕ) → run T S p ≡ places_at T (up_from 0 S) p
unfolding steps
run_offsets T S p = run_places T S 0 p

pub lottery_places : (hs : List ℕ) (S p : ℕ) → lottery hs S p ≡ amounts hs (places_at (total hs) (up_from 0 S) p)
unfolding lottery
lottery_places hs S p = ap (amounts hs) (run_offsets (total hs) S p)

pub lottery-sum : (hs : List ℕ) (S p : ℕ) → OnWheel (total hs) p → total (lottery hs S p) ≡ S
lottery-sum hs S p on = ap total (lottery_places hs S p) ∙ places_sum hs (up_from 0 S) p on ∙ length-up_from 0 S

pub lottery-most : (hs : List ℕ) (S p : ℕ) → S ≤ total hs → OnWheel (total hs) p → (i : ℕ) → i < length hs → get_or (lottery hs S p) i 0 ≤ get_or hs i 0
lottery-most hs S p most on i h =
    rw (lottery_places hs S p) (places_most hs (up_from 0 S) p i on (rising_up_from 0 S (total hs) (omega arith)) h)

pub lottery_share : (hs : List ℕ) (S i : ℕ) → i < length hs → over_places (total hs) (λ p. get_or (lottery hs S p) i 0) ≡ get_or hs i 0 * S
lottery_share hs S i h =
    over_cong (total hs) (λ p. get_or (lottery hs S p) i 0) (λ p. get_or (amounts hs (places_at (total hs) (up_from 0 S) p)) i 0) (λ p _. ap (λ xs. get_or xs i 0) (lottery_places hs S p)) ∙
    places_share hs (up_from 0 S) i h ∙
    ap (get_or hs i 0 *◌) (length-up_from 0 S)

pub lottery_once : (T S p m : ℕ) → S ≤ T → OnWheel T p → m < T → marked m (suc m) (run T S p) ≤ 1
lottery_once T S p m most on l = rw (run_offsets T S p) (places_once T m p (up_from 0 S) on (rising_up_from 0 S T (omega arith)) l)

pub length-lottery : (hs : List ℕ) (S p : ℕ) → length (lottery hs S p) ≡ length hs
unfolding lottery
length-lottery hs S p = length-amounts hs (run (total hs) S p)

pub length-lottery_amounts : (hs : List ℕ) (S p : ℕ) → length (lottery_amounts hs S p) ≡ length hs
unfolding lottery_amounts
length-lottery_amounts hs S p = by_cases (eqb S (total hs)) (eqb (length hs) 1) refl
  where
    by_cases : (whole one : Bool) → eqb (length hs) 1 ≡ one → length (cond whole hs (cond one (S ∷ []) (lottery hs S p))) ≡ length hs
    by_cases true one e = refl
    by_cases false true e = sym (eqb-true (length hs) 1 e)
    by_cases false false e = length-lottery hs S p

-- S equals T: from every place the run assigns each position whole
pub lottery-whole : (hs : List ℕ) (S p : ℕ) → S ≡ total hs → OnWheel (total hs) p → lottery hs S p ≡ hs
lottery-whole hs S p e on = all_of (lottery hs S p) hs (length-lottery hs S p) (lottery-sum hs S p on ∙ e) (lottery-most hs S p (omega arith) on)

pub one_element : (vs : List ℕ) (S : ℕ) → length vs ≡ 1 → total vs ≡ S → vs ≡ S ∷ []
unfolding total
one_element [] S l e = absurd (omega arith)
one_element (v ∷ []) S l e = let same : v ≡ S = omega arith in ap (◌∷ []) same
one_element (v ∷ w ∷ vs) S l e = absurd (omega arith)

-- one position: from every place the run assigns it S
pub lottery-one : (hs : List ℕ) (S p : ℕ) → length hs ≡ 1 → OnWheel (total hs) p → lottery hs S p ≡ S ∷ []
lottery-one hs S p one on = one_element (lottery hs S p) S (length-lottery hs S p ∙ one) (lottery-sum hs S p on)

-- so from every place the amounts are those of the run
pub lottery_amounts_lem : (hs : List ℕ) (S p : ℕ) → OnWheel (total hs) p → lottery_amounts hs S p ≡ lottery hs S p
unfolding lottery_amounts
lottery_amounts_lem hs S p on =
    elim (ℕ_discrete S (total hs)) [
      | yes e ↦ rw (eq-eqb S (total hs) e) (sym (lottery-whole hs S p e on))
      | no d ↦
          elim (ℕ_discrete (length hs) 1) [
            | yes one ↦ rw (ne_eqb S (total hs) d, eq-eqb (length hs) 1 one) (sym (lottery-one hs S p one on))
            | no more ↦ rw (ne_eqb S (total hs) d, ne_eqb (length hs) 1 more) refl
          ]
    ]

-- where no starting place is needed, any will do
pub unstarted_any : (hs : List ℕ) (S : ℕ) → unstarted (total hs) (length hs) S ≡ true → (p q : ℕ) → lottery_amounts hs S p ≡ lottery_amounts hs S q
unfolding unstarted lottery_amounts
unstarted_any hs S u p q = by_cases (eqb S (total hs)) (eqb (length hs) 1) u
  where
    by_cases : (whole one : Bool) → (whole || one) ≡ true → cond whole hs (cond one (S ∷ []) (lottery hs S p)) ≡ cond whole hs (cond one (S ∷ []) (lottery hs S q))
    by_cases true one h = refl
    by_cases false true h = refl
    by_cases false false h = let z : ◌≡◌ {A = ℕ} 0 1 = cc in absurd (omega arith)

-- a starting place that is handed back is needed, and is the one given
pub used : (hs : List ℕ) (S p x : ℕ) → start_used hs S p ≡ some x → (unstarted (total hs) (length hs) S ≡ false) × (x ≡ p)
unfolding start_used
used hs S p x h = by_cases (unstarted (total hs) (length hs) S) h
  where
    by_cases : (u : Bool) → cond u none (some p) ≡ some x → (u ≡ false) × (x ≡ p)
    by_cases true k = let z : ◌≡◌ {A = ℕ} 0 1 = cc in absurd (omega arith)
    by_cases false k = (refl, cc)
