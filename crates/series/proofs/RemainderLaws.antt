-- The remainder draw: the places that draws lead to, L's amounts from the same places, and L's refusals but 10.
use Prim.Native.Nat.{ℕ, suc, ◌+◌, ◌-◌, ◌<◌}
use mathlib.Core.Path.{◌≡◌, refl, sym, ap, ap₂, ◌∙◌}
use mathlib.Core.Bool.{Bool, true, false, cond}
use mathlib.Core.List.{List, [], ◌++◌}
use native.Mathlib.Omega.{arith}
use native.Mathlib.Nat.{mod-lt, mod-eq_of_lt, add-mod_right}
use lib.ListN.{length}
use borrow.Author.Tests.{ne_eqb, le-ltb}
use Rattle.series.specs.Results.{◌>>=◌}
use Rattle.series.specs.Places.{total, OnWheel}
use Rattle.series.specs.Series.{ordered_by}
use Rattle.series.specs.Lottery.{starting_place, unstarted}
use Rattle.series.specs.RemainderDraw.{remainder_place}
use Rattle.series.specs.Refusals.{Row, ◌⟶◌∣◌, first, exercised_rows, outside, increment_rows, undrawn, draw_rows, then_draw_rows, terms_rows, list_rows, rows, verdict}
use Rattle.series.specs.Call.{assigned, further}
use Rattle.series.specs.declared.Method.{Method}
use Rattle.series.specs.declared.Terms.{Terms}
use Rattle.series.proofs.RowLaws.{first-append, same-below}
use Rattle.series.proofs.CodeLaws.{codes_are_accounts}

-- every draw leads to a place on the wheel
pub remainder-on : (T draw : ℕ) → 0 < T → OnWheel T (remainder_place T draw)
unfolding remainder_place
remainder-on T draw some = record { low = omega arith; high = omega (arith, mod-lt draw some) }

-- a draw below T to the place one above it
pub remainder_of : (T draw : ℕ) → draw < T → remainder_place T draw ≡ suc draw
unfolding remainder_place
remainder_of T draw below = omega (arith, mod-eq_of_lt below)

-- so every place from 1 to T is reached, by the draw one below it
pub every_place_drawn : (T p : ℕ) → OnWheel T p → remainder_place T (p - 1) ≡ p
every_place_drawn T p on = remainder_of T (p - 1) (omega (arith, on.low, on.high)) ∙ omega (arith, on.low)

-- and by every draw a turn higher
pub turn_higher : (T draw : ℕ) → remainder_place T (draw + T) ≡ remainder_place T draw
unfolding remainder_place
turn_higher T draw = ap (◌+ 1) (add-mod_right draw T)

-- L and R from equal starting places give equal amounts, and hand the same place back
pub equal_starts : (l r : Terms) (hs : List ℕ) → l.method ≡ Method.Lottery → r.method ≡ Method.RemainderDraw → l.exercised.0 ≡ r.exercised.0
    → starting_place (total hs) l.draw ≡ remainder_place (total hs) r.draw → (assigned l hs ≡ assigned r hs) × (further l hs ≡ further r hs)
unfolding assigned further
equal_starts l r hs el er S start = (rw (el, er, start, S) refl, rw (el, er, start, S) refl)

-- R meets the refusals of L with the same S and a draw of 1 to 10,000, whatever its own draw, and whatever the codes of both
module _ (r l : Terms) (er : r.method ≡ Method.RemainderDraw) (el : l.method ≡ Method.Lottery) (same : r.exercised.0 ≡ l.exercised.0) (on : OnWheel 10000 l.draw)
    (codes codes' accounts hs : List ℕ) (room : ℕ) where
  -- the rows of the increment and the draw, and all below the list's
  draws : Terms → List Row
  draws t = increment_rows t (total hs) ++ then_draw_rows t (total hs) (length hs)

  below : Terms → List Row
  below t = exercised_rows (total hs) l.exercised.0 ++ draws t

  draws_alike : first (draws r) (total hs) ≡ first (draws l) (total hs)
  unfolding draws increment_rows then_draw_rows draw_rows undrawn outside first
  draws_alike =
      let some : l.draw ≡ 0 → ⊥ = λ z. omega (arith, on.low) in
      rw (er, el, same, ne_eqb l.draw 0 some, le-ltb 10000 l.draw on.high) (by_cases (unstarted (total hs) (length hs) l.exercised.0))
    where
      by_cases : (u : Bool) → first (cond u [] []) (total hs) ≡ first (cond u [] (false ⟶ 10 ∣ [])) (total hs)
      by_cases true = refl
      by_cases false = refl

  -- a verdict by the method and S that the terms have
  in_parts : (t : Terms) (m : Method) (cs : List ℕ) → t.method ≡ m → t.exercised.0 ≡ l.exercised.0
      → verdict (record { terms = t; codes = cs; accounts = accounts; shorts = hs }) room ≡ first (list_rows m (ordered_by m cs accounts) accounts hs room ++ below t) (total hs)
  unfolding verdict rows terms_rows below draws
  in_parts t m cs em eS = ap₂ (λ n S. first (list_rows n (ordered_by n cs accounts) accounts hs room ++ (exercised_rows (total hs) S ++ draws t)) (total hs)) em eS

  pub judged_as_lottery : verdict (record { terms = r; codes = codes; accounts = accounts; shorts = hs }) room ≡ verdict (record { terms = l; codes = codes'; accounts = accounts; shorts = hs }) room
  unfolding below
  judged_as_lottery =
      let list : Method → List Row = λ m. list_rows m accounts accounts hs room in
      in_parts r Method.RemainderDraw codes er same
      ∙ first-append (list Method.RemainderDraw) (below r) (total hs)
      ∙ ap (λ v. v >>= first (below r)) (codes_are_accounts Method.RemainderDraw Method.Lottery accounts hs room)
      ∙ sym (first-append (list Method.Lottery) (below r) (total hs))
      ∙ same-below (list Method.Lottery) (below r) (below l) (total hs) (same-below (exercised_rows (total hs) l.exercised.0) (draws r) (draws l) (total hs) draws_alike)
      ∙ sym (in_parts l Method.Lottery codes' el refl)
