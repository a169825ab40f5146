-- What a call that meets no refusal has of its output and its draw.
use Prim.Native.Nat.{ℕ, ◌≤◌, ◌<◌}
use mathlib.Core.Path.{◌≡◌, refl, ◌∙◌}
use mathlib.Core.Bool.{true, false}
use mathlib.Core.List.{List, []}
use native.Mathlib.Omega.{arith}
use native.Mathlib.Nat.{le_refl, mul-le-mul}
use lib.Dec.{eqb}
use lib.ListN.{length}
use borrow.Author.Tests.{ltb-false, ne_eqb}
use Rattle.series.specs.Results.{value}
use Rattle.series.specs.Places.{OnWheel}
use Rattle.series.specs.Series.{Series, method, held, by_method, order}
use Rattle.series.specs.Lottery.{starting_place, unstarted}
use Rattle.series.specs.Refusals.{NoneApplies, length_rows, room_rows, position_rows, exercised_rows, increment_rows, undrawn, draw_rows, then_draw_rows, terms_rows, list_rows, rows, verdict}
use Rattle.series.specs.declared.Method.{Method}
use Rattle.series.specs.declared.Terms.{Terms}
use Rattle.series.proofs.RowLaws.{value_passed, value_same, passed_append}
use Rattle.series.proofs.AcceptedLaws.{not_outside}

module _ (s : Series) (room T : ℕ) (v : verdict s room ≡ value T) where
  all_passed : NoneApplies (rows s room)
  unfolding verdict
  all_passed = value_passed (rows s room) (held s) T v

  -- the total that is handed back is T
  pub verdict-total : held s ≡ T
  unfolding verdict
  verdict-total = value_same (rows s room) (held s) T v

  -- the output is at least as long as the list
  pub verdict-room : length s.shorts ≤ room
  unfolding rows list_rows NoneApplies length_rows room_rows
  verdict-room = ltb-false _ _ all_passed.1.1.1.0

  -- the draw is not turned away
  pub draw_passes : NoneApplies (then_draw_rows s.terms (held s) (length s.shorts))
  unfolding rows list_rows NoneApplies length_rows room_rows terms_rows exercised_rows
  draw_passes =
      let terms = (passed_append (position_rows (method s) [] 0 0 (order s) s.accounts s.shorts) (terms_rows s.terms (held s) (length s.shorts)) all_passed.1.1.1.1).1 in
      (passed_append (increment_rows s.terms (held s)) (then_draw_rows s.terms (held s) (length s.shorts)) terms.1.1).1

-- another method than W
pub not_wheel : (m : Method) → by_method m true false false false ≡ false → m ≡ Method.Wheel → ⊥
not_wheel m e is = let z : ◌≡◌ {A = ℕ} 0 1 = cc in omega arith

-- under P, L and R no code is looked at
pub codes_unseen : (t : Terms) (codes codes' accounts shorts : List ℕ) (room : ℕ) → (t.method ≡ Method.Wheel → ⊥)
    → verdict (record { terms = t; codes = codes; accounts = accounts; shorts = shorts }) room ≡ verdict (record { terms = t; codes = codes'; accounts = accounts; shorts = shorts }) room
unfolding verdict rows
codes_unseen t codes codes' accounts shorts room other = by_cases t.method refl
  where
    by_cases : (m : Method) → t.method ≡ m → verdict (record { terms = t; codes = codes; accounts = accounts; shorts = shorts }) room ≡ verdict (record { terms = t; codes = codes'; accounts = accounts; shorts = shorts }) room
    by_cases Method.Wheel e = absurd (other e)
    by_cases Method.ProRata e = rw e refl
    by_cases Method.Lottery e = rw e refl
    by_cases Method.RemainderDraw e = rw e refl

-- the draw is judged where nothing is decided before it
draw_judged : (t : Terms) (T n : ℕ) → undrawn t T n ≡ false → NoneApplies (then_draw_rows t T n) → NoneApplies (draw_rows t T)
unfolding then_draw_rows
draw_judged t T n u h = rw u at h

undrawn-wheel : (t : Terms) (T n : ℕ) → t.method ≡ Method.Wheel → undrawn t T n ≡ eqb t.exercised.0 T
unfolding undrawn
undrawn-wheel t T n e = rw e refl

undrawn-lottery : (t : Terms) (T n : ℕ) → t.method ≡ Method.Lottery → undrawn t T n ≡ unstarted T n t.exercised.0
unfolding undrawn
undrawn-lottery t T n e = rw e refl

-- under W where S is not T
pub wheel_judged : (t : Terms) (T n : ℕ) → t.method ≡ Method.Wheel → (t.exercised.0 ≡ T → ⊥) → NoneApplies (then_draw_rows t T n) → NoneApplies (draw_rows t T)
wheel_judged t T n e part = draw_judged t T n (undrawn-wheel t T n e ∙ ne_eqb t.exercised.0 T part)

-- under L where a starting place is needed
pub lottery_judged : (t : Terms) (T n : ℕ) → t.method ≡ Method.Lottery → unstarted T n t.exercised.0 ≡ false → NoneApplies (then_draw_rows t T n) → NoneApplies (draw_rows t T)
lottery_judged t T n e needed = draw_judged t T n (undrawn-lottery t T n e ∙ needed)

-- under W a judged draw is a place
pub wheel-draw : (t : Terms) (T : ℕ) → t.method ≡ Method.Wheel → NoneApplies (draw_rows t T) → OnWheel T t.draw
unfolding draw_rows NoneApplies
wheel-draw t T e h = not_outside T t.draw (rw e at h).0

-- under L it is 1 to 10,000
pub lottery-draw : (t : Terms) (T : ℕ) → t.method ≡ Method.Lottery → NoneApplies (draw_rows t T) → OnWheel 10000 t.draw
unfolding draw_rows NoneApplies
lottery-draw t T e h = not_outside 10000 t.draw (rw e at h).0

-- a draw of 1 to 10,000 leads to a place
pub starting_on : (T draw : ℕ) → 0 < T → OnWheel 10000 draw → OnWheel T (starting_place T draw)
unfolding starting_place
starting_on T draw h on =
    record {
      low = omega (arith, mul-le-mul on.low h);
      high = omega (arith, mul-le-mul on.high (le_refl T));
    }
