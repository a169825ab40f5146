-- What is decided before the draw: known series, and what it changes of the earlier rule, under which every draw was judged.
use Prim.Native.Nat.{ℕ, ◌+◌}
use mathlib.Core.Path.{◌≡◌, refl, sym, ap, ◌∙◌}
use mathlib.Core.Bool.{Bool, true, false, cond}
use mathlib.Core.List.{List, [], ◌∷◌, ◌++◌, map, append_assoc}
use native.Mathlib.Omega.{arith}
use lib.ListN.{length}
use Rattle.series.specs.Results.{Result, refused, value, ◌>>=◌}
use Rattle.series.specs.Places.{total}
use Rattle.series.specs.Series.{Series, method, exercised, draw, held, by_method, order}
use Rattle.series.specs.Wheel.{wheel}
use Rattle.series.specs.ProRata.{pro_rata}
use Rattle.series.specs.Lottery.{starting_place, lottery}
use Rattle.series.specs.RemainderDraw.{remainder_place}
use Rattle.series.specs.Refusals.{Row, ◌⟶◌∣◌, first, NoneApplies, length_rows, room_rows, position_rows, exercised_rows, outside, increment_rows, undrawn, draw_rows, then_draw_rows, terms_rows, list_rows, rows, verdict}
use Rattle.series.specs.Call.{assigned}
use Rattle.series.specs.declared.Method.{Method}
use Rattle.series.specs.declared.Method.TheVariants.{Wheel, Lottery}
use Rattle.series.specs.declared.Terms.{Terms}
use Rattle.series.proofs.ResultLaws.{never, stepped}
use Rattle.series.proofs.RowLaws.{first-append, value_passed, value_same}
use Rattle.series.proofs.AcceptedLaws.{Facts, accepted_facts, verdict_accepted}
use Rattle.series.proofs.CallLaws.{lottery-draw, starting_on}
use Rattle.series.proofs.LotteryLaws.{lottery_amounts_lem}
use Rattle.series.proofs.RemainderLaws.{remainder-on}
use Rattle.series.proofs.Starred.{series, called_on, allocated, undrawn_by, turned_away, M_shorts}

abbrev MOST_DRAW : ℕ
MOST_DRAW = 4294967295

-- S equal to T under W and L, with draw 0, a good one and the largest; one position under L, with the same draws, and with S equal to T too;
-- one position under W without a draw, with S below T and equal to it; one position and no draw, with S = 0 and above T
pub decided : List Series
decided =
    series Wheel M_shorts 36 0 ∷
    series Wheel M_shorts 36 18 ∷
    series Wheel M_shorts 36 MOST_DRAW ∷
    series Lottery M_shorts 36 0 ∷
    series Lottery M_shorts 36 4855 ∷
    series Lottery M_shorts 36 MOST_DRAW ∷
    series Lottery (36 ∷ []) 13 0 ∷
    series Lottery (36 ∷ []) 13 4855 ∷
    series Lottery (36 ∷ []) 13 MOST_DRAW ∷
    series Lottery (36 ∷ []) 36 0 ∷
    series Wheel (36 ∷ []) 13 0 ∷
    series Wheel (36 ∷ []) 36 0 ∷
    series Wheel (36 ∷ []) 0 0 ∷
    series Wheel (36 ∷ []) 37 0 ∷
    series Lottery (36 ∷ []) 0 0 ∷
    series Lottery (36 ∷ []) 37 0 ∷
    []

pub decided_known : map called_on decided ≡
    allocated Wheel 36 0 M_shorts ∷
    allocated Wheel 36 0 M_shorts ∷
    allocated Wheel 36 0 M_shorts ∷
    undrawn_by Lottery 36 M_shorts ∷
    undrawn_by Lottery 36 M_shorts ∷
    undrawn_by Lottery 36 M_shorts ∷
    undrawn_by Lottery 36 (13 ∷ []) ∷
    undrawn_by Lottery 36 (13 ∷ []) ∷
    undrawn_by Lottery 36 (13 ∷ []) ∷
    undrawn_by Lottery 36 (36 ∷ []) ∷
    turned_away 1 10 ∷
    allocated Wheel 36 0 (36 ∷ []) ∷
    turned_away 1 8 ∷
    turned_away 1 9 ∷
    turned_away 1 8 ∷
    turned_away 1 9 ∷
    []
unfolding called_on decided
decided_known = refl

-- ---- the earlier rule

module _ (s : Series) (room : ℕ) where
  -- the terms' rows above the draw's
  abbrev above_draw : List Row
  above_draw = exercised_rows (held s) (exercised s) ++ increment_rows s.terms (held s)

  -- the rows above the draw's
  abbrev above : List Row
  above = list_rows (method s) (order s) s.accounts s.shorts room ++ above_draw

  -- judging, by rows of the draw
  abbrev judged_by : List Row → Result ℕ
  judged_by draws = first (list_rows (method s) (order s) s.accounts s.shorts room ++ (above_draw ++ draws)) (held s)

  -- every draw was judged
  pub earlier_verdict : Result ℕ
  earlier_verdict = judged_by (draw_rows s.terms (held s))

  in_parts : (draws : List Row) → judged_by draws ≡ first above (held s) >>= first draws
  in_parts draws =
      ap (λ xs. first xs (held s)) (sym (append_assoc (list_rows (method s) (order s) s.accounts s.shorts room) above_draw draws))
      ∙ first-append above draws (held s)

-- and under L, and so under R, every amount came from the starting place
pub earlier_assigned : Terms → List ℕ → List ℕ
earlier_assigned t hs =
    by_method t.method
    (wheel t.increment.0 hs t.exercised.0 t.draw)
    (pro_rata hs t.exercised.0 t.draw)
    (lottery hs t.exercised.0 (starting_place (total hs) t.draw))
    (lottery hs t.exercised.0 (remainder_place (total hs) t.draw))

-- ---- rows below a result r, and none where b

value_stays : (r : Result ℕ) (b : Bool) (draws : List Row) (T : ℕ) → (r >>= first draws) ≡ value T → (r >>= first (cond b [] draws)) ≡ value T
unfolding first
value_stays (refused n) b draws T h = h
value_stays (value T') true draws T h = ap value (value_same draws T' T h)
value_stays (value T') false draws T h = h

none_new : (r : Result ℕ) (b : Bool) (draws : List Row) (n : ℕ) → (r >>= first (cond b [] draws)) ≡ refused n → (r >>= first draws) ≡ refused n
unfolding first
none_new (refused m) b draws n h = h
none_new (value T) true draws n h = absurd (never n T (sym h))
none_new (value T) false draws n h = h

others_stay : (r : Result ℕ) (b : Bool) (draws : List Row) (n : ℕ) → ((T : ℕ) → first draws T ≡ refused n → ⊥) → (r >>= first draws) ≡ refused n → (r >>= first (cond b [] draws)) ≡ refused n
others_stay (refused m) b draws n other h = h
others_stay (value T) true draws n other h = absurd (other T h)
others_stay (value T) false draws n other h = h

-- a draw is refused by 10 alone
row_ten : (b : Bool) (T n : ℕ) → first (b ⟶ 10 ∣ []) T ≡ refused n → n ≡ 10
unfolding first
row_ten true T n h = cc
row_ten false T n h = absurd (never n T (sym h))

draw_ten : (t : Terms) (T T' n : ℕ) → first (draw_rows t T) T' ≡ refused n → n ≡ 10
unfolding draw_rows first
draw_ten t T T' n h = by_cases t.method refl
  where
    by_cases : (m : Method) → t.method ≡ m → n ≡ 10
    by_cases Method.Wheel e = row_ten (outside T t.draw) T' n (rw e at h)
    by_cases Method.ProRata e = absurd (never n T' (sym (rw e at h)))
    by_cases Method.Lottery e = row_ten (outside 10000 t.draw) T' n (rw e at h)
    by_cases Method.RemainderDraw e = absurd (never n T' (sym (rw e at h)))

-- no row has the number 10
NoTen : List Row → Type 0
NoTen [] = Unit
NoTen (r ∷ rows) = (r.number ≡ 10 → ⊥) × NoTen rows

no_ten_append : (xs ys : List Row) → NoTen xs → NoTen ys → NoTen (xs ++ ys)
unfolding NoTen
no_ten_append [] ys k l = l
no_ten_append (x ∷ xs) ys k l = (k.0, no_ten_append xs ys k.1 l)

no_ten_positions : (m : Method) (earlier : List ℕ) (before sum : ℕ) (order accounts shorts : List ℕ) → NoTen (position_rows m earlier before sum order accounts shorts)
unfolding NoTen position_rows
no_ten_positions m earlier before sum [] rest hs = tt
no_ten_positions m earlier before sum (k ∷ ks) [] hs = tt
no_ten_positions m earlier before sum (k ∷ ks) (a ∷ rest) [] = tt
no_ten_positions m earlier before sum (k ∷ ks) (a ∷ rest) (h ∷ hs) =
    (λ e. omega arith, (λ e. omega arith, (λ e. omega arith, (λ e. omega arith, no_ten_positions m (a ∷ earlier) k (sum + h) ks rest hs))))

-- so they do not refuse with it
none_ten : (rows : List Row) (T : ℕ) → NoTen rows → first rows T ≡ refused 10 → ⊥
unfolding NoTen first
none_ten [] T k h = never 10 T (sym h)
none_ten (r ∷ rows) T k h = step r.holds (none_ten rows T k.1) h
  where
    step : (c : Bool) → (first rows T ≡ refused 10 → ⊥) → cond c (refused r.number) (first rows T) ≡ refused 10 → ⊥
    step true below e = k.0 cc
    step false below e = below e

no_ten_increment : (t : Terms) (T : ℕ) → NoTen (increment_rows t T)
unfolding NoTen increment_rows
no_ten_increment t T = by_cases t.method refl
  where
    by_cases : (m : Method) → t.method ≡ m → NoTen (increment_rows t T)
    by_cases Method.Wheel e = rw e (λ e. omega arith, (λ e. omega arith, tt))
    by_cases Method.ProRata e = rw e tt
    by_cases Method.Lottery e = rw e tt
    by_cases Method.RemainderDraw e = rw e tt

above_no_ten : (s : Series) (room : ℕ) → NoTen (above s room)
unfolding NoTen list_rows length_rows room_rows exercised_rows
above_no_ten s room =
    no_ten_append (list_rows (method s) (order s) s.accounts s.shorts room) (above_draw s room)
    (λ e. omega arith, (λ e. omega arith, (λ e. omega arith, (λ e. omega arith, no_ten_positions (method s) [] 0 0 (order s) s.accounts s.shorts))))
    (λ e. omega arith, (λ e. omega arith, no_ten_increment s.terms (held s)))

-- ---- what stays

module _ (s : Series) (room : ℕ) where
  abbrev b : Bool
  b = undrawn s.terms (held s) (length s.shorts)

  abbrev draws : List Row
  draws = draw_rows s.terms (held s)

  earlier-parts : earlier_verdict s room ≡ first (above s room) (held s) >>= first draws
  unfolding earlier_verdict
  earlier-parts = in_parts s room draws

  now_parts : verdict s room ≡ first (above s room) (held s) >>= first (cond b [] draws)
  unfolding verdict rows then_draw_rows terms_rows exercised_rows
  now_parts = in_parts s room (cond b [] draws)

  -- a call that was allocated is allocated
  pub still_allocated : (T : ℕ) → earlier_verdict s room ≡ value T → verdict s room ≡ value T
  still_allocated T h = now_parts ∙ value_stays (first (above s room) (held s)) b draws T (sym earlier-parts ∙ h)

  -- with the same amounts
  pub same-amounts : (T : ℕ) → earlier_verdict s room ≡ value T → assigned s.terms s.shorts ≡ earlier_assigned s.terms s.shorts
  unfolding assigned earlier_assigned
  same-amounts T h = by_cases (method s) refl
    where
      facts : Facts s
      facts = accepted_facts s room (verdict_accepted s room T (still_allocated T h))

      drawn : NoneApplies draws
      drawn = let step = stepped (first (above s room) (held s)) (first draws) T (sym earlier-parts ∙ h) in value_passed draws step.from T step.on

      by_cases : (m : Method) → method s ≡ m → assigned s.terms s.shorts ≡ earlier_assigned s.terms s.shorts
      by_cases Method.Wheel e = rw e refl
      by_cases Method.ProRata e = rw e refl
      by_cases Method.Lottery e = rw e (lottery_amounts_lem s.shorts (exercised s) (starting_place (held s) (draw s)) (starting_on (held s) (draw s) facts.total_some (lottery-draw s.terms (held s) e drawn)))
      by_cases Method.RemainderDraw e = rw e (lottery_amounts_lem s.shorts (exercised s) (remainder_place (held s) (draw s)) (remainder-on (held s) (draw s) facts.total_some))

  -- a call that was refused is refused alike, 10 alone excepted
  pub still_refused : (n : ℕ) → earlier_verdict s room ≡ refused n → (n ≡ 10 → ⊥) → verdict s room ≡ refused n
  still_refused n h other =
      now_parts
      ∙ others_stay (first (above s room) (held s)) b draws n (λ T e. other (draw_ten s.terms (held s) T n e)) (sym earlier-parts ∙ h)

  -- where nothing is decided before the draw, 10 too
  pub judged_alike : b ≡ false → verdict s room ≡ earlier_verdict s room
  judged_alike e = now_parts ∙ ap (λ c. first (above s room) (held s) >>= first (cond c [] draws)) e ∙ sym earlier-parts

  -- where something is, what was refused with 10 is allocated
  pub ten_allocated : b ≡ true → earlier_verdict s room ≡ refused 10 → verdict s room ≡ value (held s)
  unfolding first
  ten_allocated e h = now_parts ∙ ap (λ c. first (above s room) (held s) >>= first (cond c [] draws)) e ∙ by_cases (first (above s room) (held s)) refl (sym earlier-parts ∙ h)
    where
      by_cases : (r : Result ℕ) → first (above s room) (held s) ≡ r → (r >>= first draws) ≡ refused 10 → (r >>= first []) ≡ value (held s)
      by_cases (refused n) k l = absurd (none_ten (above s room) (held s) (above_no_ten s room) (k ∙ l))
      by_cases (value T) k l = ap value (sym (value_same (above s room) (held s) T k))

  -- and none that was allocated, or refused otherwise, is refused now
  pub refused-before : (n : ℕ) → verdict s room ≡ refused n → earlier_verdict s room ≡ refused n
  refused-before n h = earlier-parts ∙ none_new (first (above s room) (held s)) b draws n (sym now_parts ∙ h)
