-- A run round the wheel as two walks over the list: to its end, and from the top.
use Rattle.std.specs.Prelude.{Ok, Err, IsOk, Result as Result·}
use Prim.Native.Nat.{ℕ, suc, ◌+◌, ◌-◌, ◌≤◌, ◌<◌, min, max}
use mathlib.Core.Path.{◌≡◌, refl, sym, ap, ap₂, ◌∙◌}
use mathlib.Core.List.{List, ◌++◌}
use native.Mathlib.Omega.{arith}
use native.Mathlib.Nat.{zero-add}
use native.Mathlib.Decide.{dec_le}
use lib.ListN.{length, get_or, take, drop, set, replicate, length-replicate, get_or-replicate}
use lib.Seq.{ext_get_or}
use Rattle.series.specs.Series.{MOST_CONTRACTS}
use Rattle.series.specs.Places.{total, before, last, steps, run, marked, amounts, OnWheel}
use Rattle.series.specs.Lottery.{lottery}
use Rattle.series.specs.declared.Contracts.{Contracts}
use Rattle.series.proofs.SumLaws.{total_term}
use Rattle.series.proofs.PlaceLaws.{steps_plain, steps-past, last-total, amount-at, length-amounts, run_plain, run_past, up_from, marked_append, marked_up_from}
use Rattle.judging.specs.declared.judged_list.JudgedList.{JudgedList}
use Rattle.allocation.specs.declared.places.Cursor.{Cursor}
use Rattle.allocation.specs.Stretch.{overlap, Ends, Grown, Small, OnList, Stands, Ahead, Assigned, place_of, contracts_before}
use Rattle.allocation.proofs.StretchLaws.{last_is, next-before, Walk, walk_start, walk_inside, growing_start, growing_next, grown_inside}
use Rattle.allocation.proofs.PartLaws.{ends_top, grown_top}

no_wrap : (b e q x T : ℕ) → x ≤ T → overlap b e q x ≡ overlap b e q x + overlap b e 0 (x - T)
unfolding overlap
no_wrap b e q x T h = let z : x - T ≡ 0 = omega arith in rw z (none b e (min e x - max b q))
  where
    none : (b e k : ℕ) → k ≡ k + (min e 0 - max b 0)
    none b e k = omega arith

wrap : (b e q x T : ℕ) → e ≤ T → T ≤ x → min e T - max b q ≡ overlap b e q x
unfolding overlap
wrap b e q x T h l = omega arith

-- the marks of a run on contracts b + 1 up to e: before the end of the list, and from the top
pub run-overlap : (T q n b e : ℕ) → q < T → n ≤ T → b ≤ e → e ≤ T → marked b e (run T n (suc q)) ≡ overlap b e q (q + n) + overlap b e 0 (q + n - T)
unfolding overlap
run-overlap T q n b e hq hn hb he =
    elim (dec_le (q + n) T) [
      | yes l ↦ ap (marked b e) (run_plain T n q l) ∙ marked_up_from b e q n hb ∙ no_wrap b e q (q + n) T l
      | no g ↦
          let m : ℕ = q + n - T in
          let past : T ≤ q + n = omega arith in
          let less : m ≤ T = omega arith in
          let end : q + (T - q) ≡ T = omega arith in
          let low : marked b e (up_from (suc q) (T - q)) ≡ overlap b e q (q + n) = marked_up_from b e q (T - q) hb ∙ ap (λ k. min e k - max b q) end ∙ wrap b e q (q + n) T he past in
          let top : marked b e (up_from 1 m) ≡ overlap b e 0 m = marked_up_from b e 0 m hb ∙ ap (λ k. min e k - max b 0) (zero-add m) in
          ap (marked b e) (run_past T n q hq past less) ∙ marked_append b e (up_from (suc q) (T - q)) (up_from 1 m) ∙ ap₂ ◌+◌ low top
    ]

on-wheel : (hs : List ℕ) (c : Cursor) → OnList hs c → before hs c.at + c.passed.0 < total hs
on-wheel hs c on = omega (arith, on.contract, last_is hs c.at, last-total hs c.at on.position)

-- fewer contracts than the list has end at a cursor
pub ends_inside : (hs : List ℕ) (x : ℕ) (o : Result· Cursor Contracts) → x < total hs → Ends hs x o → IsOk o
ends_inside hs x (Ok c) h e = refl
ends_inside hs x (Err m) h e = absurd (omega (arith, e))

-- n contracts on from the cursor
module _ (hs : List ℕ) (c : Cursor) (n : ℕ) (ahead : Ahead hs c n) where
  -- they end before the end of the list
  pub stands_part : (r : Cursor) → Ends hs (contracts_before hs c + n) (Ok r) → Stands hs n (place_of hs c) r
  unfolding place_of
  stands_part r e = record { on = e.0; place = omega (arith, e.1, steps_plain (total hs) n (suc (contracts_before hs c)) (omega (arith, on-wheel hs r e.0, e.1))) }

  -- the rest of them, in the part from the top, end before the place where the run began
  pub top_inside : (l : Contracts) → Ends hs (contracts_before hs c + n) (Err l) → 0 + l.0 < total (take (c.at + 1) hs)
  unfolding before
  top_inside l e = omega (arith, e, ahead.most, ahead.on.contract, next-before hs c.at ahead.on.position)

  pub stands_top : (l : Contracts) (r : Cursor) → Ends hs (contracts_before hs c + n) (Err l) → Ends (take (c.at + 1) hs) (0 + l.0) (Ok r) → Stands hs n (place_of hs c) r
  unfolding place_of
  stands_top l r e f =
      let on = on-wheel hs c ahead.on in
      let top = ends_top hs (c.at + 1) (0 + l.0) r (omega (arith, ahead.on.position)) f in
      record { on = top.0; place = omega (arith, top.1, e, steps-past (total hs) n (contracts_before hs c) on (omega (arith, e)) (omega (arith, e, ahead.most, on))) }

-- a place is found from the top
pub first_inside : (hs : List ℕ) (place : ℕ) → OnWheel (total hs) place → 0 + (place - 1) < total hs
first_inside hs place on = omega (arith, on.low, on.high)

pub stands_first : (hs : List ℕ) (place : ℕ) (r : Cursor) → OnWheel (total hs) place → Ends hs (0 + (place - 1)) (Ok r) → Stands hs 0 place r
unfolding steps place_of
stands_first hs place r on e = record { on = e.0; place = omega (arith, e.1, on.low) }

overlap-most : (b h lo hi : ℕ) → overlap b (b + h) lo hi ≤ h
unfolding overlap
overlap-most b h lo hi = omega arith

-- amounts that grew
pub small_grown : (hs out mid : List ℕ) (lo hi most : ℕ) → Small hs out most → Grown hs out mid lo hi → Small hs mid (most + MOST_CONTRACTS)
unfolding last
small_grown hs out mid lo hi most s g =
    record {
      lengths = g.same_length ∙ s.lengths;
      list = s.list;
      amounts = λ j k. omega (arith, g.grown j k, s.amounts j k, total_term hs j k, s.list, overlap-most (before hs j) (get_or hs j 0) lo hi);
    }

overlap-zero : (b e : ℕ) → overlap b e 0 0 ≡ 0
unfolding overlap
overlap-zero b e = omega arith

-- what a run assigns: the contracts up to the end of the list, and those from the top
module _ (hs out : List ℕ) (c : Cursor) (n : ℕ) (ahead : Ahead hs c n) where
  run_at : (j : ℕ) → j < length hs → marked (before hs j) (last hs j) (run (total hs) n (place_of hs c)) ≡ overlap (before hs j) (last hs j) (contracts_before hs c) (contracts_before hs c + n) + overlap (before hs j) (last hs j) 0 (contracts_before hs c + n - total hs)
  unfolding place_of
  run_at j k = run-overlap (total hs) (contracts_before hs c) n (before hs j) (last hs j) (on-wheel hs c ahead.on) ahead.most (omega (arith, last_is hs j)) (last-total hs j k)

  -- a run that ends within the list
  pub assigned_part : (r : Cursor) (new : List ℕ) → Ends hs (contracts_before hs c + n) (Ok r) → Grown hs out new (contracts_before hs c) (contracts_before hs c + n) → Assigned hs out new (run (total hs) n (place_of hs c))
  unfolding place_of
  assigned_part r new e g =
      let none : contracts_before hs c + n - total hs ≡ 0 = omega (arith, e.1, on-wheel hs r e.0) in
      record {
        same_length = g.same_length;
        grown = λ j k. omega (arith, g.grown j k, run_at j k, ap (overlap (before hs j) (last hs j) 0) none, overlap-zero (before hs j) (last hs j));
      }

  -- a run that goes on in the part from the top
  pub assigned_top : (l : Contracts) (mid new : List ℕ) (t : ℕ) → Ends hs (contracts_before hs c + n) (Err l) → length out ≡ length hs → Grown hs out mid (contracts_before hs c) (contracts_before hs c + n) → t ≡ min (c.at + 1) (length mid) → Grown (take (c.at + 1) hs) (take t mid) new 0 (0 + l.0) → Assigned hs out (new ++ drop t mid) (run (total hs) n (place_of hs c))
  assigned_top l mid new t e room g et p =
      let past : 0 + l.0 ≡ contracts_before hs c + n - total hs = omega (arith, e) in
      let whole : Grown hs mid (new ++ drop t mid) 0 (0 + l.0) =
      grown_top hs mid new (c.at + 1) t (0 + l.0) (g.same_length ∙ room) (omega (arith, ahead.on.position)) et (omega (arith, e, ahead.most, ahead.on.contract, next-before hs c.at ahead.on.position)) p in
      record {
        same_length = whole.same_length ∙ g.same_length;
        grown = λ j k. omega (arith, g.grown j k, whole.grown j k, run_at j k, ap (overlap (before hs j) (last hs j) 0) past);
      }

-- contracts within the position where the cursor stands
module _ (hs : List ℕ) (c : Cursor) (n : ℕ) (on : OnList hs c) (inside : n < get_or hs c.at 0 - c.passed.0) where
  here : Walk hs (contracts_before hs c) (contracts_before hs c + n) c.at c.passed.0 n
  here = walk_start hs c.at c.passed.0 n (omega (arith, on.position)) (omega (arith, on.contract))

  pub ends_here : Ends hs (contracts_before hs c + n) (Ok (record { at = c.at; passed = record { 0 = c.passed.0 + n } }))
  ends_here = walk_inside hs _ _ _ _ _ here on.position inside

  pub grown_here : (out : List ℕ) → c.at < length out → Grown hs out (set out c.at (get_or out c.at 0 + n)) (contracts_before hs c) (contracts_before hs c + n)
  grown_here out o =
      grown_inside hs out _ _ _ _ _ _ here on.position inside (growing_next hs out out _ _ _ _ _ n here (omega arith) (growing_start hs out c.at c.passed.0 (contracts_before hs c + n) (omega (arith, on.position))) o)

-- where all amounts were 0, they are the marks on each position's contracts
pub assigned-amounts : (hs out new ms : List ℕ) → length out ≡ length hs → Assigned hs (replicate (length out) 0) new ms → new ≡ amounts hs ms
assigned-amounts hs out new ms l a =
    ext_get_or 0 new (amounts hs ms) (a.same_length ∙ length-replicate {A = ℕ} (length out) 0 ∙ l ∙ sym (length-amounts hs ms))
    (λ j h.
    let inside : j < length hs = omega (arith, a.same_length, length-replicate {A = ℕ} (length out) 0) in
    omega (arith, a.grown j inside, amount-at hs ms j inside, get_or-replicate {A = ℕ} (length out) j 0 0 (omega arith)))

-- one run from a starting place
module _ (list : JudgedList) (out cleared : List ℕ) (p : ℕ) (c : Cursor) (room : length out ≡ length list.shorts.now) (stands : Stands list.shorts.now 0 p c) (ec : cleared ≡ replicate (length out) 0) where
  abbrev hs : List ℕ
  hs = list.shorts.now

  abbrev S : ℕ
  S = list.exercised.0

  pub lottery-ready : Small hs cleared MOST_CONTRACTS × Ahead hs c S
  lottery-ready = (
    record {
      lengths = rw ec (length-replicate {A = ℕ} (length out) 0 ∙ room);
      list = list.small;
      amounts = λ j h. rw ec (omega (arith, get_or-replicate {A = ℕ} (length out) j 0 0 (omega (arith, room))));
    },
    record { on = stands.on; most = list.most },
  )

  pub lottery_done : (new : List ℕ) → Assigned hs cleared new (run (total hs) S (place_of hs c)) → new ≡ lottery hs S p
  unfolding lottery steps
  lottery_done new a = assigned-amounts hs out new (run (total hs) S p) room (rw (ec, stands.place) at a)
