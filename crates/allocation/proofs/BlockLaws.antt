-- Blocks and skips round the wheel: what holds before each block, and that the last one makes up the rules' amounts.
use Prim.Native.Nat.{ℕ, suc, ◌+◌, ◌-◌, ◌*◌, ◌/◌, ◌%◌, ◌≤◌, ◌<◌, min}
use mathlib.Core.Path.{◌≡◌, refl, sym, ap, ap₂, ◌∙◌}
use mathlib.Core.List.{List, ◌++◌}
use native.Mathlib.Omega.{arith}
use native.Mathlib.Nat.{mod-lt, le-mul_of_pos_right}
use native.Mathlib.Decide.{dec_le}
use Rattle.std.proofs.lemmas.Nat.{div-add-mod', div-mul-add}
use lib.ListN.{length, get_or, replicate, length-replicate, get_or-replicate}
use borrow.Author.Tests.{eq-eqb, ne_eqb}
use Rattle.series.specs.Series.{MOST_CONTRACTS}
use Rattle.series.specs.Places.{total, before, last, steps, run, marked, amounts}
use Rattle.series.specs.Wheel.{ONE, blocks, interval, marks, wheel_marks, wheel, blocks_used}
use Rattle.series.proofs.PlaceLaws.{marked_append, marked-length}
use Rattle.series.proofs.WheelLaws.{BlockSum as BlockCount, blocks_are, interval-short, length-wheel_marks, wheel_places, wheel_part}
use Rattle.judging.specs.declared.judged_list.JudgedList.{JudgedList}
use Rattle.allocation.specs.declared.places.Cursor.{Cursor}
use Rattle.allocation.specs.declared.wheel.Wheel.{Wheel}
use Rattle.allocation.specs.Stretch.{Stands, Assigned, Small, place_of}
use Rattle.allocation.specs.Millionths.{millionths}
use Rattle.allocation.specs.Blocks.{Increment, Ready, Skipped, BlocksFit, marks_from, due}
use Rattle.allocation.proofs.RunLaws.{assigned-amounts}

pub skip_is : (hs : List ℕ) (w r : Wheel) (d n : ℕ) → d ≡ due w → n ≡ d / ONE → r.interval ≡ w.interval → Stands hs n (place_of hs w.cursor) r.cursor → millionths r.reserve ≡ d % ONE → Skipped hs w r
skip_is hs w r d n ed en ei s er =
    record { interval = ei; stands = rw (en ∙ ap (◌/ ONE) ed) at s; rest = er ∙ ap (◌% ONE) ed }

-- the amounts and the marks still to come are what all marks make of the first amounts
pub record Pending (hs out₀ out all rest : List ℕ) : Type 0 where
  pub same_length : length out ≡ length out₀
  pub grown : (j : ℕ) → j < length hs → get_or out j 0 + marked (before hs j) (last hs j) rest ≡ get_or out₀ j 0 + marked (before hs j) (last hs j) all

pending_all : (hs out all : List ℕ) → Pending hs out out all all
pending_all hs out all = record { same_length = refl; grown = λ j h. refl }

pending_none : (hs out₀ out new all rest : List ℕ) → Pending hs out₀ out all rest → Assigned hs out new rest → Assigned hs out₀ new all
pending_none hs out₀ out new all rest p a =
    record { same_length = a.same_length ∙ p.same_length; grown = λ j h. omega (arith, p.grown j h, a.grown j h) }

pending_less : (hs out₀ out new all xs rest : List ℕ) → Pending hs out₀ out all (xs ++ rest) → Assigned hs out new xs → Pending hs out₀ new all rest
pending_less hs out₀ out new all xs rest p a =
    record {
      same_length = a.same_length ∙ p.same_length;
      grown = λ j h. omega (arith, p.grown j h, a.grown j h, marked_append (before hs j) (last hs j) xs rest);
    }

-- the state at the head of the loop: block is the number of the block that comes next
pub record AtBlock (hs out₀ out all : List ℕ) (w : Wheel) (block blocks I l : ℕ) : Type 0 where
  pub ready : Ready hs w
  pub pending : Pending hs out₀ out all (marks (total hs) I (millionths w.interval) l (blocks - block) (place_of hs w.cursor) (millionths w.reserve))

pub block_first : (hs out : List ℕ) (w : Wheel) (blocks I l : ℕ) → BlocksFit hs out w blocks I l → AtBlock hs out out (marks_from hs w blocks I l) w 1 blocks I l
unfolding marks_from
block_first hs out w blocks I l b =
    record { ready = b.ready; pending = pending_all hs out (marks_from hs w blocks I l) }

-- the amounts stay small
pub block_small : (hs out₀ out : List ℕ) (w₀ w : Wheel) (block blocks I l : ℕ) → BlocksFit hs out₀ w₀ blocks I l → AtBlock hs out₀ out (marks_from hs w₀ blocks I l) w block blocks I l → Small hs out MOST_CONTRACTS
block_small hs out₀ out w₀ w block blocks I l b t =
    record {
      lengths = t.pending.same_length ∙ b.lengths;
      list = b.ready.list;
      amounts = λ j h. omega (arith, t.pending.grown j h, b.grown j h);
    }

-- one block, after which the wheel has the cursor c, and one skip
pub block_next : (hs out₀ out new all : List ℕ) (w r : Wheel) (c : Cursor) (block blocks I l : ℕ) → AtBlock hs out₀ out all w block blocks I l → block < blocks
    → Stands hs I (place_of hs w.cursor) c → Assigned hs out new (run (total hs) I (place_of hs w.cursor)) → Skipped hs (record { cursor = c; interval = w.interval; reserve = w.reserve }) r → AtBlock hs out₀ new all r (block + 1) blocks I l
unfolding marks
block_next hs out₀ out new all w r c block blocks I l t less s a sk =
    let n : ℕ = blocks - (block + 1) in
    let p : ℕ = place_of hs w.cursor in
    let k : ℕ = millionths w.interval in
    let one_more : blocks - block ≡ suc n = omega arith in
    let here : Pending hs out₀ out all (run (total hs) I p ++ marks (total hs) I k l n (steps (total hs) (due w / ONE) (steps (total hs) I p)) (due w % ONE)) = rw one_more at t.pending in
    let next_place : steps (total hs) (due w / ONE) (steps (total hs) I p) ≡ place_of hs r.cursor = ap (steps (total hs) (due w / ONE)) (sym s.place) ∙ sym sk.stands.place in
    let there : marks (total hs) I k l n (steps (total hs) (due w / ONE) (steps (total hs) I p)) (due w % ONE) ≡ marks (total hs) I (millionths r.interval) l n (place_of hs r.cursor) (millionths r.reserve) =
    ap₂ (λ q d. marks (total hs) I k l n q d) next_place (sym sk.rest) ∙ ap (λ m. marks (total hs) I (millionths m) l n (place_of hs r.cursor) (millionths r.reserve)) (sym sk.interval) in
    record {
      ready = record {
        on = sk.stands.on;
        short = rw sk.interval t.ready.short;
        reserve = rw sk.rest (mod-lt (due w) (omega arith));
        list = t.ready.list;
      };
      pending = pending_less hs out₀ out new all (run (total hs) I p) (marks (total hs) I (millionths r.interval) l n (place_of hs r.cursor) (millionths r.reserve)) (rw there at here) a;
    }

-- the last block
pub block_last : (hs out₀ out new all : List ℕ) (w : Wheel) (block blocks I l : ℕ) → AtBlock hs out₀ out all w block blocks I l → blocks ≤ block → Assigned hs out new (run (total hs) l (place_of hs w.cursor)) → Assigned hs out₀ new all
unfolding marks
block_last hs out₀ out new all w block blocks I l t end a =
    let none : blocks - block ≡ 0 = omega arith in
    pending_none hs out₀ out new all (run (total hs) l (place_of hs w.cursor)) (rw none at t.pending) a

-- rounded up: the whole part, and 1 where there is a remainder
pub rounded_up : (S I : ℕ) → 0 < I → S / I + min 1 (S % I) ≡ (S + (I - 1)) / I
rounded_up S I some =
    let low : S % I < I = mod-lt S some in
    let all = div-add-mod' S I in
    elim (dec_le 1 (S % I)) [
      | yes m ↦
          let sum : S + (I - 1) ≡ (S / I + 1) * I + (S % I - 1) = omega (arith, all) in
          let up : (S + (I - 1)) / I ≡ S / I + 1 = ap (◌/ I) sum ∙ div-mul-add (S / I + 1) I (S % I - 1) (omega arith) in
          omega (arith, up)
      | no z ↦
          let sum : S + (I - 1) ≡ S / I * I + (I - 1) = omega (arith, all) in
          let whole : (S + (I - 1)) / I ≡ S / I = ap (◌/ I) sum ∙ div-mul-add (S / I) I (I - 1) (omega arith) in
          omega (arith, whole)
    ]

pub whole-blocks : (I S n : ℕ) → Increment I → 0 < S → n ≡ blocks I S → (1 ≤ n) × (I * (n - 1) < S)
whole-blocks I S n inc some e =
    let b : BlockCount I S (blocks I S - 1) = blocks_are I S inc.some some in
    rw e (omega (arith, b.is), b.above)

block_most : (I S n T : ℕ) → I * n < S → 0 < n → S ≤ T → I ≤ T
block_most I S n T above some most = omega (arith, le-mul_of_pos_right I some)

marks_are : (hs : List ℕ) (I S p q k r b l : ℕ) → q ≡ p → k ≡ interval I (total hs) b → r ≡ 0 → b ≡ blocks I S → l ≡ S - I * (b - 1) → marks (total hs) I k l (b - 1) q r ≡ wheel_marks I (total hs) S p
unfolding wheel_marks
marks_are hs I S p q k r b l eq ek er eb el = rw (eq, er, el, ek, eb)

-- the wheel at its starting place, and all amounts 0
module _ (list : JudgedList) where
  abbrev hs : List ℕ
  hs = list.shorts.now

  abbrev S : ℕ
  S = list.exercised.0

  module _ (out cleared : List ℕ) (w : Wheel) (p I b l : ℕ) (room : length out ≡ length hs) (inc : Increment I) (part : S < total hs) (stands : Stands hs 0 p w.cursor) (ec : cleared ≡ replicate (length out) 0) (eb : b ≡ blocks I S) (el : l ≡ S - I * (b - 1)) (ek : millionths w.interval ≡ interval I list.total.0 b) (er : millionths w.reserve ≡ 0) where
    interval_is : millionths w.interval ≡ interval I (total hs) b
    interval_is = ek ∙ ap (λ t. interval I t b) list.sum

    marks-first : marks_from hs w b I l ≡ wheel_marks I (total hs) S p
    unfolding marks_from steps
    marks-first = marks_are hs I S p (place_of hs w.cursor) (millionths w.interval) (millionths w.reserve) b l stands.place interval_is er eb el

    count : BlockCount I S (blocks I S - 1)
    count = blocks_are I S inc.some list.some

    pub blocks_fit : BlocksFit hs cleared w b I l
    blocks_fit =
        record {
          ready = record {
            on = stands.on;
            short = omega (arith, interval_is, interval-short I (total hs) b inc.some (omega (arith, part)) (omega (arith, eb, count.is)));
            reserve = omega (arith, er);
            list = omega (arith, list.sum, list.small);
          };
          lengths = rw ec (length-replicate {A = ℕ} (length out) 0 ∙ room);
          some = omega (arith, eb, count.is);
          whole = λ h. block_most I S (blocks I S - 1) (total hs) count.above (omega (arith, eb, count.is)) (omega (arith, part));
          end = omega (arith, el, part);
          grown = λ j h.
              rw (marks-first, ec)
              (omega (arith, get_or-replicate {A = ℕ} (length out) j 0 0 (omega (arith, room)), marked-length (before hs j) (last hs j) (wheel_marks I (total hs) S p), length-wheel_marks I (total hs) S p inc.some list.some, list.most, list.small));
        }

    pub blocks_give : (new : List ℕ) → Assigned hs cleared new (marks_from hs w b I l) → new ≡ wheel I hs S p
    blocks_give new a =
        assigned-amounts hs out new (wheel_marks I (total hs) S p) room (rw (marks-first, ec) at a) ∙ ap (amounts hs) (wheel_places I (total hs) S p) ∙ sym (wheel_part I hs S p part)

pub used_whole : (I T S : ℕ) → S ≡ T → 0 ≡ blocks_used I T S
unfolding blocks_used
used_whole I T S e = rw (eq-eqb S T e)

pub used_part : (I T S : ℕ) → S < T → blocks I S ≡ blocks_used I T S
unfolding blocks_used
used_part I T S h = let d : S ≡ T → ⊥ = λ e. omega arith in rw (ne_eqb S T d)
