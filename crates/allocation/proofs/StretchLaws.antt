-- A walk down a list: what is kept at each position, and what it comes to.
use Prim.Native.Nat.{ℕ, suc, ◌+◌, ◌-◌, ◌≤◌, ◌<◌, min, max}
use mathlib.Core.Path.{◌≡◌, refl, sym, ap, ◌∙◌}
use mathlib.Core.Bool.{true, not}
use mathlib.Core.List.{List}
use lib.Dec.{eqb}
use borrow.Author.Tests.{ne_eqb}
use native.Mathlib.Omega.{arith}
use native.Mathlib.Nat.{le_refl}
use native.Mathlib.Numerals.{add-one}
use native.Mathlib.Decide.{dec_le, ℕ_discrete}
use lib.ListN.{length, get_or, set, length-set, get_or-eq_default}
use lib.Seq.{get_or-set_same, get_or-set_other}
use Rattle.series.specs.Series.{MOST_CONTRACTS}
use Rattle.series.specs.Places.{before, last}
use Rattle.series.proofs.SumLaws.{total_term}
use Rattle.series.proofs.PlaceLaws.{before-suc, before_mono, before_all, before-zero}
use Rattle.std.specs.Prelude.{Ok, Err}
use Rattle.allocation.specs.Stretch.{overlap, Ends, Grown, Small}

-- a const parameter ASSIGNS, a number in code and a Bool in clauses
pub flag_on : (n : ℕ) → (n ≡ 0 → ⊥) → not (eqb n 0) ≡ true
flag_on n h = ap not (ne_eqb n 0 h)

pub on_flag : (n : ℕ) → not (eqb n 0) ≡ true → n ≡ 0 → ⊥
on_flag n e z = cc (rw z at e)

-- at position i, after lo passed contracts and on the way to x: so many of its contracts are passed and so many are left to go
pub record Walk (hs : List ℕ) (lo x i passed left : ℕ) : Type 0 where
  pub on_list : i ≤ length hs
  pub reached : before hs i + passed + left ≡ x
  pub low : before hs i + passed ≡ max (before hs i) lo
  pub fits : passed ≤ get_or hs i 0

pub last_is : (hs : List ℕ) (i : ℕ) → last hs i ≡ before hs i + get_or hs i 0
unfolding last
last_is hs i = refl

pub next-before : (hs : List ℕ) (i : ℕ) → i < length hs → before hs (i + 1) ≡ before hs i + get_or hs i 0
next-before hs i h = ap (before hs) (add-one i) ∙ before-suc hs i h ∙ last_is hs i

pub walk_start : (hs : List ℕ) (i p n : ℕ) → i ≤ length hs → p ≤ get_or hs i 0 → Walk hs (before hs i + p) (before hs i + p + n) i p n
walk_start hs i p n l h = record { on_list = l; reached = refl; low = omega arith; fits = h }

pub walk_first : (hs : List ℕ) (p n : ℕ) → p ≤ get_or hs 0 0 → Walk hs p (p + n) 0 p n
walk_first hs p n h = record { on_list = omega arith; reached = omega (arith, before-zero hs); low = omega (arith, before-zero hs); fits = h }

pub walk_next : (hs : List ℕ) (lo x i passed left : ℕ) → Walk hs lo x i passed left → i < length hs → get_or hs i 0 - passed ≤ left → Walk hs lo x (i + 1) 0 (left - (get_or hs i 0 - passed))
walk_next hs lo x i passed left w h l =
    record {
      on_list = omega arith;
      reached = omega (arith, w.reached, w.fits, next-before hs i h);
      low = omega (arith, w.low, w.fits, next-before hs i h);
      fits = omega arith;
    }

pub walk_inside : (hs : List ℕ) (lo x i passed left : ℕ) → Walk hs lo x i passed left → i < length hs → left < get_or hs i 0 - passed → Ends hs x (Ok (record { at = i; passed = record { 0 = passed + left } }))
walk_inside hs lo x i passed left w h l = (record { position = h; contract = omega arith }, omega (arith, w.reached))

pub walk_past : (hs : List ℕ) (lo x i passed left : ℕ) → Walk hs lo x i passed left → length hs ≤ i → Ends hs x (Err (record { 0 = left }))
walk_past hs lo x i passed left w h =
    let all : i ≡ length hs = omega (arith, w.on_list) in
    omega (arith, w.reached, w.fits, get_or-eq_default hs 0 h, ap (before hs) all, before_all hs)

-- the amounts before position i have grown, the others not yet
pub record Growing (hs old new : List ℕ) (lo x i : ℕ) : Type 0 where
  pub same_length : length new ≡ length old
  pub done : (j : ℕ) → j < i → get_or new j 0 ≡ get_or old j 0 + overlap (before hs j) (last hs j) lo x
  pub rest : (j : ℕ) → i ≤ j → get_or new j 0 ≡ get_or old j 0

pub overlap_none : (b e lo hi : ℕ) → e ≤ lo → overlap b e lo hi ≡ 0
unfolding overlap
overlap_none b e lo hi h = omega arith

pub overlap_beyond : (b e lo hi : ℕ) → hi ≤ b → overlap b e lo hi ≡ 0
unfolding overlap
overlap_beyond b e lo hi h = omega arith

pub growing_start : (hs old : List ℕ) (i p x : ℕ) → i ≤ length hs → Growing hs old old (before hs i + p) x i
growing_start hs old i p x l =
    record {
      same_length = refl;
      done = λ j h. omega (arith, overlap_none (before hs j) (last hs j) (before hs i + p) x (omega (arith, before-suc hs j (omega arith), before_mono hs (suc j) i h l)));
      rest = λ j h. refl;
    }

pub growing_first : (hs old : List ℕ) (lo x : ℕ) → Growing hs old old lo x 0
growing_first hs old lo x = record { same_length = refl; done = λ j h. absurd (omega arith); rest = λ j h. refl }

overlap_here : (b h lo passed left : ℕ) → b + passed ≡ max b lo → passed ≤ h → overlap b (b + h) lo (b + passed + left) ≡ min left (h - passed)
unfolding overlap
overlap_here b h lo passed left l g = omega arith

-- position i has an amount, and there is room in it for its shorts
pub held_at : (hs old new : List ℕ) (lo x i most : ℕ) → Small hs old most → Growing hs old new lo x i → i < length hs → (i < length new) × (get_or new i 0 + get_or hs i 0 ≤ most + MOST_CONTRACTS)
held_at hs old new lo x i most s g h = (omega (arith, s.lengths, g.same_length), omega (arith, g.rest i (le_refl i), s.amounts i h, s.list, total_term hs i h))

-- position i gets all that is free of it, or what is left
pub growing_next : (hs old new : List ℕ) (lo x i passed left v : ℕ) → Walk hs lo x i passed left → v ≡ min left (get_or hs i 0 - passed) → Growing hs old new lo x i → i < length new → Growing hs old (set new i (get_or new i 0 + v)) lo x (i + 1)
growing_next hs old new lo x i passed left v w e g o =
    let here : overlap (before hs i) (last hs i) lo x ≡ v = rw (last_is hs i, ← w.reached) (overlap_here (before hs i) (get_or hs i 0) lo passed left w.low w.fits ∙ sym e) in
    record {
      same_length = length-set new i (get_or new i 0 + v) ∙ g.same_length;
      done = λ j l. elim (ℕ_discrete j i) [
        | yes q ↦ rw q (get_or-set_same new i (get_or new i 0 + v) 0 o ∙ omega (arith, g.rest i (le_refl i)))
        | no q ↦ get_or-set_other new i j (get_or new i 0 + v) 0 q ∙ g.done j (omega arith)
      ];
      rest = λ j k. get_or-set_other new i j (get_or new i 0 + v) 0 (λ q. omega arith) ∙ g.rest j (omega arith);
    }

-- the last contracts are within position i
pub grown_inside : (hs old new : List ℕ) (lo x i passed left : ℕ) → Walk hs lo x i passed left → i < length hs → left < get_or hs i 0 - passed → Growing hs old new lo x (i + 1) → Grown hs old new lo x
grown_inside hs old new lo x i passed left w h l g =
    record {
      same_length = g.same_length;
      grown = λ j k. elim (dec_le (i + 1) j) [
        | yes m ↦ omega (arith, g.rest j m, overlap_beyond (before hs j) (last hs j) lo x (omega (arith, w.reached, w.fits, next-before hs i h, before_mono hs (i + 1) j m (omega arith))))
        | no m ↦ g.done j (omega arith)
      ];
    }

-- the list is passed
pub grown_past : (hs old new : List ℕ) (lo x i : ℕ) → Growing hs old new lo x i → length hs ≤ i → Grown hs old new lo x
grown_past hs old new lo x i g h = record { same_length = g.same_length; grown = λ j k. g.done j (omega arith) }
