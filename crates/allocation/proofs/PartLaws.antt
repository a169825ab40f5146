-- The two parts of a list that a run hands on, from element a to the end and from the top up to element e, and what is known of each.
use Prim.Native.Nat.{ℕ, suc, ◌+◌, ◌-◌, ◌≤◌, ◌<◌, min}
use mathlib.Core.Path.{◌≡◌, sym, ap, ◌∙◌}
use mathlib.Core.List.{List, [], ◌++◌, append-nil}
use native.Mathlib.Omega.{arith}
use native.Mathlib.Nat.{add-sub_of_le, add-zero, add_assoc}
use native.Mathlib.Decide.{dec_lt}
use lib.ListN.{length, get_or, take, drop, length-drop, length-append, take-append-drop, get_or-append}
use lib.Seq.{take_all, take-add, drop-drop, drop-length, get_or-drop, get_or-append-add, length-take-le, get_or-take, take-take}
use borrow.Rule.Slice.PartMut.{put_mid, post_of}
use Rattle.std.specs.Prelude.{Ok, Err}
use Rattle.series.specs.Places.{total, before, last}
use Rattle.series.specs.declared.Contracts.{Contracts}
use Rattle.series.proofs.SumLaws.{total-append}
use Rattle.series.proofs.PlaceLaws.{before-suc, before_mono}
use Rattle.allocation.specs.declared.places.Cursor.{Cursor}
use Rattle.allocation.specs.Stretch.{overlap, Ends, Grown, Small, OnList, contracts_before}
use Rattle.allocation.proofs.StretchLaws.{last_is, overlap_none, overlap_beyond}

-- the part from a to the end
abbrev pub rest : List ℕ → ℕ → List ℕ
rest xs a = take (length xs - a) (drop a xs)

rest_is : (xs : List ℕ) (a : ℕ) → rest xs a ≡ drop a xs
rest_is xs a = take_all (length xs - a) (drop a xs) (omega (arith, length-drop a xs))

-- a list is its part up to a and the rest
total_parts : (hs : List ℕ) (a : ℕ) → total hs ≡ before hs a + total (drop a hs)
unfolding before
total_parts hs a = ap total (sym (take-append-drop a hs)) ∙ total-append (take a hs) (drop a hs)

-- the positions of the rest stand after those before it
before-drop : (hs : List ℕ) (a j : ℕ) → before hs (a + j) ≡ before hs a + before (drop a hs) j
unfolding before
before-drop hs a j = ap total (take-add a j hs) ∙ total-append (take a hs) (take j (drop a hs))

last-drop : (hs : List ℕ) (a j : ℕ) → last hs (a + j) ≡ before hs a + last (drop a hs) j
last-drop hs a j =
    omega (arith, last_is hs (a + j), last_is (drop a hs) j, before-drop hs a j, get_or-drop a hs j 0)

-- the positions of the part from the top are those of the list
before-take : (hs : List ℕ) (e j : ℕ) → j ≤ e → before (take e hs) j ≡ before hs j
unfolding before
before-take hs e j h = ap total (take-take j e hs h)

last-take : (hs : List ℕ) (e j : ℕ) → j < e → last (take e hs) j ≡ last hs j
last-take hs e j h = omega (arith, last_is (take e hs) j, last_is hs j, before-take hs e j (omega arith), get_or-take e hs j 0 h)

-- the first position of the rest
pub first_rest : (hs : List ℕ) (a p : ℕ) → p ≤ get_or hs a 0 → p ≤ get_or (rest hs a) 0 0
first_rest hs a p h = rw (rest_is hs a, get_or-drop a hs 0 0, add-zero a) h

-- n contracts, after the first p ones of the rest, end in the rest
pub ends_rest : (hs : List ℕ) (a p n : ℕ) (r : Cursor) → Ends (rest hs a) (p + n) (Ok r) → Ends hs (before hs a + p + n) (Ok (record { at = a + r.at; passed = r.passed }))
ends_rest hs a p n r e =
    let ends : Ends (drop a hs) (p + n) (Ok r) = rw (rest_is hs a) at e in (
      record { position = omega (arith, ends.0.position, length-drop a hs); contract = omega (arith, ends.0.contract, get_or-drop a hs r.at 0) },
      omega (arith, ends.1, before-drop hs a r.at),
    )

-- or past it
pub past_rest : (hs : List ℕ) (a p n : ℕ) (l : Contracts) → Ends (rest hs a) (p + n) (Err l) → Ends hs (before hs a + p + n) (Err l)
past_rest hs a p n l e = let ends : Ends (drop a hs) (p + n) (Err l) = rw (rest_is hs a) at e in omega (arith, ends, total_parts hs a)

-- contracts that end in the part from the top
pub ends_top : (hs : List ℕ) (e x : ℕ) (r : Cursor) → e ≤ length hs → Ends (take e hs) x (Ok r) → Ends hs x (Ok r)
ends_top hs e x r h ends =
    let less : r.at < e = omega (arith, ends.0.position, length-take-le e hs h) in (
      record { position = omega arith; contract = omega (arith, ends.0.contract, get_or-take e hs r.at 0 less) },
      omega (arith, ends.1, before-take hs e r.at (omega arith)),
    )

overlap_shift : (B b e lo hi : ℕ) → overlap (B + b) (B + e) (B + lo) (B + hi) ≡ overlap b e lo hi
unfolding overlap
overlap_shift B b e lo hi = omega arith

-- the amounts with the rest put back
put_is : (xs ys : List ℕ) (a : ℕ) → a ≤ length xs → put_mid a (length xs - a) xs ys ≡ take a xs ++ ys
put_is xs ys a h =
    let none : post_of a (length xs - a) xs ≡ [] = drop-drop (length xs - a) a xs ∙ ap (λ n. drop n xs) (add-sub_of_le h) ∙ drop-length xs in
    ap (λ zs. take a xs ++ (ys ++ zs)) none ∙ ap (take a xs ++◌) (append-nil ys)

put_before : (xs ys : List ℕ) (a j : ℕ) → a ≤ length xs → j < a → get_or (take a xs ++ ys) j 0 ≡ get_or xs j 0
put_before xs ys a j h l =
    get_or-append (take a xs) ys 0 j (omega (arith, length-take-le a xs h)) ∙ get_or-take a xs j 0 l

put_after : (xs ys : List ℕ) (a j : ℕ) → a ≤ length xs → get_or (take a xs ++ ys) (a + j) 0 ≡ get_or ys j 0
put_after xs ys a j h =
    ap (λ n. get_or (take a xs ++ ys) (n + j) 0) (sym (length-take-le a xs h)) ∙ get_or-append-add (take a xs) ys j 0

module _ (hs old : List ℕ) (a lo hi : ℕ) (h : a ≤ length hs) (l : length old ≡ length hs) where
  shifted : (i : ℕ) → get_or (drop a old) i 0 + overlap (before (drop a hs) i) (last (drop a hs) i) lo hi ≡ get_or old (a + i) 0 + overlap (before hs (a + i)) (last hs (a + i)) (before hs a + lo) (before hs a + hi)
  shifted i =
      rw (get_or-drop a old i 0, before-drop hs a i, last-drop hs a i, overlap_shift (before hs a) (before (drop a hs) i) (last (drop a hs) i) lo hi)

  grown_drop : (new : List ℕ) → Grown (drop a hs) (drop a old) new lo hi → Grown hs old (take a old ++ new) (before hs a + lo) (before hs a + hi)
  grown_drop new g =
      record {
        same_length = length-append (take a old) new ∙ omega (arith, length-take-le a old (omega arith), g.same_length, length-drop a old);
        grown = λ j k. elim (dec_lt j a) [
          | yes less ↦
              put_before old new a j (omega arith) less ∙
              omega (arith, overlap_none (before hs j) (last hs j) (before hs a + lo) (before hs a + hi) (omega (arith, before-suc hs j k, before_mono hs (suc j) a less h)))
          | no more ↦
              let i : ℕ = j - a in
              let e : j ≡ a + i = omega arith in
              rw e (put_after old new a i (omega arith) ∙ g.grown i (omega (arith, length-drop a hs)) ∙ shifted i)
        ];
      }

-- what the amounts of the part that a cursor stands in grew by, said of the whole list
pub grown_rest : (hs old new : List ℕ) (c : Cursor) (s n : ℕ) → OnList hs c → length old ≡ length hs → s ≡ min c.at (length old) → Grown (rest hs c.at) (rest old s) new c.passed.0 (c.passed.0 + n) → Grown hs old (put_mid s (length old - s) old new) (contracts_before hs c) (contracts_before hs c + n)
grown_rest hs old new c s n on l e g =
    let h : c.at ≤ length hs = omega (arith, on.position) in
    let same : s ≡ c.at = omega arith in
    let part : Grown (drop c.at hs) (drop c.at old) new c.passed.0 (c.passed.0 + n) = rw (same, rest_is hs c.at, rest_is old c.at) at g in
    rw (same, put_is old new c.at (omega arith), add_assoc (before hs c.at) c.passed.0 n) (grown_drop hs old c.at c.passed.0 (c.passed.0 + n) h l new part)

-- what the amounts of the part from the top grew by, where the contracts end within it, said of the whole list
pub grown_top : (hs old new : List ℕ) (e t x : ℕ) → length old ≡ length hs → e ≤ length hs → t ≡ min e (length old) → x ≤ before hs e → Grown (take e hs) (take t old) new 0 x → Grown hs old (new ++ drop t old) 0 x
grown_top hs old new e t x l h q within part =
    let same : t ≡ e = omega arith in
    let g : Grown (take e hs) (take e old) new 0 x = rw same at part in
    let size : length new ≡ e = g.same_length ∙ length-take-le e old (omega arith) in
    rw same record {
      same_length = length-append new (drop e old) ∙ omega (arith, length-drop e old);
      grown = λ j k. elim (dec_lt j e) [
        | yes less ↦
            get_or-append new (drop e old) 0 j (omega arith) ∙ g.grown j (omega (arith, length-take-le e hs h)) ∙
            rw (get_or-take e old j 0 less, before-take hs e j (omega arith), last-take hs e j less)
        | no more ↦
            let i : ℕ = j - e in
            let at : j ≡ length new + i = omega arith in
            let kept : get_or (new ++ drop e old) j 0 ≡ get_or old j 0 = ap (λ k. get_or (new ++ drop e old) k 0) at ∙ get_or-append-add new (drop e old) i 0 ∙ get_or-drop e old i 0 ∙ ap (λ k. get_or old k 0) (omega arith) in
            kept ∙ omega (arith, overlap_beyond (before hs j) (last hs j) 0 x (omega (arith, before_mono hs e j (omega arith) (omega arith))))
      ];
    }

-- the parts of a small list, and of its amounts
pub small_rest : (hs out : List ℕ) (a s k most : ℕ) → Small hs out k → k ≤ most → a ≤ length hs → s ≡ min a (length out) → Small (rest hs a) (rest out s) most
small_rest hs out a s k most small l h e =
    let same : s ≡ a = omega (arith, small.lengths) in
    rw (same, rest_is hs a, rest_is out a) record {
      lengths = omega (arith, length-drop a hs, length-drop a out, small.lengths);
      list = omega (arith, small.list, total_parts hs a);
      amounts = λ j h. omega (arith, length-drop a hs, get_or-drop a out j 0, small.amounts (a + j) (omega (arith, length-drop a hs)));
    }

pub small_top : (hs out : List ℕ) (e t most : ℕ) → Small hs out most → e ≤ length hs → t ≡ min e (length out) → Small (take e hs) (take t out) most
unfolding before
small_top hs out e t most small h q =
    let same : t ≡ e = omega (arith, small.lengths) in
    rw same record {
      lengths = omega (arith, length-take-le e hs h, length-take-le e out (omega (arith, small.lengths)), small.lengths);
      list = omega (arith, small.list, total_parts hs e);
      amounts = λ j k. omega (arith, length-take-le e hs h, get_or-take e out j 0 (omega (arith, length-take-le e hs h)), small.amounts j (omega (arith, length-take-le e hs h)));
    }
