-- Laws of places and marks, over any list of offsets from a starting place. The wheel and the lottery cite them.
use Prim.Native.Nat.{ℕ, zero, suc, ◌+◌, ◌-◌, ◌*◌, ◌≤◌, ◌<◌, min, max}
use mathlib.Core.Path.{◌≡◌, refl, sym, ap, ap₂, ◌∙◌}
use mathlib.Core.List.{List, [], ◌∷◌, ◌++◌}
use native.Mathlib.Omega.{arith}
use native.Mathlib.Nat.{le_refl, zero-add, add-zero, suc-add, add-suc, mul_comm}
use native.Mathlib.Decide.{dec_lt, dec_le, ℕ_discrete}
use lib.ListN.{length, get_or}
use lib.Seq.{take-length}
use borrow.Author.Tests.{lt-ltb, le-ltb, le-leb, lt-leb, eq-eqb, ne_eqb}
use Rattle.series.specs.Sums.{sum_below, bit}
use Rattle.series.specs.Places.{total, next, steps, run, within, marked, before, last, amounts, OnWheel, over_places}
use Rattle.series.proofs.SumLaws.{sum_cong, sum-add, sum_const, sum_head, length-listed, get_d_listed, total-listed, sum_first, bit_le}

pub next_last : (T : ℕ) → next T T ≡ 1
unfolding next
next_last T = rw (eq-eqb T T refl)

pub next_plain : (T p : ℕ) → p < T → next T p ≡ suc p
unfolding next
next_plain T p h = let e : p ≡ T → ⊥ = λ q. omega arith in rw (ne_eqb p T e) (omega arith)

pub next-on : (T p : ℕ) → OnWheel T p → OnWheel T (next T p)
next-on T p h =
    elim (ℕ_discrete p T) [
      | yes e ↦ let n : next T p ≡ 1 = ap (next T) e ∙ next_last T in record { low = omega arith; high = omega (arith, h.low, h.high) }
      | no d ↦ let n : next T p ≡ suc p = next_plain T p (omega (arith, h.high)) in record { low = omega arith; high = omega (arith, h.high) }
    ]

pub steps_on : (T n p : ℕ) → OnWheel T p → OnWheel T (steps T n p)
unfolding steps
steps_on T zero p h = h
steps_on T (suc n) p h = steps_on T n (next T p) (next-on T p h)

pub steps_next : (T n p : ℕ) → steps T n (next T p) ≡ next T (steps T n p)
unfolding steps
steps_next T zero p = refl
steps_next T (suc n) p = steps_next T n (next T p)

pub steps-suc : (T n p : ℕ) → steps T (suc n) p ≡ next T (steps T n p)
unfolding steps
steps-suc T n p = steps_next T n p

pub steps-add : (T a b p : ℕ) → steps T (a + b) p ≡ steps T b (steps T a p)
unfolding steps
steps-add T zero b p = ap (λ n. steps T n p) (zero-add b)
steps-add T (suc a) b p = ap (λ n. steps T n p) (suc-add a b) ∙ steps-add T a b (next T p)

-- without passing T
pub steps_plain : (T n p : ℕ) → p + n ≤ T → steps T n p ≡ p + n
unfolding steps
steps_plain T zero p h = omega arith
steps_plain T (suc n) p h = ap (steps T n) (next_plain T p (omega arith)) ∙ steps_plain T n (suc p) (omega arith) ∙ omega arith

-- one whole turn
pub steps-turn : (T p : ℕ) → OnWheel T p → steps T T p ≡ p
unfolding steps
steps-turn T p h =
    let n : ℕ = T - p in
    let m : ℕ = p - 1 in
    let whole : T ≡ n + suc m = omega (arith, h.low, h.high) in
    let up : steps T n p ≡ T = steps_plain T n p (omega (arith, h.high)) ∙ omega (arith, h.high) in
    ap (λ k. steps T k p) whole ∙ steps-add T n (suc m) p ∙ ap (λ q. steps T m (next T q)) up ∙ ap (steps T m) (next_last T) ∙ steps_plain T m 1 (omega (arith, h.low, h.high)) ∙ omega (arith, h.low)

-- the numbers a, a + 1, .., n of them
unfoldable pub up_from : ℕ → ℕ → List ℕ
up_from a zero = []
up_from a (suc n) = a ∷ up_from (suc a) n

pub length-up_from : (a n : ℕ) → length (up_from a n) ≡ n
unfolding up_from
length-up_from a zero = refl
length-up_from a (suc n) = ap suc (length-up_from (suc a) n)

-- the places at the offsets os from place p
unfoldable pub places_at : ℕ → List ℕ → ℕ → List ℕ
places_at T [] p = []
places_at T (o ∷ os) p = steps T o p ∷ places_at T os p

pub places_append : (T : ℕ) (os us : List ℕ) (p : ℕ) → places_at T (os ++ us) p ≡ places_at T os p ++ places_at T us p
unfolding places_at
places_append T [] us p = refl
places_append T (o ∷ os) us p = ap (steps T o p ∷◌) (places_append T os us p)

pub length-places : (T : ℕ) (os : List ℕ) (p : ℕ) → length (places_at T os p) ≡ length os
unfolding places_at
length-places T [] p = refl
length-places T (o ∷ os) p = ap suc (length-places T os p)

-- a run is the places at offsets one after the other
pub run_places : (T n a p : ℕ) → run T n (steps T a p) ≡ places_at T (up_from a n) p
unfolding run up_from places_at
run_places T zero a p = refl
run_places T (suc n) a p = ap (steps T a p ∷◌) (ap (run T n) (sym (steps-suc T a p)) ∙ run_places T n (suc a) p)

pub within_yes : (b e m : ℕ) → b < m → m ≤ e → bit (within b e m) ≡ 1
unfolding within bit
within_yes b e m h k = rw (lt-ltb b m h, le-leb m e k)

pub within_low : (b e m : ℕ) → m ≤ b → bit (within b e m) ≡ 0
unfolding within bit
within_low b e m h = rw (le-ltb b m h)

pub within-high : (b e m : ℕ) → e < m → bit (within b e m) ≡ 0
unfolding within bit
within-high b e m h = elim (dec_lt b m) [ yes l ↦ rw (lt-ltb b m l, lt-leb m e h) | no g ↦ rw (le-ltb b m (omega arith)) ]

-- a run of a + n places is one of a, and then one of n
pub run-add : (T a n p : ℕ) → run T (a + n) p ≡ run T a p ++ run T n (steps T a p)
unfolding run steps
run-add T zero n p = ap (λ k. run T k p) (zero-add n)
run-add T (suc a) n p = ap (λ k. run T k p) (suc-add a n) ∙ ap (p ∷◌) (run-add T a n (next T p))

-- without passing T
pub run_plain : (T n q : ℕ) → q + n ≤ T → run T n (suc q) ≡ up_from (suc q) n
unfolding run up_from
run_plain T zero q h = refl
run_plain T (suc zero) q h = refl
run_plain T (suc (suc n)) q h =
    ap (suc q ∷◌) (ap (run T (suc n)) (next_plain T (suc q) (omega arith)) ∙ run_plain T (suc n) (suc q) (omega arith))

-- T ends the list, and 1 comes after it
pub steps_top : (T q : ℕ) → q < T → steps T (T - q) (suc q) ≡ 1
steps_top T q h =
    let n : ℕ = T - suc q in
    let e : T - q ≡ suc n = omega arith in
    let up : steps T n (suc q) ≡ T = steps_plain T n (suc q) (omega arith) ∙ omega arith in
    ap (λ k. steps T k (suc q)) e ∙ steps-suc T n (suc q) ∙ ap (next T) up ∙ next_last T

pub steps-past : (T n q : ℕ) → q < T → T ≤ q + n → q + n - T < T → steps T n (suc q) ≡ suc (q + n - T)
steps-past T n q h l less =
    let m : ℕ = q + n - T in
    let e : n ≡ (T - q) + m = omega arith in
    ap (λ k. steps T k (suc q)) e ∙ steps-add T (T - q) m (suc q) ∙ ap (steps T m) (steps_top T q h) ∙ steps_plain T m 1 (omega arith) ∙ omega arith

pub run_past : (T n q : ℕ) → q < T → T ≤ q + n → q + n - T ≤ T → run T n (suc q) ≡ up_from (suc q) (T - q) ++ up_from 1 (q + n - T)
run_past T n q h l less =
    let m : ℕ = q + n - T in
    let e : n ≡ (T - q) + m = omega arith in
    ap (λ k. run T k (suc q)) e ∙ run-add T (T - q) m (suc q) ∙ ap₂ ◌++◌ (run_plain T (T - q) q (omega arith)) (ap (run T m) (steps_top T q h) ∙ run_plain T m 0 (omega arith))

-- marks on b + 1 up to c, and on c + 1 up to e, are the marks on b + 1 up to e
within-split : (b c e m : ℕ) → b ≤ c → c ≤ e → bit (within b c m) + bit (within c e m) ≡ bit (within b e m)
within-split b c e m hb he =
    elim (dec_lt b m) [
      | yes bm ↦
          elim (dec_le m c) [
            | yes mc ↦ omega (arith, within_yes b c m bm mc, within_low c e m mc, within_yes b e m bm (omega arith))
            | no cm ↦
                elim (dec_le m e) [
                  | yes me ↦ omega (arith, within-high b c m (omega arith), within_yes c e m (omega arith) me, within_yes b e m bm me)
                  | no em ↦ omega (arith, within-high b c m (omega arith), within-high c e m (omega arith), within-high b e m (omega arith))
                ]
          ]
      | no mb ↦ omega (arith, within_low b c m (omega arith), within_low c e m (omega arith), within_low b e m (omega arith))
    ]

pub marked-split : (b c e : ℕ) (ms : List ℕ) → b ≤ c → c ≤ e → marked b c ms + marked c e ms ≡ marked b e ms
unfolding marked
marked-split b c e [] hb he = refl
marked-split b c e (m ∷ ms) hb he = omega (arith, marked-split b c e ms hb he, within-split b c e m hb he)

pub marked_append : (b e : ℕ) (xs ys : List ℕ) → marked b e (xs ++ ys) ≡ marked b e xs + marked b e ys
unfolding marked
marked_append b e [] ys = omega arith
marked_append b e (x ∷ xs) ys = omega (arith, marked_append b e xs ys)

pub marked-length : (b e : ℕ) (ms : List ℕ) → marked b e ms ≤ length ms
unfolding marked
marked-length b e [] = omega arith
marked-length b e (m ∷ ms) = omega (arith, marked-length b e ms, bit_le (within b e m))

pub marked_none : (b : ℕ) (ms : List ℕ) → marked b b ms ≡ 0
marked_none b ms = omega (arith, marked-split b b b ms (le_refl b) (le_refl b))

-- how many of the places q + 1 up to q + n are contracts b + 1 up to e
pub marked_up_from : (b e q n : ℕ) → b ≤ e → marked b e (up_from (suc q) n) ≡ min e (q + n) - max b q
unfolding marked up_from
marked_up_from b e q zero h = omega arith
marked_up_from b e q (suc n) h =
    let after : marked b e (up_from (suc (suc q)) n) ≡ min e (suc q + n) - max b (suc q) = marked_up_from b e (suc q) n h in
    elim (dec_lt b (suc q)) [
      | yes bq ↦
          elim (dec_le (suc q) e)
          [ yes qe ↦ omega (arith, within_yes b e (suc q) bq qe) | no eq ↦ omega (arith, within-high b e (suc q) (omega arith)) ]
      | no qb ↦ omega (arith, within_low b e (suc q) (omega arith))
    ]

-- the next position begins where this one ends
pub before-suc : (hs : List ℕ) (i : ℕ) → i < length hs → before hs (suc i) ≡ last hs i
unfolding before last total
before-suc [] i h = absurd (omega arith)
before-suc (h ∷ hs) zero l = omega arith
before-suc (h ∷ hs) (suc i) l = omega (arith, before-suc hs i (omega arith))

pub before_all : (hs : List ℕ) → before hs (length hs) ≡ total hs
unfolding before
before_all hs = ap total (take-length hs)

pub before_mono : (hs : List ℕ) (i n : ℕ) → i ≤ n → n ≤ length hs → before hs i ≤ before hs n
unfolding last
before_mono hs i zero h l = let e : i ≡ 0 = omega arith in omega (arith, ap (before hs) e)
before_mono hs i (suc n) h l =
    elim (dec_le i n) [
      | yes k ↦ omega (arith, before_mono hs i n k (omega arith), before-suc hs n l)
      | no g ↦ let e : i ≡ suc n = omega arith in omega (arith, ap (before hs) e)
    ]

pub last-total : (hs : List ℕ) (i : ℕ) → i < length hs → last hs i ≤ total hs
last-total hs i h = omega (arith, before-suc hs i h, before_mono hs (suc i) (length hs) h (le_refl (length hs)), before_all hs)

pub before-zero : (hs : List ℕ) → before hs 0 ≡ 0
unfolding before total
before-zero hs = refl

-- the amounts add up to the marks on all contracts of the list
amounts-below : (hs ms : List ℕ) (n : ℕ) → n ≤ length hs → sum_below (λ i. marked (before hs i) (last hs i) ms) n ≡ marked 0 (before hs n) ms
unfolding sum_below
amounts-below hs ms zero h = sym (marked_none 0 ms) ∙ ap (λ e. marked 0 e ms) (sym (before-zero hs))
amounts-below hs ms (suc n) h =
    let split : marked 0 (before hs n) ms + marked (before hs n) (last hs n) ms ≡ marked 0 (last hs n) ms = marked-split 0 (before hs n) (last hs n) ms (omega arith) (omega (arith, before-suc hs n h, before_mono hs n (suc n) (omega arith) h)) in
    omega (arith, amounts-below hs ms n (omega arith), ap (λ e. marked 0 e ms) (before-suc hs n h))

pub amounts-total : (hs ms : List ℕ) → total (amounts hs ms) ≡ marked 0 (total hs) ms
unfolding amounts
amounts-total hs ms = total-listed (λ i. marked (before hs i) (last hs i) ms) (length hs) ∙ amounts-below hs ms (length hs) (le_refl (length hs)) ∙ ap (λ e. marked 0 e ms) (before_all hs)

-- every place is one of the contracts 1 to T
pub marked_all : (T : ℕ) (os : List ℕ) (p : ℕ) → OnWheel T p → marked 0 T (places_at T os p) ≡ length os
unfolding marked places_at
marked_all T [] p h = refl
marked_all T (o ∷ os) p h =
    let on : OnWheel T (steps T o p) = steps_on T o p h in
    omega (arith, within_yes 0 T (steps T o p) on.low on.high, marked_all T os p h)

-- THE SUM: from any starting place the amounts add up to the number of offsets
pub places_sum : (hs os : List ℕ) (p : ℕ) → OnWheel (total hs) p → total (amounts hs (places_at (total hs) os p)) ≡ length os
places_sum hs os p h = amounts-total hs (places_at (total hs) os p) ∙ marked_all (total hs) os p h

-- one step round the wheel changes no sum over all places
over_next : (T : ℕ) (f : ℕ → ℕ) → over_places T (λ p. f (next T p)) ≡ over_places T f
unfolding over_places sum_below
over_next zero f = refl
over_next (suc t) f =
    ap₂ ◌+◌ (sum_cong (λ i. f (next (suc t) (suc i))) (λ i. f (suc (suc i))) t (λ i h. ap f (next_plain (suc t) (suc i) (omega arith)))) (ap f (next_last (suc t))) ∙
    omega (arith, sum_head (λ i. f (suc i)) t)

pub over_steps : (T o : ℕ) (f : ℕ → ℕ) → over_places T (λ p. f (steps T o p)) ≡ over_places T f
unfolding steps
over_steps T zero f = refl
over_steps T (suc o) f = over_next T (λ p. f (steps T o p)) ∙ over_steps T o f

pub over_cong : (T : ℕ) (f g : ℕ → ℕ) → ((p : ℕ) → OnWheel T p → f p ≡ g p) → over_places T f ≡ over_places T g
unfolding over_places
over_cong T f g h = sum_cong (λ i. f (suc i)) (λ i. g (suc i)) T (λ i l. h (suc i) (record { low = omega arith; high = l }))

pub over_const : (T c : ℕ) → over_places T (λ _. c) ≡ T * c
unfolding over_places
over_const T c = sum_const c T

-- of the places 1 to n, those from b + 1 up to e
within-sum : (b e n : ℕ) → b ≤ e → over_places n (λ p. bit (within b e p)) ≡ min e n - min b n
unfolding over_places sum_below
within-sum b e zero h = omega arith
within-sum b e (suc n) h =
    let before : sum_below (λ i. bit (within b e (suc i))) n ≡ min e n - min b n = within-sum b e n h in
    elim (dec_lt b (suc n)) [
      | yes bn ↦
          elim (dec_le (suc n) e)
          [ yes ne ↦ omega (arith, within_yes b e (suc n) bn ne) | no en ↦ omega (arith, within-high b e (suc n) (omega arith)) ]
      | no nb ↦ omega (arith, within_low b e (suc n) (omega arith))
    ]

-- position i's amount: the marks on its contracts
pub amount-at : (hs ms : List ℕ) (i : ℕ) → i < length hs → get_or (amounts hs ms) i 0 ≡ marked (before hs i) (last hs i) ms
unfolding amounts
amount-at hs ms i h = get_d_listed (λ i. marked (before hs i) (last hs i) ms) (length hs) i h

pub length-amounts : (hs ms : List ℕ) → length (amounts hs ms) ≡ length hs
unfolding amounts
length-amounts hs ms = length-listed (λ i. marked (before hs i) (last hs i) ms) (length hs)

-- the marks on contracts b + 1 up to e, over all starting places
marked_over : (T b e : ℕ) (os : List ℕ) → b ≤ e → e ≤ T → over_places T (λ p. marked b e (places_at T os p)) ≡ length os * (e - b)
unfolding marked places_at over_places
marked_over T b e [] hb he = sum_const 0 T ∙ omega arith
marked_over T b e (o ∷ os) hb he =
    sum-add (λ i. bit (within b e (steps T o (suc i)))) (λ i. marked b e (places_at T os (suc i))) T ∙
    omega (arith, over_steps T o (λ p. bit (within b e p)), within-sum b e T hb, marked_over T b e os hb he)

own : (hs : List ℕ) (i : ℕ) → last hs i - before hs i ≡ get_or hs i 0
unfolding last
own hs i = omega arith

-- THE SHARE: summed over all starting places, position i gets its shorts times the number of offsets
pub places_share : (hs os : List ℕ) (i : ℕ) → i < length hs → over_places (total hs) (λ p. get_or (amounts hs (places_at (total hs) os p)) i 0) ≡ get_or hs i 0 * length os
unfolding last
places_share hs os i h =
    over_cong (total hs) (λ p. get_or (amounts hs (places_at (total hs) os p)) i 0) (λ p. marked (before hs i) (last hs i) (places_at (total hs) os p)) (λ p _. amount-at hs (places_at (total hs) os p) i h) ∙
    marked_over (total hs) (before hs i) (last hs i) os (omega arith) (last-total hs i h) ∙
    ap (length os *◌) (own hs i) ∙
    mul_comm (length os) (get_or hs i 0)

-- the offsets os rise from a on and stay below n
unfoldable pub Rising : ℕ → List ℕ → ℕ → Type 0
Rising a [] n = a ≤ n
Rising a (o ∷ os) n = (a ≤ o) × Rising (suc o) os n

pub rising_up_from : (a k n : ℕ) → a + k ≤ n → Rising a (up_from a k) n
unfolding Rising up_from
rising_up_from a zero n h = omega arith
rising_up_from a (suc k) n h = (le_refl a, rising_up_from (suc a) k n (omega arith))

pub rising_append : (a k : ℕ) (os : List ℕ) (n : ℕ) → Rising (a + k) os n → Rising a (up_from a k ++ os) n
unfolding up_from Rising
rising_append a zero os n h = rw (add-zero a) at h
rising_append a (suc k) os n h = (le_refl a, rising_append (suc a) k os n (rw (add-suc a k, ← suc-add a k) at h))

pub rising_more : (a c : ℕ) (os : List ℕ) (n : ℕ) → a ≤ c → Rising c os n → Rising a os n
unfolding Rising
rising_more a c [] n l h = omega arith
rising_more a c (o ∷ os) n l h = (omega (arith, h.0), h.1)

-- offsets 0 to T - 1 from the next place mark what they mark from this one
around_next : (T p : ℕ) (f : ℕ → ℕ) → OnWheel T p → sum_below (λ o. f (steps T o (next T p))) T ≡ sum_below (λ o. f (steps T o p)) T
unfolding sum_below steps
around_next T p f h =
    let g : ℕ → ℕ = λ o. f (steps T o p) in
    let turn : f (steps T T p) ≡ f p = ap f (steps-turn T p h) in
    omega (arith, sum_head g T)

-- from any starting place, offsets 0 to T - 1 pass every place once
around : (T n : ℕ) (f : ℕ → ℕ) → n < T → sum_below (λ o. f (steps T o (suc n))) T ≡ over_places T f
unfolding over_places
around T zero f h = sum_cong (λ o. f (steps T o 1)) (λ o. f (suc o)) T (λ o l. ap f (steps_plain T o 1 (omega arith) ∙ omega arith))
around T (suc n) f h =
    let e : suc (suc n) ≡ next T (suc n) = sym (next_plain T (suc n) h) in
    ap (λ q. sum_below (λ o. f (steps T o q)) T) e ∙ around_next T (suc n) f (record { low = omega arith; high = omega arith }) ∙ around T n f (omega arith)

-- marks at rising offsets are among those at all offsets
marked_rising : (T b e a p : ℕ) (os : List ℕ) → Rising a os T → sum_below (λ o. bit (within b e (steps T o p))) a + marked b e (places_at T os p) ≤ sum_below (λ o. bit (within b e (steps T o p))) T
unfolding Rising marked places_at sum_below
marked_rising T b e a p [] h = omega (arith, sum_first (λ o. bit (within b e (steps T o p))) a T h)
marked_rising T b e a p (o ∷ os) h =
    omega (arith, marked_rising T b e (suc o) p os h.1, sum_first (λ q. bit (within b e (steps T q p))) a o h.0)

pub marked-most : (T b e p : ℕ) (os : List ℕ) → OnWheel T p → Rising 0 os T → b ≤ e → e ≤ T → marked b e (places_at T os p) ≤ e - b
unfolding sum_below
marked-most T b e p os h r hb he =
    let n : ℕ = p - 1 in
    let at_p : suc n ≡ p = omega (arith, h.low) in
    let all : sum_below (λ o. bit (within b e (steps T o p))) T ≡ over_places T (λ q. bit (within b e q)) =
    rw at_p at (around T n (λ q. bit (within b e q)) (omega (arith, h.low, h.high))) in
    omega (arith, marked_rising T b e 0 p os r, within-sum b e T hb)

-- AT MOST ITS SHORTS: at rising offsets below T position i gets no more than its shorts
pub places_most : (hs os : List ℕ) (p i : ℕ) → OnWheel (total hs) p → Rising 0 os (total hs) → i < length hs → get_or (amounts hs (places_at (total hs) os p)) i 0 ≤ get_or hs i 0
unfolding last
places_most hs os p i h r l =
    omega (arith, amount-at hs (places_at (total hs) os p) i l, marked-most (total hs) (before hs i) (last hs i) p os h r (omega arith) (last-total hs i l))

-- NO CONTRACT TWICE: at rising offsets below T contract m + 1 is marked at most once
pub places_once : (T m p : ℕ) (os : List ℕ) → OnWheel T p → Rising 0 os T → m < T → marked m (suc m) (places_at T os p) ≤ 1
places_once T m p os h r l = omega (arith, marked-most T m (suc m) p os h r (omega arith) l)
