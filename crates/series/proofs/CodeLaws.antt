-- What an accepted series has of its codes and accounts: under W its codes rise, its accounts differ, and the contracts before a position are those of smaller codes.
use Prim.Native.Nat.{ℕ, zero, suc, ◌+◌, ◌-◌, ◌≤◌, ◌<◌}
use mathlib.Core.Path.{◌≡◌, refl, sym, ap, subst, ◌∙◌}
use mathlib.Core.Bool.{Bool, true, false, cond, or-true}
use mathlib.Core.List.{List, [], ◌∷◌, ◌++◌}
use native.Mathlib.Omega.{arith}
use native.Mathlib.Decide.{dec_lt}
use lib.Dec.{eqb, leb, ltb}
use lib.ListN.{length, get_or}
use borrow.Author.Tests.{ne_eqb, lt-ltb, le-ltb, leb-false, eqb-false}
use Rattle.series.specs.Sums.{sum_below}
use Rattle.series.specs.Places.{total, before, last}
use Rattle.series.specs.Series.{Series, method, order}
use Rattle.series.specs.Refusals.{Row, first, NoneApplies, length_rows, room_rows, list_rows, stands_in, account_refused, position_rows, Accepted, list_verdict_for}
use Rattle.series.specs.declared.Method.{Method}
use Rattle.series.proofs.RowLaws.{same-below}
use Rattle.series.proofs.SumLaws.{sum_cong, sum_const, sum-split}
use Rattle.series.proofs.PlaceLaws.{before-zero, before-suc}
use Rattle.series.proofs.AcceptedLaws.{Facts, accepted_facts, positions_pass, or-false, positive}

-- each number is above b and above every earlier one
pub record RisesAbove (b : ℕ) (ns : List ℕ) : Type 0 where
  pub above : (i : ℕ) → i < length ns → b < get_or ns i 0
  pub rising : (i j : ℕ) → i < j → j < length ns → get_or ns i 0 < get_or ns j 0

-- each account is above 0 and no two positions have the same
pub record Distinct (accounts : List ℕ) : Type 0 where
  pub above : (i : ℕ) → i < length accounts → 0 < get_or accounts i 0
  pub differ : (i j : ℕ) → i < j → j < length accounts → get_or accounts i 0 ≡ get_or accounts j 0 → ⊥

-- one number in front
rises_cons : (b k : ℕ) (ks : List ℕ) → b < k → RisesAbove k ks → RisesAbove b (k ∷ ks)
rises_cons b k ks h r = record { above = above; rising = rising }
  where
    above : (i : ℕ) → i < length (k ∷ ks) → b < get_or (k ∷ ks) i 0
    above zero lt = h
    above (suc i) lt = omega (arith, r.above i (omega arith))

    rising : (i j : ℕ) → i < j → j < length (k ∷ ks) → get_or (k ∷ ks) i 0 < get_or (k ∷ ks) j 0
    rising i zero lt lt' = absurd (omega arith)
    rising zero (suc j) lt lt' = r.above j (omega arith)
    rising (suc i) (suc j) lt lt' = r.rising i j (omega arith) (omega arith)

rises_none : (b : ℕ) → RisesAbove b []
rises_none b = record { above = λ i lt. absurd (omega arith); rising = λ i j lt lt'. absurd (omega arith) }

-- positions that no row turns away rise
positions_rise : (m : Method) (earlier : List ℕ) (b sum : ℕ) (ks accounts hs : List ℕ) → length accounts ≡ length hs → length ks ≡ length hs → NoneApplies (position_rows m earlier b sum ks accounts hs) → RisesAbove b ks
unfolding position_rows NoneApplies
positions_rise m earlier b sum [] accounts hs la lk h = rises_none b
positions_rise m earlier b sum (k ∷ ks) [] hs la lk h = absurd (omega arith)
positions_rise m earlier b sum (k ∷ ks) (a ∷ accounts) [] la lk h = absurd (omega arith)
positions_rise m earlier b sum (k ∷ ks) (a ∷ accounts) (x ∷ hs) la lk h =
    rises_cons b k ks (leb-false k b (or-false (eqb k 0) (leb k b) h.0).1) (positions_rise m (a ∷ earlier) k (sum + x) ks accounts hs (omega arith) (omega arith) h.1.1.1.1)

-- and under W their accounts are above 0, none of the earlier ones, and differ
record New (earlier accounts : List ℕ) : Type 0 where
  above : (i : ℕ) → i < length accounts → 0 < get_or accounts i 0
  other : (i : ℕ) → i < length accounts → stands_in (get_or accounts i 0) earlier ≡ false
  differ : (i j : ℕ) → i < j → j < length accounts → get_or accounts i 0 ≡ get_or accounts j 0 → ⊥

new-cons : (earlier : List ℕ) (a : ℕ) (accounts : List ℕ) → 0 < a → stands_in a earlier ≡ false → New (a ∷ earlier) accounts → New earlier (a ∷ accounts)
unfolding stands_in
new-cons earlier a accounts some fresh n = record { above = above; other = other; differ = differ }
  where
    above : (i : ℕ) → i < length (a ∷ accounts) → 0 < get_or (a ∷ accounts) i 0
    above zero lt = some
    above (suc i) lt = n.above i (omega arith)

    other : (i : ℕ) → i < length (a ∷ accounts) → stands_in (get_or (a ∷ accounts) i 0) earlier ≡ false
    other zero lt = fresh
    other (suc i) lt = (or-false (eqb (get_or accounts i 0) a) (stands_in (get_or accounts i 0) earlier) (n.other i (omega arith))).1

    differ : (i j : ℕ) → i < j → j < length (a ∷ accounts) → get_or (a ∷ accounts) i 0 ≡ get_or (a ∷ accounts) j 0 → ⊥
    differ i zero lt lt' e = omega arith
    differ zero (suc j) lt lt' e = eqb-false (get_or accounts j 0) a (or-false (eqb (get_or accounts j 0) a) (stands_in (get_or accounts j 0) earlier) (n.other j (omega arith))).0 (sym e)
    differ (suc i) (suc j) lt lt' e = n.differ i j (omega arith) (omega arith) e

positions-new : (earlier : List ℕ) (b sum : ℕ) (ks accounts hs : List ℕ) → length accounts ≡ length hs → length ks ≡ length hs → NoneApplies (position_rows Method.Wheel earlier b sum ks accounts hs) → New earlier accounts
unfolding position_rows NoneApplies account_refused
positions-new earlier b sum ks [] hs la lk h = record { above = λ i lt. absurd (omega arith); other = λ i lt. absurd (omega arith); differ = λ i j lt lt'. absurd (omega arith) }
positions-new earlier b sum [] (a ∷ accounts) hs la lk h = absurd (omega arith)
positions-new earlier b sum (k ∷ ks) (a ∷ accounts) [] la lk h = absurd (omega arith)
positions-new earlier b sum (k ∷ ks) (a ∷ accounts) (x ∷ hs) la lk h =
    let parts = or-false (eqb a 0) (stands_in a earlier) h.1.0 in
    new-cons earlier a accounts (positive (eqb-false a 0 parts.0)) parts.1 (positions-new (a ∷ earlier) k (sum + x) ks accounts hs (omega arith) (omega arith) h.1.1.1.1)

-- ---- an accepted series

module _ (s : Series) (room : ℕ) (ok : Accepted s room) where
  facts : Facts s
  facts = accepted_facts s room ok

  -- its list rises from above 0: by the codes under W, by the accounts under P and L
  pub order_rises : RisesAbove 0 (order s)
  order_rises = positions_rise (method s) [] 0 0 (order s) s.accounts s.shorts facts.lengths facts.ordered (positions_pass s room ok)

  module _ (w : method s ≡ Method.Wheel) where
    by_code : order s ≡ s.codes
    by_code = rw w refl

    -- under W the codes rise
    pub codes_rise : RisesAbove 0 s.codes
    codes_rise = subst (RisesAbove 0) by_code order_rises

    -- under W the accounts are above 0 and differ
    pub accounts_differ : Distinct s.accounts
    accounts_differ =
        let passed : NoneApplies (position_rows Method.Wheel [] 0 0 (order s) s.accounts s.shorts) = subst (λ (m : Method). NoneApplies (position_rows m [] 0 0 (order s) s.accounts s.shorts)) w (positions_pass s room ok) in
        let new = positions-new [] 0 0 (order s) s.accounts s.shorts facts.lengths facts.ordered passed in
        record { above = new.above; differ = new.differ }

    pub codes-beside : length s.codes ≡ length s.shorts
    codes-beside = ap length (sym by_code) ∙ facts.ordered

-- ---- codes that are the accounts

-- no number of the list is above b
AtMost : ℕ → List ℕ → Type 0
AtMost b [] = Unit {0}
AtMost b (n ∷ ns) = (n ≤ b) × AtMost b ns

none_stands : (b a : ℕ) (ns : List ℕ) → AtMost b ns → b < a → stands_in a ns ≡ false
unfolding AtMost stands_in
none_stands b a [] h lt = refl
none_stands b a (n ∷ ns) h lt = let other : a ≡ n → ⊥ = λ e. omega arith in rw (ne_eqb a n other) (none_stands b a ns h.1 lt)

at_most-more : (b a : ℕ) (ns : List ℕ) → AtMost b ns → b < a → AtMost a ns
unfolding AtMost
at_most-more b a [] h lt = tt
at_most-more b a (n ∷ ns) h lt = (omega arith, at_most-more b a ns h.1 lt)

not_refused : (m : Method) (b a : ℕ) (earlier : List ℕ) → AtMost b earlier → b < a → account_refused m earlier a ≡ false
unfolding account_refused
not_refused Method.Wheel b a earlier h lt = let some : a ≡ 0 → ⊥ = λ e. omega arith in rw (ne_eqb a 0 some) (none_stands b a earlier h lt)
not_refused Method.ProRata b a earlier h lt = refl
not_refused Method.Lottery b a earlier h lt = refl
not_refused Method.RemainderDraw b a earlier h lt = refl

positions_alike : (m m' : Method) (earlier : List ℕ) (b sum : ℕ) (accounts hs : List ℕ) (T : ℕ) → AtMost b earlier → first (position_rows m earlier b sum accounts accounts hs) T ≡ first (position_rows m' earlier b sum accounts accounts hs) T
unfolding position_rows first AtMost
positions_alike m m' earlier b sum [] hs T h = refl
positions_alike m m' earlier b sum (a ∷ rest) [] T h = refl
positions_alike m m' earlier b sum (a ∷ rest) (x ∷ hs) T h = go (leb a b) refl (λ lt. positions_alike m m' (a ∷ earlier) a (sum + x) rest hs T (omega arith, at_most-more b a earlier h lt))
  where
    go : (t : Bool) → leb a b ≡ t
        → (b < a → first (position_rows m (a ∷ earlier) a (sum + x) rest rest hs) T ≡ first (position_rows m' (a ∷ earlier) a (sum + x) rest rest hs) T)
        → first (position_rows m earlier b sum (a ∷ rest) (a ∷ rest) (x ∷ hs)) T ≡ first (position_rows m' earlier b sum (a ∷ rest) (a ∷ rest) (x ∷ hs)) T
    go true e below = rw (e, or-true (eqb a 0)) refl
    go false e below =
        let lt : b < a = leb-false a b e in
        let some : a ≡ 0 → ⊥ = λ z. omega arith in
        rw (ne_eqb a 0 some, e, not_refused m b a earlier h lt, not_refused m' b a earlier h lt, below lt) refl

-- a list whose codes are its accounts is judged alike under every method: so under W as it was before there were codes, and 19 is not met
pub codes_are_accounts : (m m' : Method) (accounts hs : List ℕ) (room : ℕ) → list_verdict_for m accounts accounts hs room ≡ list_verdict_for m' accounts accounts hs room
unfolding list_rows AtMost
codes_are_accounts m m' accounts hs room =
    let rows : Method → List Row = λ k. position_rows k [] 0 0 accounts accounts hs in
    same-below (length_rows accounts accounts hs) (room_rows hs room ++ rows m) (room_rows hs room ++ rows m') (total hs)
    (same-below (room_rows hs room) (rows m) (rows m') (total hs) (positions_alike m m' [] 0 0 accounts hs (total hs) tt))

-- ---- the contracts before a position

-- the shorts of the positions whose code is below c
pub held_below : List ℕ → List ℕ → ℕ → ℕ
held_below codes hs c = sum_below (λ j. cond (ltb (get_or codes j 0) c) (get_or hs j 0) 0) (length hs)

before-sum : (hs : List ℕ) (i : ℕ) → i ≤ length hs → before hs i ≡ sum_below (λ j. get_or hs j 0) i
unfolding sum_below last
before-sum hs zero h = before-zero hs
before-sum hs (suc i) h = before-suc hs i h ∙ ap (λ (n : ℕ). n + get_or hs i 0) (before-sum hs i (omega arith))

-- under W the contracts before a position are those of the positions with smaller codes
pub before_by_code : (s : Series) (room : ℕ) → Accepted s room → method s ≡ Method.Wheel → (i : ℕ) → i < length s.shorts → before s.shorts i ≡ held_below s.codes s.shorts (get_or s.codes i 0)
unfolding held_below
before_by_code s room ok w i lt =
    let rise = codes_rise s room ok w in
    let long = codes-beside s room ok w in
    let hs : List ℕ = s.shorts in
    let c : ℕ = get_or s.codes i 0 in
    let f : ℕ → ℕ = λ j. cond (ltb (get_or s.codes j 0) c) (get_or hs j 0) 0 in
    let smaller : (j : ℕ) → j < i → get_or hs j 0 ≡ f j = λ j b. sym (rw (lt-ltb (get_or s.codes j 0) c (rise.rising j i b (omega arith))) refl) in
    let others : (j : ℕ) → j < length hs - i → f (i + j) ≡ 0 = λ j b. rw (le-ltb (get_or s.codes (i + j) 0) c (not_below s.codes rise i (i + j) (omega arith) (omega arith))) refl in
    let n : length hs ≡ i + (length hs - i) = omega arith in
    before-sum hs i (omega arith)
    ∙ sum_cong (λ j. get_or hs j 0) f i smaller
    ∙ omega (arith, sum-split f i (length hs - i), sum_cong (λ j. f (i + j)) (λ _. 0) (length hs - i) others, sum_const 0 (length hs - i), ap (sum_below f) n)
  where
    not_below : (codes : List ℕ) → RisesAbove 0 codes → (i j : ℕ) → i ≤ j → j < length codes → get_or codes i 0 ≤ get_or codes j 0
    not_below codes rise i j le b = elim (dec_lt i j) [ yes l ↦ omega (arith, rise.rising i j l b) | no g ↦ same i j (omega arith) ]
      where
        same : (i j : ℕ) → i ≡ j → get_or codes i 0 ≤ get_or codes j 0
        same i j e = omega (arith, ap (λ (k : ℕ). get_or codes k 0) e)
