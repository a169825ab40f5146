-- The rows of a list, as the code tries them.
use Prim.Native.Nat.{ℕ, zero, suc, ◌+◌, ◌-◌, ◌≤◌, ◌<◌}
use mathlib.Core.Path.{◌≡◌, refl, sym, ap, ◌∙◌}
use mathlib.Core.Bool.{Bool, true, false, ◌||◌, cond}
use mathlib.Core.List.{List, [], ◌∷◌, ◌++◌}
use native.Mathlib.Omega.{arith}
use native.Mathlib.Nat.{le_refl}
use native.Mathlib.Numerals.{add-one, lt_of_le_of_ne}
use lib.Dec.{eqb, ltb, leb}
use lib.ListN.{length, get_or, drop, drop_of_length-le}
use lib.Seq.{drop-cons}
use borrow.Author.Tests.{lt-ltb, le-ltb, le-leb, lt-leb, ne_eqb, ltb-true, ltb-false, eqb-true, eqb-false}
use Rattle.std.proofs.lemmas.List.{append_assoc}
use Rattle.series.specs.Results.{Result, refused, value, ◌>>=◌}
use Rattle.series.specs.Places.{total}
use Rattle.series.specs.Series.{MOST_CONTRACTS}
use Rattle.series.specs.Refusals.{Row, first, NoneApplies, length_rows, room_rows, stands_in, account_refused, position_rows, list_rows, positions_verdict, list_verdict_for}
use Rattle.std.specs.Prelude.{Some, None, Ok, Option as Option·}
use Rattle.std.specs.Option.{ok_or}
use Rattle.series.specs.declared.Method.{Method}
use Rattle.series.specs.declared.Contracts.{Contracts}
use Rattle.series.specs.declared.Refusal.{Refusal}
use Rattle.rising_lists.specs.Even.{EvenList}
use Rattle.rising_lists.specs.Judged.{judged_of, lengths_verdict, left_after, rises, WalkTells, FallsOnly}
use Rattle.rising_lists.specs.Earlier.{down_from, earlier}
use Rattle.series.proofs.RowLaws.{row_at, passed_first, refused-at}

-- ---- each position in turn

or-true : (a b : Bool) → b ≡ true → (a || b) ≡ true
or-true true b h = refl
or-true false b h = h

-- shorts are taken from what is left only if there are some, and enough is left
left_taken : (n left x : ℕ) → value x ≡ left_after n left → (eqb n 0 ≡ false) × (n ≤ left) × (x ≡ left - n)
left_taken n left x e = by_cases (eqb n 0) (ltb left n) refl refl e
  where
    by_cases : (t u : Bool) → eqb n 0 ≡ t → ltb left n ≡ u → value x ≡ cond t (refused 6) (cond u (refused 7) (value (left - n))) → (eqb n 0 ≡ false) × (n ≤ left) × (x ≡ left - n)
    by_cases true u et eu h = cc
    by_cases false true et eu h = cc
    by_cases false false et eu h = (et, ltb-false left n eu, cc)

-- at position i: the number before it, how many contracts are left of the most, and the rows from there on
pub record Judging (m : Method) (order accounts shorts : List ℕ) (before left i : ℕ) : Type 0 where
  pub on_list : i ≤ length shorts
  pub left_most : left ≤ MOST_CONTRACTS
  pub sum_is : MOST_CONTRACTS + total (drop i shorts) ≡ left + total shorts
  pub rows_are : positions_verdict m order accounts shorts ≡ first (position_rows m (earlier accounts i) before (MOST_CONTRACTS - left) (drop i order) (drop i accounts) (drop i shorts)) (total shorts)

pub judging_start : (m : Method) (order accounts shorts : List ℕ) → Judging m order accounts shorts 0 MOST_CONTRACTS 0
unfolding down_from
judging_start m order accounts shorts = record { on_list = omega arith; left_most = omega arith; sum_is = omega arith; rows_are = refl }

module _ {m : Method} {order accounts shorts : List ℕ} {before left i : ℕ} (even : EvenList order accounts shorts) (j : Judging m order accounts shorts before left i) where
  -- the verdict on the positions
  abbrev verdict_of : Result ℕ
  verdict_of = positions_verdict m order accounts shorts

  module _ (h : i < length shorts) where
    abbrev k : ℕ
    k = get_or order i 0

    abbrev a : ℕ
    a = get_or accounts i 0

    abbrev n : ℕ
    n = get_or shorts i 0

    abbrev sum : ℕ
    sum = MOST_CONTRACTS - left

    -- the rows from position i on
    here : List Row
    here = position_rows m (earlier accounts i) before sum (k ∷ drop (suc i) order) (a ∷ drop (suc i) accounts) (n ∷ drop (suc i) shorts)

    rows_here : verdict_of ≡ first here (total shorts)
    unfolding here
    rows_here =
        let ko : i < length order = omega (arith, even.ordered) in
        let ka : i < length accounts = omega (arith, even.lengths) in
        j.rows_are ∙ rw (drop-cons order i 0 ko, drop-cons accounts i 0 ka, drop-cons shorts i 0 h) refl

    pub refused-order : k ≤ before → refused 5 ≡ verdict_of
    unfolding here position_rows NoneApplies row_at
    refused-order over = sym (rows_here ∙ refused-at 0 here (total shorts) tt (or-true (eqb k 0) (leb k before) (le-leb k before over)))

    module _ (above : before < k) where
      five : (eqb k 0 || leb k before) ≡ false
      five = let some : k ≡ 0 → ⊥ = λ e. omega arith in rw (ne_eqb k 0 some, lt-leb k before above)

      pub refused-account : account_refused m (earlier accounts i) a ≡ true → refused 19 ≡ verdict_of
      unfolding here position_rows NoneApplies row_at
      refused-account e = sym (rows_here ∙ refused-at 1 here (total shorts) (five, tt) e)

      module _ (new : account_refused m (earlier accounts i) a ≡ false) where
        -- 6 or 7
        pub refused-shorts : (r : ℕ) → refused r ≡ left_after n left → refused r ≡ verdict_of
        unfolding here position_rows NoneApplies row_at
        refused-shorts r e = by_cases (eqb n 0) (ltb left n) refl refl e
          where
            by_cases : (t u : Bool) → eqb n 0 ≡ t → ltb left n ≡ u → refused r ≡ cond t (refused 6) (cond u (refused 7) (value (left - n))) → refused r ≡ verdict_of
            by_cases true u none eu x = x ∙ sym (rows_here ∙ refused-at 2 here (total shorts) (five, (new, tt)) none)
            by_cases false true some over x =
                let more : left < n = ltb-true left n over in
                x ∙ sym (rows_here ∙ refused-at 3 here (total shorts) (five, (new, (some, tt))) (lt-ltb MOST_CONTRACTS (sum + n) (omega (arith, j.left_most))))
            by_cases false false some within x = absurd cc

        pub judging_next : (x : ℕ) → value x ≡ left_after n left → Judging m order accounts shorts k x (i + 1)
        unfolding here position_rows NoneApplies total down_from
        judging_next x e =
            let taken = left_taken n left x e in
            let within : n ≤ left = taken.1 in
            let seven = le-ltb MOST_CONTRACTS (sum + n) (omega (arith, j.left_most)) in
            let sum_next : sum + n ≡ MOST_CONTRACTS - x = omega (arith, j.left_most, taken.2) in
            record {
              on_list = omega arith;
              left_most = omega (arith, j.left_most, taken.2);
              sum_is = rw (add-one i) (omega (arith, j.sum_is, taken.2, ap total (drop-cons shorts i 0 h)));
              rows_are = rw (add-one i, ← sum_next) (rows_here ∙ passed_first 4 here (total shorts) (five, (new, (taken.0, (seven, tt)))));
            }

  pub judged_all : length shorts ≤ i → value (MOST_CONTRACTS - left) ≡ verdict_of
  unfolding first position_rows total
  judged_all h =
      let past : length order ≤ i = omega (arith, even.ordered) in
      let none : drop i shorts ≡ [] = drop_of_length-le shorts h in
      let none-o : drop i order ≡ [] = drop_of_length-le order past in
      let all : MOST_CONTRACTS - left ≡ total shorts = omega (arith, j.left_most, j.sum_is, ap total none) in
      ap value all ∙ sym (j.rows_are ∙ ap (λ ks. first (position_rows m (earlier accounts i) before (MOST_CONTRACTS - left) ks (drop i accounts) (drop i shorts)) (total shorts)) none-o)

-- an account that is above 0 and not among the earlier ones is not refused, whatever the method
new-account : (m : Method) (a : ℕ) (before : List ℕ) → (a ≡ 0 → ⊥) → stands_in a before ≡ false → account_refused m before a ≡ false
unfolding account_refused
new-account Method.Wheel a before some new = rw (ne_eqb a 0 some) new
new-account Method.ProRata a before some new = refl
new-account Method.Lottery a before some new = refl
new-account Method.RemainderDraw a before some new = refl

-- ---- while the accounts rise

-- an account above all earlier ones is none of them
above_all : (f : ℕ → ℕ) (a i : ℕ) → ((j : ℕ) → j < i → f j < a) → stands_in a (down_from f i) ≡ false
unfolding stands_in down_from
above_all f a zero h = refl
above_all f a (suc i) h =
    let other : a ≡ f i → ⊥ = λ e. omega (arith, h i (omega arith)) in
    rw (ne_eqb a (f i) other) (above_all f a i (λ j lt. h j (omega arith)))

-- at position i, whatever the method: no account before it is above the highest
pub record Rising (order accounts shorts : List ℕ) (before highest left i : ℕ) : Type 0 where
  pub judging : (m : Method) → Judging m order accounts shorts before left i
  pub below : (j : ℕ) → j < i → get_or accounts j 0 ≤ highest
  pub same : order ≡ accounts → before ≡ highest
  pub rest_rises : rises 0 accounts ≡ rises highest (drop i accounts)

pub rising_start : (order accounts shorts : List ℕ) → Rising order accounts shorts 0 0 MOST_CONTRACTS 0
rising_start order accounts shorts = record { judging = λ m. judging_start m order accounts shorts; below = λ j lt. absurd (omega arith); same = λ e. refl; rest_rises = refl }

module _ {order accounts shorts : List ℕ} {before highest left i : ℕ} (r : Rising order accounts shorts before highest left i) where
  -- an account that does not rise, in an order that does
  pub rising_falls : EvenList order accounts shorts → i < length shorts → before < get_or order i 0 → get_or accounts i 0 ≤ highest → (order ≡ accounts → ⊥) × (rises 0 accounts ≡ false)
  unfolding rises
  rising_falls even h above under =
      let k : i < length accounts = omega (arith, even.lengths) in
      (λ e. omega (arith, r.same e, ap (λ (l : List ℕ). get_or l i 0) e), r.rest_rises ∙ rw (drop-cons accounts i 0 k, le-ltb highest (get_or accounts i 0) under) refl)

  module _ (higher : highest < get_or accounts i 0) where
    -- an account that rises is new
    pub rising_new : (m : Method) → account_refused m (earlier accounts i) (get_or accounts i 0) ≡ false
    rising_new m =
        new-account m (get_or accounts i 0) (earlier accounts i) (λ e. omega arith)
        (above_all (λ j. get_or accounts j 0) (get_or accounts i 0) i (λ j lt. omega (arith, r.below j lt)))

    pub rising_next : EvenList order accounts shorts → i < length shorts → before < get_or order i 0 → (x : ℕ) → value x ≡ left_after (get_or shorts i 0) left
        → Rising order accounts shorts (get_or order i 0) (get_or accounts i 0) x (i + 1)
    unfolding rises
    rising_next even h above x e =
        record {
          judging = λ m. judging_next even (r.judging m) h above (rising_new m) x e;
          below = λ j lt. at_most j lt (eqb j i) refl;
          same = λ e. ap (λ (l : List ℕ). get_or l i 0) e;
          rest_rises = still even h;
        }
      where
        at_most : (j : ℕ) → j < i + 1 → (t : Bool) → eqb j i ≡ t → get_or accounts j 0 ≤ get_or accounts i 0
        at_most j lt true e = let is : j ≡ i = eqb-true j i e in rw is (le_refl (get_or accounts i 0))
        at_most j lt false e = omega (arith, r.below j (lt_of_le_of_ne (omega arith) (eqb-false j i e)))

        still : EvenList order accounts shorts → i < length shorts → rises 0 accounts ≡ rises (get_or accounts i 0) (drop (i + 1) accounts)
        still even h =
            let k : i < length accounts = omega (arith, even.lengths) in
            r.rest_rises ∙ rw (drop-cons accounts i 0 k, lt-ltb highest (get_or accounts i 0) higher, add-one i) refl

-- ---- the list

-- rows above others, whatever the value that passes the first ones
first-then : {A B : Type 0} (xs ys : List Row) (a : A) (b : B) → first (xs ++ ys) a ≡ (first xs b >>= λ _. first ys a)
unfolding first
first-then [] ys a b = refl
first-then (x ∷ xs) ys a b = step x.holds (first-then xs ys a b)
  where
    step : (t : Bool) → first (xs ++ ys) a ≡ (first xs b >>= λ _. first ys a) → cond t (refused x.number) (first (xs ++ ys) a) ≡ (cond t (refused x.number) (first xs b) >>= λ _. first ys a)
    step true h = refl
    step false h = h

module _ (order accounts shorts : List ℕ) (room : ℕ) where
  lengths_then : (m : Method) → list_verdict_for m order accounts shorts room ≡ (lengths_verdict order accounts shorts room >>= λ _. positions_verdict m order accounts shorts)
  unfolding list_rows
  lengths_then m =
      ap (λ rows. first rows (total shorts)) (sym (append_assoc (length_rows order accounts shorts) (room_rows shorts room) (position_rows m [] 0 0 order accounts shorts)))
      ∙ first-then (length_rows order accounts shorts ++ room_rows shorts room) (position_rows m [] 0 0 order accounts shorts) (total shorts) tt

  -- a refusal of the lengths is the list's
  pub lengths_refused : (n : ℕ) → refused n ≡ lengths_verdict order accounts shorts room → (m : Method) → refused n ≡ list_verdict_for m order accounts shorts room
  lengths_refused n e m = sym (lengths_then m ∙ rw (← e) refl)

  -- where the lengths are judged, the positions decide
  pub lengths_passed : value tt ≡ lengths_verdict order accounts shorts room → (m : Method) → list_verdict_for m order accounts shorts room ≡ positions_verdict m order accounts shorts
  lengths_passed e m = lengths_then m ∙ rw (← e) refl

-- of a list that rises by its accounts every walk tells the verdict
pub walked_by_account : (o : Option· Contracts) (v : Result ℕ) (accounts : List ℕ) → WalkTells (Ok o) v → FallsOnly (Ok o) accounts accounts → judged_of (ok_or o Refusal.OutOfOrder) ≡ v
walked_by_account (Some T) v accounts tells falls = tells
walked_by_account None v accounts tells falls = absurd (falls.0 refl)
