-- Laws of chains, over any buckets and any function from an index to an account.
use Prim.Native.Nat.{ℕ, zero, suc, ◌+◌, ◌-◌, ◌≤◌, ◌<◌}
use mathlib.Core.Path.{◌≡◌, refl, sym, ap, ◌∙◌}
use mathlib.Core.Bool.{Bool, true, false, cond}
use mathlib.Core.List.{List}
use native.Mathlib.Omega.{arith}
use lib.Dec.{eqb}
use lib.ListN.{length, get_or, set, replicate, length-set, length-replicate, get_or-replicate}
use lib.Seq.{get_or-set_same, get_or-set_other}
use native.Mathlib.Numerals.{add-one, lt_of_le_of_ne}
use borrow.Author.Tests.{eq-eqb, ne_eqb, eqb-true, eqb-false}
use Rattle.series.specs.Series.{MOST_POSITIONS}
use Rattle.series.specs.Refusals.{stands_in}
use Rattle.rising_lists.specs.Earlier.{down_from}
use Rattle.list_judging.specs.Chains.{last_in, Chains}

module _ (bucketOf f : ℕ → ℕ) where
  pub last_within : (b i : ℕ) → last_in bucketOf f b i ≤ i
  unfolding last_in
  last_within b zero = omega arith
  last_within b (suc i) = step (eqb (bucketOf (f i)) b) (last_within b i)
    where
      step : (t : Bool) → last_in bucketOf f b i ≤ i → cond t (suc i) (last_in bucketOf f b i) ≤ suc i
      step true h = omega arith
      step false h = omega arith

  -- the last one of a bucket is in it
  pub last_in_lem : (b i j : ℕ) → last_in bucketOf f b i ≡ suc j → bucketOf (f j) ≡ b
  unfolding last_in
  last_in_lem b zero j h = absurd (omega arith)
  last_in_lem b (suc i) j h = step (eqb (bucketOf (f i)) b) refl (last_in_lem b i j) h
    where
      step : (t : Bool) → eqb (bucketOf (f i)) b ≡ t → (last_in bucketOf f b i ≡ suc j → bucketOf (f j) ≡ b) → cond t (suc i) (last_in bucketOf f b i) ≡ suc j → bucketOf (f j) ≡ b
      step true e below h = let is : j ≡ i = omega arith in rw is (eqb-true (bucketOf (f i)) b e)
      step false e below h = below h

  -- it passes over no account of its bucket
  pub none_passed : (a i : ℕ) → stands_in a (down_from f i) ≡ stands_in a (down_from f (last_in bucketOf f (bucketOf a) i))
  unfolding last_in stands_in down_from
  none_passed a zero = refl
  none_passed a (suc i) = step (eqb (bucketOf (f i)) (bucketOf a)) refl (none_passed a i)
    where
      step : (t : Bool) → eqb (bucketOf (f i)) (bucketOf a) ≡ t → stands_in a (down_from f i) ≡ stands_in a (down_from f (last_in bucketOf f (bucketOf a) i))
          → stands_in a (down_from f (suc i)) ≡ stands_in a (down_from f (cond t (suc i) (last_in bucketOf f (bucketOf a) i)))
      step true e below = refl
      step false e below = let other : a ≡ f i → ⊥ = λ same. eqb-false _ _ e (ap bucketOf (sym same)) in rw (ne_eqb a (f i) other) below

  -- nothing is linked at first
  pub chains_none : (next : List ℕ) → length next ≡ MOST_POSITIONS → Chains bucketOf f (replicate MOST_POSITIONS 0) next 0
  unfolding last_in
  chains_none next l =
      record {
        few = omega arith;
        head_long = length-replicate {A = ℕ} MOST_POSITIONS 0;
        next_long = l;
        heads = λ b lt. get_or-replicate MOST_POSITIONS b 0 0 lt;
        nexts = λ j lt. absurd (omega arith);
      }

-- the look-up of an account among the first i: it stands among them exactly if it stands among the first k, the last of which is in its bucket
pub record Look (bucketOf f : ℕ → ℕ) (a i k : ℕ) : Type 0 where
  pub within : k ≤ i
  pub same : stands_in a (down_from f i) ≡ stands_in a (down_from f k)
  pub in_bucket : (j : ℕ) → k ≡ suc j → bucketOf (f j) ≡ bucketOf a

module _ {bucketOf f : ℕ → ℕ} {a i k : ℕ} (l : Look bucketOf f a i k) where
  pub look_found : 0 < k → f (k - 1) ≡ a → true ≡ stands_in a (down_from f i)
  unfolding stands_in down_from
  look_found some e = let at : k ≡ suc (k - 1) = omega arith in sym (l.same ∙ ap (λ n. stands_in a (down_from f n)) at ∙ rw (eq-eqb a (f (k - 1)) (sym e)) refl)

  pub look_done : k ≤ 0 → false ≡ stands_in a (down_from f i)
  unfolding stands_in down_from
  look_done none = let at : k ≡ 0 = omega arith in sym (l.same ∙ ap (λ n. stands_in a (down_from f n)) at)

module _ {bucketOf f : ℕ → ℕ} {head next : List ℕ} {i : ℕ} (c : Chains bucketOf f head next i) where
  pub look_start : (a b : ℕ) → b ≡ bucketOf a → b < MOST_POSITIONS → Look bucketOf f a i (get_or head b 0)
  look_start a b e lt =
      rw (c.heads b lt, e)
      (record { within = last_within bucketOf f (bucketOf a) i; same = none_passed bucketOf f a i; in_bucket = last_in_lem bucketOf f (bucketOf a) i })

  pub look_next : {a k : ℕ} → Look bucketOf f a i k → 0 < k → (f (k - 1) ≡ a → ⊥) → Look bucketOf f a i (get_or next (k - 1) 0)
  unfolding stands_in down_from
  look_next {a} {k} l some ne =
      let j : ℕ = k - 1 in
      let is : k ≡ suc j = omega arith in
      let at : get_or next j 0 ≡ last_in bucketOf f (bucketOf a) j = c.nexts j (omega (arith, l.within)) ∙ ap (λ b. last_in bucketOf f b j) (l.in_bucket j is) in
      let other : a ≡ f j → ⊥ = λ e. ne (sym e) in
      rw at
      (record {
        within = omega (arith, last_within bucketOf f (bucketOf a) j, l.within);
        same = l.same ∙ ap (λ n. stands_in a (down_from f n)) is ∙ rw (ne_eqb a (f j) other) (none_passed bucketOf f a j);
        in_bucket = last_in_lem bucketOf f (bucketOf a) j;
      })

  -- a chain goes down
  pub look_less : (j : ℕ) → j < i → get_or next j 0 ≤ j
  look_less j lt = rw (c.nexts j lt) (last_within bucketOf f (bucketOf (f j)) j)

  -- one more is linked
  pub chains_more : (b : ℕ) → b ≡ bucketOf (f i) → b < MOST_POSITIONS → i < MOST_POSITIONS → Chains bucketOf f (set head b (i + 1)) (set next i (get_or head b 0)) (suc i)
  unfolding last_in
  chains_more b e lt few =
      record {
        few = omega arith;
        head_long = length-set head b (i + 1) ∙ c.head_long;
        next_long = length-set next i (get_or head b 0) ∙ c.next_long;
        heads = λ b' lt'. head_at b' lt' (eqb (bucketOf (f i)) b') refl;
        nexts = λ j lt'. next-at j lt' (eqb j i) refl;
      }
    where
      head_at : (b' : ℕ) → b' < MOST_POSITIONS → (t : Bool) → eqb (bucketOf (f i)) b' ≡ t → get_or (set head b (i + 1)) b' 0 ≡ cond t (suc i) (last_in bucketOf f b' i)
      head_at b' lt' true same =
          let is : b' ≡ b = sym (eqb-true _ b' same) ∙ sym e in
          let in_head : b < length head = omega (arith, c.head_long) in
          rw is (get_or-set_same head b (i + 1) 0 in_head ∙ add-one i)
      head_at b' lt' false other = get_or-set_other head b b' (i + 1) 0 (λ is. eqb-false _ b' other (sym (is ∙ e))) ∙ c.heads b' lt'

      next-at : (j : ℕ) → j < suc i → (t : Bool) → eqb j i ≡ t → get_or (set next i (get_or head b 0)) j 0 ≡ last_in bucketOf f (bucketOf (f j)) j
      next-at j lt' true same =
          let is : j ≡ i = eqb-true j i same in
          let in-next : i < length next = omega (arith, c.next_long) in
          rw is (get_or-set_same next i (get_or head b 0) 0 in-next ∙ c.heads b lt ∙ ap (λ x. last_in bucketOf f x i) e)
      next-at j lt' false other =
          let less : j ≡ i → ⊥ = eqb-false j i other in
          get_or-set_other next i j (get_or head b 0) 0 less ∙ c.nexts j (lt_of_le_of_ne (omega arith) less)
