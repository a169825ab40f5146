-- The merged list: its total, its length, every account's shorts, its order, and that it is the only list with these shorts.
use Prim.Native.Nat.{ℕ, ◌+◌, ◌≤◌, ◌<◌}
use mathlib.Core.Path.{◌≡◌, refl, sym, ap, ap₂, subst, ◌∙◌}
use mathlib.Core.Bool.{Bool, true, false, cond}
use mathlib.Core.List.{List, [], ◌∷◌}
use native.Mathlib.Omega.{arith}
use native.Mathlib.Decide.{dec_lt}
use lib.Dec.{eqb, ltb}
use lib.ListN.{length}
use borrow.Author.Tests.{ltb-true, ltb-false, eq-eqb, ne_eqb}
use Rattle.series.specs.Places.{total}
use Rattle.merging.specs.Merging.{Position, shorts_of, added, merged}

-- ---- what holds of every merged list

-- a property of two lists and their merged list holds if it holds where one is empty, and goes on from the rest of the lists by each of the three cases
module _ (P : List Position → List Position → List Position → Type 0)
    (None-first : (qs : List Position) → P [] qs qs)
    (none-second : (p : Position) (ps : List Position) → P (p ∷ ps) [] (p ∷ ps))
    (first-smaller : (p q : Position) (ps qs : List Position) → p.account < q.account → P ps (q ∷ qs) (merged ps (q ∷ qs)) → P (p ∷ ps) (q ∷ qs) (p ∷ merged ps (q ∷ qs)))
    (second-smaller : (p q : Position) (ps qs : List Position) → q.account < p.account → P (p ∷ ps) qs (merged (p ∷ ps) qs) → P (p ∷ ps) (q ∷ qs) (q ∷ merged (p ∷ ps) qs))
    (same : (p q : Position) (ps qs : List Position) → p.account ≡ q.account → P ps qs (merged ps qs) → P (p ∷ ps) (q ∷ qs) (added p q ∷ merged ps qs))
  where
    pub merged_cases : (ps qs : List Position) → P ps qs (merged ps qs)
    unfolding merged
    merged_cases [] qs = None-first qs
    merged_cases (p ∷ ps) [] = none-second p ps
    merged_cases (p ∷ ps) (q ∷ qs) =
        by_tests (ltb p.account q.account) refl (ltb q.account p.account) refl (merged_cases ps (q ∷ qs)) (merged_cases (p ∷ ps) qs) (merged_cases ps qs)
      where
        by_tests : (s : Bool) → ltb p.account q.account ≡ s → (t : Bool) → ltb q.account p.account ≡ t
            → P ps (q ∷ qs) (merged ps (q ∷ qs)) → P (p ∷ ps) qs (merged (p ∷ ps) qs) → P ps qs (merged ps qs)
            → P (p ∷ ps) (q ∷ qs) (cond s (p ∷ merged ps (q ∷ qs)) (cond t (q ∷ merged (p ∷ ps) qs) (added p q ∷ merged ps qs)))
        by_tests true e t f x y z = first-smaller p q ps qs (ltb-true p.account q.account e) x
        by_tests false e true f x y z = second-smaller p q ps qs (ltb-true q.account p.account f) y
        by_tests false e false f x y z =
            let is : p.account ≡ q.account = omega (arith, ltb-false q.account p.account f, ltb-false p.account q.account e) in
            same p q ps qs is z

-- the merged T is the sum of both
pub merged-total : (ps qs : List Position) → total (shorts_of (merged ps qs)) ≡ total (shorts_of ps) + total (shorts_of qs)
unfolding total
merged-total =
    merged_cases (λ ps qs ms. total (shorts_of ms) ≡ total (shorts_of ps) + total (shorts_of qs))
    (λ qs. omega arith)
    (λ p ps. omega arith)
    (λ p q ps qs lt e. omega arith)
    (λ p q ps qs lt e. omega arith)
    (λ p q ps qs is e. omega arith)

-- its length lies between the longer one and the sum of both
pub record Between (n m k : ℕ) : Type 0 where
  pub first : n ≤ k
  pub second : m ≤ k
  pub most : k ≤ n + m

pub merged-length : (ps qs : List Position) → Between (length ps) (length qs) (length (merged ps qs))
merged-length =
    merged_cases (λ ps qs ms. Between (length ps) (length qs) (length ms))
    (λ qs. record { first = omega arith; second = omega arith; most = omega arith })
    (λ p ps. record { first = omega arith; second = omega arith; most = omega arith })
    (λ p q ps qs lt e. record { first = omega (arith, e.first); second = omega (arith, e.second); most = omega (arith, e.most) })
    (λ p q ps qs lt e. record { first = omega (arith, e.first); second = omega (arith, e.second); most = omega (arith, e.most) })
    (λ p q ps qs is e. record { first = omega (arith, e.first); second = omega (arith, e.second); most = omega (arith, e.most) })

-- the shorts that an account has in a list
unfoldable pub held_by : ℕ → List Position → ℕ
held_by a [] = 0
held_by a (p ∷ ps) = cond (eqb p.account a) p.shorts 0 + held_by a ps

-- the merged shorts of every account are the sum of both lists'
pub merged-held : (a : ℕ) (ps qs : List Position) → held_by a (merged ps qs) ≡ held_by a ps + held_by a qs
unfolding held_by
merged-held a =
    merged_cases (λ ps qs ms. held_by a ms ≡ held_by a ps + held_by a qs)
    (λ qs. omega arith)
    (λ p ps. omega arith)
    (λ p q ps qs lt e. omega arith)
    (λ p q ps qs lt e. omega arith)
    (λ p q ps qs is e. omega (arith, e, both (eqb p.account a) p.shorts q.shorts, ap (λ (c : ℕ). cond (eqb c a) q.shorts 0) is))
  where
    both : (t : Bool) (x y : ℕ) → cond t (x + y) 0 ≡ cond t x 0 + cond t y 0
    both true x y = refl
    both false x y = refl

-- ---- rising lists

-- the accounts rise from above b, and no shorts are 0
unfoldable pub Rises : ℕ → List Position → Type 0
Rises b [] = Unit {0}
Rises b (p ∷ ps) = (b < p.account) × ((0 < p.shorts) × Rises p.account ps)

-- the merged list of two rising lists rises
pub merged_rises : (ps qs : List Position) (b : ℕ) → Rises b ps → Rises b qs → Rises b (merged ps qs)
unfolding Rises
merged_rises =
    merged_cases (λ ps qs ms. (b : ℕ) → Rises b ps → Rises b qs → Rises b ms)
    (λ qs b r s. s)
    (λ p ps b r s. r)
    (λ p q ps qs lt on b r s. (r.0, (r.1.0, on p.account r.1.1 (lt, s.1))))
    (λ p q ps qs lt on b r s. (s.0, (s.1.0, on q.account (lt, r.1) s.1.1)))
    (λ p q ps qs is on b r s. (r.0, (omega (arith, r.1.0), on p.account r.1.1 (subst (λ (c : ℕ). Rises c qs) (sym is) s.1.1))))

-- an account that is not above b has nothing in a list that rises from above b
none_below : (ps : List Position) (a b : ℕ) → Rises b ps → a ≤ b → held_by a ps ≡ 0
unfolding Rises held_by
none_below [] a b r le = refl
none_below (p ∷ ps) a b r le =
    let other : p.account ≡ a → ⊥ = λ e. omega (arith, r.0) in
    rw (ne_eqb p.account a other) (omega (arith, none_below ps a p.account r.1.1 (omega (arith, r.0))))

-- the first position's account has its shorts
first-held : (p : Position) (ps : List Position) → Rises p.account ps → held_by p.account (p ∷ ps) ≡ p.shorts
unfolding held_by
first-held p ps r = rw (eq-eqb p.account p.account refl) (omega (arith, none_below ps p.account p.account r (omega arith)))

-- two rising lists in which every account has the same shorts are one list
pub only_list : (ps qs : List Position) (b : ℕ) → Rises b ps → Rises b qs → ((a : ℕ) → held_by a ps ≡ held_by a qs) → ps ≡ qs
unfolding Rises held_by
only_list [] [] b r s same = refl
only_list [] (q ∷ qs) b r s same = absurd (omega (arith, same q.account, first-held q qs s.1.1, s.1.0))
only_list (p ∷ ps) [] b r s same = absurd (omega (arith, same p.account, first-held p ps r.1.1, r.1.0))
only_list (p ∷ ps) (q ∷ qs) b r s same =
    elim (dec_lt p.account q.account) [
      | yes l ↦ absurd (omega (arith, same p.account, first-held p ps r.1.1, r.1.0, none_below (q ∷ qs) p.account p.account (l, s.1) (omega arith)))
      | no g ↦
          elim (dec_lt q.account p.account) [
            | yes l ↦ absurd (omega (arith, same q.account, first-held q qs s.1.1, s.1.0, none_below (p ∷ ps) q.account q.account (l, r.1) (omega arith)))
            | no h ↦ equal (omega arith) (λ t u. only_list ps qs p.account r.1.1 t u)
          ]
    ]
  where
    equal : p.account ≡ q.account → (Rises p.account qs → ((a : ℕ) → held_by a ps ≡ held_by a qs) → ps ≡ qs) → p ∷ ps ≡ q ∷ qs
    equal e below =
        let held : held_by p.account (q ∷ qs) ≡ q.shorts = ap (λ (a : ℕ). held_by a (q ∷ qs)) e ∙ first-held q qs s.1.1 in
        let shorts : p.shorts ≡ q.shorts = sym (first-held p ps r.1.1) ∙ same p.account ∙ held in
        let head : p ≡ q = ap₂ (λ a h. record { account = a; shorts = h }) e shorts in
        let rest : (a : ℕ) → held_by a ps ≡ held_by a qs = λ a. omega (arith, same a, ap (λ (x : Position). cond (eqb x.account a) x.shorts 0) head) in
        ap₂ ◌∷◌ head (below (subst (λ (c : ℕ). Rises c qs) (sym e) s.1.1) rest)

-- the merged list of two rising lists is the only rising list in which every account has what both lists have together
pub merged_only : (ps qs ms : List Position) (b : ℕ) → Rises b ps → Rises b qs → Rises b ms → ((a : ℕ) → held_by a ms ≡ held_by a ps + held_by a qs) → ms ≡ merged ps qs
merged_only ps qs ms b r s t sums = only_list ms (merged ps qs) b t (merged_rises ps qs b r s) (λ a. sums a ∙ sym (merged-held a ps qs))

-- the order of the two lists does not matter
pub either_order : (ps qs : List Position) (b : ℕ) → Rises b ps → Rises b qs → merged ps qs ≡ merged qs ps
either_order ps qs b r s = merged_only qs ps (merged ps qs) b s r (merged_rises ps qs b r s) (λ a. omega (arith, merged-held a ps qs))
