-- The walk over two lists: the next position of the merged list, and how far it passes each list. Counting and writing go by it.
use Prim.Native.Nat.{ℕ, zero, suc, ◌+◌, ◌-◌, ◌≤◌, ◌<◌}
use mathlib.Core.Path.{◌≡◌, refl, sym, ap, ap₂, ◌∙◌}
use mathlib.Core.Logic.{◌⊎◌, inl, inr}
use mathlib.Core.List.{List, [], ◌∷◌, ◌++◌, append_assoc, append-nil, map}
use native.Mathlib.Omega.{arith}
use native.Mathlib.Nat.{zero-add, add-zero}
use native.Mathlib.Numerals.{add-one}
use lib.ListN.{length, get_or, set, take, drop, length-append, length-drop, length-map, get_or-map, take-append-drop, drop_of_length-le}
use lib.Seq.{sets, sets-eq, length-sets, take-suc, drop-cons, drop-drop, get_or-drop, length-take-le}
use borrow.Author.Tests.{lt-ltb, le-ltb}
use Rattle.series.specs.Outputs.{onto}
use Rattle.merging.specs.Merging.{Position, paired, accounts_of, shorts_of, added, merged}

-- what stands past the last position
abbrev pub none : Position
none = record { account = 0; shorts = 0 }

-- ---- at index i of the first list and j of the second, n positions of the merged list are passed

pub record Walked (ps qs : List Position) (i j n : ℕ) : Type 0 where
  pub on_first : i ≤ length ps
  pub on_second : j ≤ length qs
  pub rest : drop n (merged ps qs) ≡ merged (drop i ps) (drop j qs)
  pub counted : n + length (merged (drop i ps) (drop j qs)) ≡ length (merged ps qs)

pub walked_start : (ps qs : List Position) → Walked ps qs 0 0 0
walked_start ps qs = record { on_first = omega arith; on_second = omega arith; rest = refl; counted = zero-add (length (merged ps qs)) }

-- the account of position i
pub account-at : (ps : List Position) (accounts : List ℕ) (i : ℕ) → accounts_of ps ≡ accounts → get_or accounts i 0 ≡ (get_or ps i none).account
account-at ps accounts i e = ap (λ (l : List ℕ). get_or l i 0) (sym e) ∙ get_or-map (λ p. p.account) ps i none

-- its shorts
pub shorts-at : (ps : List Position) (shorts : List ℕ) (i : ℕ) → shorts_of ps ≡ shorts → get_or shorts i 0 ≡ (get_or ps i none).shorts
shorts-at ps shorts i e = ap (λ (l : List ℕ). get_or l i 0) (sym e) ∙ get_or-map (λ p. p.shorts) ps i none

-- as many positions as accounts
pub accounts-long : (ps : List Position) (accounts : List ℕ) → accounts_of ps ≡ accounts → length ps ≡ length accounts
accounts-long ps accounts e = sym (length-map ps (λ p. p.account)) ∙ ap length e

-- from indexes i and j the walk goes on to k and l, past the position m of the merged list
pub record Step (ps qs : List Position) (i j k l : ℕ) (m : Position) : Type 0 where
  pub on_first : k ≤ length ps
  pub on_second : l ≤ length qs
  pub next : merged (drop i ps) (drop j qs) ≡ m ∷ merged (drop k ps) (drop l qs)

-- the three cases of the definition
module _ (ps qs : List Position) (i j : ℕ) (h : i < length ps) (k : j < length qs) where
  abbrev p : Position
  p = get_or ps i none

  abbrev q : Position
  q = get_or qs j none

  -- both lists from here on
  abbrev from_here : merged (drop i ps) (drop j qs) ≡ merged (p ∷ drop (suc i) ps) (q ∷ drop (suc j) qs)
  from_here = ap₂ merged (drop-cons ps i none h) (drop-cons qs j none k)

  pub step_first : p.account < q.account → Step ps qs i j (i + 1) j p
  unfolding merged
  step_first lt =
      record {
        on_first = omega arith;
        on_second = omega arith;
        next = rw (add-one i) (from_here ∙ rw (lt-ltb p.account q.account lt, drop-cons qs j none k) refl);
      }

  pub step_second : q.account < p.account → Step ps qs i j i (j + 1) q
  unfolding merged
  step_second lt =
      record {
        on_first = omega arith;
        on_second = omega arith;
        next = rw (add-one j) (from_here ∙ rw (le-ltb p.account q.account (omega arith), lt-ltb q.account p.account lt, drop-cons ps i none h) refl);
      }

  pub step_both : p.account ≡ q.account → Step ps qs i j (i + 1) (j + 1) (added p q)
  unfolding merged
  step_both is =
      record {
        on_first = omega arith;
        on_second = omega arith;
        next = rw (add-one i, add-one j) (from_here ∙ rw (le-ltb p.account q.account (omega arith), le-ltb q.account p.account (omega arith)) refl);
      }

module _ (ps qs : List Position) (i j n : ℕ) (w : Walked ps qs i j n) where
  module _ (k l : ℕ) (m : Position) (s : Step ps qs i j k l m) where
    -- the merged list has it
    pub more : n < length (merged ps qs)
    more = omega (arith, w.counted, ap length s.next)

    -- position n of the merged list
    pub walked_at : get_or (merged ps qs) n none ≡ m
    walked_at =
        ap (λ x. get_or (merged ps qs) x none) (sym (add-zero n)) ∙ sym (get_or-drop n (merged ps qs) 0 none) ∙ ap (λ t. get_or t 0 none) (w.rest ∙ s.next)

    pub walked_next : Walked ps qs k l (n + 1)
    walked_next =
        record {
          on_first = s.on_first;
          on_second = s.on_second;
          rest = sym (drop-drop 1 n (merged ps qs)) ∙ ap (drop 1) (w.rest ∙ s.next);
          counted = omega (arith, w.counted, ap length s.next);
        }

  -- where one list is passed, what is left of the other is all that is left
  pub walked_end : (length ps ≤ i) ⊎ (length qs ≤ j) → drop n (merged ps qs) ≡ drop i ps ++ drop j qs
  unfolding merged
  walked_end (inl h) = let z = drop_of_length-le ps h in w.rest ∙ ap (λ l. merged l (drop j qs)) z ∙ ap (◌++ drop j qs) (sym z)
  walked_end (inr h) = let z = drop_of_length-le qs h in w.rest ∙ ap (merged (drop i ps)) z ∙ merged_none (drop i ps) ∙ sym (ap (drop i ps ++◌) z ∙ append-nil (drop i ps))
    where
      merged_none : (l : List Position) → merged l [] ≡ l
      merged_none [] = refl
      merged_none (x ∷ l) = refl

  -- so many positions the merged list has
  pub walked_count : (length ps ≤ i) ⊎ (length qs ≤ j) → n + (length ps - i) + (length qs - j) ≡ length (merged ps qs)
  walked_count e =
      let left = sym w.rest ∙ walked_end e in
      omega (arith, w.counted, ap length left, length-append (drop i ps) (drop j qs), length-drop i ps, length-drop j qs)

-- ---- an output that is written number by number

-- numbers that are stored after others
sets_append : (old us vs : List ℕ) (i : ℕ) → sets old i (us ++ vs) ≡ sets (sets old i us) (i + length us) vs
sets_append old [] vs i = ap (λ n. sets old n vs) (sym (add-zero i))
sets_append old (u ∷ us) vs i =
    let n : suc i + length us ≡ i + suc (length us) = omega arith in
    sets_append (set old i u) us vs (suc i) ∙ ap (λ n. sets (sets (set old i u) (suc i) us) n vs) n

-- n of the numbers vs are written, from index i on
abbrev pub Written : List ℕ → ℕ → List ℕ → ℕ → List ℕ → Type 0
Written old i vs n new = new ≡ sets old i (take n vs)

pub written-length : (old : List ℕ) (i : ℕ) (vs : List ℕ) (n : ℕ) (new : List ℕ) → Written old i vs n new → length new ≡ length old
written-length old i vs n new w = ap length w ∙ length-sets old i (take n vs)

pub written_next : (old : List ℕ) (i : ℕ) (vs : List ℕ) (n : ℕ) (new : List ℕ) (v : ℕ) → Written old i vs n new → n < length vs → v ≡ get_or vs n 0 → Written old i vs (n + 1) (set new (i + n) v)
written_next old i vs n new v w h e =
    let us : List ℕ = take n vs in
    let long : length us ≡ n = length-take-le n vs (omega arith) in
    ap (λ l. set l (i + n) v) w
    ∙ ap₂ (λ k x. set (sets old i us) (i + k) x) (sym long) e
    ∙ sym (sets_append old us (get_or vs n 0 ∷ []) i)
    ∙ ap (sets old i) (sym (ap (λ k. take k vs) (add-one n) ∙ take-suc vs n 0 h))

-- n of them, and then the others in two parts
pub written_all : (old vs xs ys : List ℕ) (n : ℕ) (new : List ℕ) → n ≤ length vs → drop n vs ≡ xs ++ ys → length vs ≤ length old
    → new ≡ sets (sets (sets old 0 (take n vs)) n xs) (n + length xs) ys → new ≡ onto vs old
unfolding onto
written_all old vs xs ys n new h left room e =
    let us : List ℕ = take n vs in
    let long : 0 + length us ≡ n = zero-add (length us) ∙ length-take-le n vs h in
    let all : (us ++ xs) ++ ys ≡ vs = append_assoc us xs ys ∙ ap (us ++◌) (sym left) ∙ take-append-drop n vs in
    let sums : n + length xs ≡ 0 + length (us ++ xs) = omega (arith, length-append us xs) in
    let fits : 0 + length vs ≤ length old = omega arith in
    e
    ∙ ap₂ (λ k m. sets (sets (sets old 0 us) k xs) m ys) (sym long) sums
    ∙ ap (λ l. sets l (0 + length (us ++ xs)) ys) (sym (sets_append old us xs 0))
    ∙ sym (sets_append old (us ++ xs) ys 0)
    ∙ ap (sets old 0) all
    ∙ sets-eq vs old 0 fits
    ∙ ap (λ k. vs ++ drop k old) (zero-add (length vs))

-- ---- the positions of a list

pub paired-accounts : (accounts shorts : List ℕ) → length accounts ≡ length shorts → accounts_of (paired accounts shorts) ≡ accounts
unfolding paired
paired-accounts [] hs e = refl
paired-accounts (a ∷ rest) [] e = absurd (omega arith)
paired-accounts (a ∷ rest) (h ∷ hs) e = ap (a ∷◌) (paired-accounts rest hs (omega arith))

pub paired-shorts : (accounts shorts : List ℕ) → length accounts ≡ length shorts → shorts_of (paired accounts shorts) ≡ shorts
unfolding paired
paired-shorts [] [] e = refl
paired-shorts [] (h ∷ hs) e = absurd (omega arith)
paired-shorts (a ∷ rest) [] e = absurd (omega arith)
paired-shorts (a ∷ rest) (h ∷ hs) e = ap (h ∷◌) (paired-shorts rest hs (omega arith))

-- and back
pub paired_back : (ps : List Position) → paired (accounts_of ps) (shorts_of ps) ≡ ps
unfolding paired
paired_back [] = refl
paired_back (p ∷ ps) = ap (p ∷◌) (paired_back ps)

pub map-drop : (f : Position → ℕ) (i : ℕ) (ps : List Position) → map f (drop i ps) ≡ drop i (map f ps)
map-drop f zero ps = refl
map-drop f (suc i) [] = refl
map-drop f (suc i) (p ∷ ps) = map-drop f i ps
