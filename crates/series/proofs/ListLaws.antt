-- Lists that a loop fills from the front.
use Prim.Native.Nat.{ℕ, suc, ◌+◌, ◌≤◌, ◌<◌}
use mathlib.Core.Path.{◌≡◌, refl, sym, ap, ◌∙◌}
use mathlib.Core.List.{List, [], ◌∷◌, ◌++◌, append_assoc, append-nil}
use native.Mathlib.Omega.{arith}
use native.Mathlib.Numerals.{add-one}
use lib.ListN.{length, get_or, drop, set, length-append, length-drop, drop_of_length-le}
use lib.Seq.{ext_get_or, set_at, get_or_at, drop-cons}
use Rattle.series.specs.Sums.{listed}
use Rattle.series.proofs.SumLaws.{length-listed, get_d_listed}

-- the list l, its first i elements now f 0, f 1, .., f (i - 1)
abbrev pub filled : (ℕ → ℕ) → ℕ → List ℕ → List ℕ
filled f i l = listed f i ++ drop i l

pub fill_none : (f : ℕ → ℕ) (l : List ℕ) → l ≡ filled f 0 l
unfolding listed
fill_none f l = refl

pub fill_more : (f : ℕ → ℕ) (l m : List ℕ) (i v : ℕ) → m ≡ filled f i l → i < length l → v ≡ f i → set m i v ≡ filled f (i + 1) l
unfolding listed
fill_more f l m i v s h e =
    rw (s, drop-cons l i 0 h, set_at (listed f i) _ _ v i (length-listed f i), add-one i, e) (sym (append_assoc (listed f i) (f i ∷ []) (drop (suc i) l)))

pub fill_length : (f : ℕ → ℕ) (l m : List ℕ) (i : ℕ) → m ≡ filled f i l → i ≤ length l → length m ≡ length l
fill_length f l m i e h = ap length e ∙ length-append (listed f i) (drop i l) ∙ omega (arith, length-listed f i, length-drop i l)

-- what is not passed yet stands as it was
pub fill_rest : (f : ℕ → ℕ) (l m : List ℕ) (i : ℕ) → m ≡ filled f i l → i < length l → get_or m i 0 ≡ get_or l i 0
fill_rest f l m i e h = rw (e, drop-cons l i 0 h) (get_or_at (listed f i) (get_or l i 0) (drop (suc i) l) 0 i (length-listed f i))

pub fill_all : (f : ℕ → ℕ) (l : List ℕ) (i : ℕ) → length l ≤ i → filled f i l ≡ listed f i
fill_all f l i h = ap (listed f i ++◌) (drop_of_length-le l h) ∙ append-nil (listed f i)

-- a list is its elements, listed
pub listed_elements : (f : ℕ → ℕ) (l : List ℕ) → ((i : ℕ) → i < length l → f i ≡ get_or l i 0) → l ≡ listed f (length l)
listed_elements f l h =
    ext_get_or 0 l (listed f (length l)) (sym (length-listed f (length l))) (λ i b. sym (get_d_listed f (length l) i b ∙ h i b))
