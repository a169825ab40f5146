-- The laws of copying a list over another.
use Prim.Native.Nat.{ℕ, zero, suc, ◌+◌, ◌≤◌, ◌<◌}
use mathlib.Core.Path.{◌≡◌, sym, ap, ◌∙◌}
use mathlib.Core.List.{List, [], ◌∷◌, ◌++◌, append-nil}
use native.Mathlib.Omega.{arith}
use native.Mathlib.Numerals.{add-one}
use lib.ListN.{length, get_or, set, take, drop}
use lib.Seq.{take_all, drop-length, get_or-take, length-take-le}

-- an element is copied after those before it
copied_next : {A : Type 0} (source old : List A) (i : ℕ) (v : A) → v ≡ get_or source i v → i < length source → i < length old
    → set (take i source ++ drop i old) i v ≡ take (suc i) source ++ drop (suc i) old
copied_next [] old i v e l k = absurd (omega arith)
copied_next (x ∷ source) [] i v e l k = absurd (omega arith)
copied_next (x ∷ source) (y ∷ old) zero v e l k = ap (λ z. z ∷ old) e
copied_next (x ∷ source) (y ∷ old) (suc i) v e l k = ap (λ xs. x ∷ xs) (copied_next source old i v e (omega arith) (omega arith))

-- the same, the element read from the first n of the source
pub copied_more : {A : Type 0} (source old new : List A) (n i : ℕ) (v : A) → new ≡ take i source ++ drop i old → v ≡ get_or (take n source) i v → i < n → i < length source → i < length old
    → set new i v ≡ take (i + 1) source ++ drop (i + 1) old
copied_more source old new n i v done e m l k =
    rw (done, add-one) (copied_next source old i v (e ∙ get_or-take n source i v m) l k)

-- the first n elements, where the list has room for them
pub copied_first : {A : Type 0} (source old new : List A) (n : ℕ) → n ≤ length source → n ≤ length old → new ≡ take (length old) (take n source) ++ drop (length (take n source)) old
    → new ≡ take n source ++ drop n old
copied_first source old new n in_source in_old copied =
    let long : length (take n source) ≡ n = length-take-le n source in_source in
    copied
    ∙ ap (λ xs. xs ++ drop (length (take n source)) old) (take_all (length old) (take n source) (omega arith))
    ∙ ap (λ k. take n source ++ drop k old) long

-- a list as long as the source holds its elements, and nothing else
pub copied_whole : {A : Type 0} (source old new : List A) → length old ≡ length source → new ≡ take (length old) source ++ drop (length source) old → new ≡ source
copied_whole source old new even copied =
    copied
    ∙ ap (λ xs. xs ++ drop (length source) old) (take_all (length old) source (omega arith))
    ∙ ap (λ n. source ++ drop n old) (sym even)
    ∙ ap (λ xs. source ++ xs) (drop-length old)
    ∙ append-nil source
