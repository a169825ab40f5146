-- What one more read or write adds to the bytes that were moved before.
use Rattle.std.proofs.Common.{◌≡◌, ℕ, ◌+◌, ◌≤◌, List, ◌++◌, length, take, slice_range, sym, ap, ◌∙◌, subst, le_refl, length-take-le}
use Rattle.std.proofs.Math.Seq.{take-add, take-append-add}
use Rattle.std.proofs.lemmas.List.{take-append-le}
use Rattle.std.proofs.lemmas.Slice.{between_to_end}
use Rattle.std.proofs.KnownBytes.{Appends-trans, Consumes-trans}
use Rattle.std.specs.Io.KnownBytes.{Appends, Consumes}
use Rattle.std.specs.declared.option.Option.{Option}
use borrow.Rule.Slice.PartMut.{put_mid, post_of}

-- the first n bytes of a buffer whose part from a on holds ys are those before a and then m of ys
taken_next : (a k m n : ℕ) (xs ys : List ℕ) → n ≡ a + m → a ≤ length xs → m ≤ length ys → take n (put_mid a k xs ys) ≡ take a xs ++ take m ys
taken_next a k m n xs ys e within fits =
    let front : a + m ≡ length (take a xs) + m = ap (λ i. i + m) (sym (length-take-le a xs within)) in
    ap (λ i. take i (put_mid a k xs ys)) (e ∙ front) ∙ take-append-add (take a xs) (ys ++ post_of a k xs) m ∙ ap (λ l. take a xs ++ l) (take-append-le m ys (post_of a k xs) fits)

pub consumes_next : (r s t : Option (List ℕ)) (a k m n : ℕ) (xs ys : List ℕ) → n ≡ a + m → a ≤ length xs → m ≤ length ys
    → Consumes r s (take a xs) → Consumes s t (take m ys) → Consumes r t (take n (put_mid a k xs ys))
consumes_next r s t a k m n xs ys e within fits first next = subst (Consumes r t) (sym (taken_next a k m n xs ys e within fits)) (Consumes-trans r s t (take a xs) (take m ys) first next)

pub appends_next : (w x y : Option (List ℕ)) (a m n : ℕ) (bs : List ℕ) → n ≡ a + m
    → Appends w x (take a bs) → Appends x y (take m (slice_range bs a (length bs))) → Appends w y (take n bs)
appends_next w x y a m n bs e first next =
    let rest : take m (slice_range bs a (length bs)) ≡ take m _ = ap (take m) (between_to_end bs a (length bs) (le_refl (length bs))) in
    subst (Appends w y) (ap (λ l. take a bs ++ l) rest ∙ sym (take-add a m bs) ∙ ap (λ i. take i bs) (sym e)) (Appends-trans w x y (take a bs) _ first next)
