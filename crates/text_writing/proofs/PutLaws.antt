-- Laws of bytes that are put into a text.
use Prim.Native.Nat.{ℕ, suc, ◌+◌, ◌/◌, ◌%◌, ◌≤◌, ◌<◌}
use mathlib.Core.Path.{◌≡◌, refl, sym, ap, ◌∙◌}
use mathlib.Core.List.{List, [], ◌∷◌, ◌++◌, append_assoc, append-nil}
use native.Mathlib.Omega.{arith}
use native.Mathlib.Nat.{zero-add, add-zero}
use native.Mathlib.Numerals.{add-one}
use lib.ListN.{length, get_or, take, drop, set, length-append, length-drop, length-set, take-append-drop}
use lib.Seq.{paste, take_at, take-length, drop-length, take-suc, drop-drop, take-paste, drop-paste, length-paste, set_split, set_at, length-take-le, append_snoc}
use borrow.Rule.Slice.PartMut.{put_mid, post_of}
use Rattle.series.specs.Outputs.{onto}
use Rattle.text_rules.specs.Numbers.{decimal}
use Rattle.text_rules.specs.Fields.{write_number}
use Rattle.text_writing.specs.Parts.{placed, Put}
use Rattle.text_rules.proofs.DecimalLaws.{LeftOf, left_start, left-digit, left-more}

placed_paste : (vs : List ℕ) (at : ℕ) (old : List ℕ) → placed vs at old ≡ paste old at vs (length vs)
unfolding placed
placed_paste vs at old = rw take-length

pub length-placed : (vs : List ℕ) (at : ℕ) (old : List ℕ) → at + length vs ≤ length old → length (placed vs at old) ≡ length old
length-placed vs at old fits = rw placed_paste (length-paste old at vs (length vs) fits (omega arith))

-- nothing is put
pub placed-nil : (at : ℕ) (old : List ℕ) → placed [] at old ≡ old
unfolding placed
placed-nil at old = rw (add-zero, append-nil) (take-append-drop at old)

-- bytes that are copied to the part of a text that is as long as they
pub put_part : (line old part : List ℕ) (at n : ℕ) → n ≡ length line → part ≡ line → Put line old at (put_mid at n old part) (at + length line)
unfolding placed
put_part line old part at n en e =
    let rest : post_of at n old ≡ drop (at + length line) old = drop-drop n at old ∙ ap (λ k. drop (at + k) old) en in
    record {
      text = ap (λ zs. take at old ++ (part ++ zs)) rest ∙ ap (λ (p : List ℕ). take at old ++ (p ++ drop (at + length line) old)) e ∙ sym (append_assoc (take at old) line (drop (at + length line) old));
      after = refl;
    }

-- bytes that are put at the start
pub placed-onto : (vs old : List ℕ) → placed vs 0 old ≡ onto vs old
unfolding placed onto
placed-onto vs old = rw zero-add

-- bytes that are put after others
pub placed-placed : (vs ws : List ℕ) (at : ℕ) (old : List ℕ) → at + length vs ≤ length old → placed ws (at + length vs) (placed vs at old) ≡ placed (vs ++ ws) at old
unfolding placed
placed-placed vs ws at old fits =
    let n : ℕ = length vs in
    let p : List ℕ = placed vs at old in
    let le : at ≤ length old = omega arith in
    let front : take (at + n) p ≡ take at old ++ vs = rw (placed_paste vs at old, take-paste old at vs n le (omega arith), take-length) in
    let same : drop (at + n) p ≡ drop (at + n) old = rw (placed_paste vs at old) (drop-paste old at vs n le (omega arith)) in
    let back : drop (at + n + length ws) p ≡ drop (at + n + length ws) old
    = sym (drop-drop (length ws) (at + n) p) ∙ ap (drop (length ws)) same ∙ drop-drop (length ws) (at + n) old in
    let total : at + n + length ws ≡ at + length (vs ++ ws) = rw length-append (omega arith) in
    ap (λ (l : List ℕ). l ++ ws ++ drop (at + n + length ws) p) front
    ∙ ap (λ (l : List ℕ). take at old ++ vs ++ ws ++ l) back
    ∙ ap (λ (k : ℕ). take at old ++ vs ++ ws ++ drop k old) total
    ∙ ap (λ (l : List ℕ). l ++ drop (at + length (vs ++ ws)) old) (append_assoc (take at old) vs ws)

-- a byte that is put in front of others
pub placed_front : (b : ℕ) (vs : List ℕ) (at : ℕ) (old : List ℕ) → at + suc (length vs) ≤ length old → set (placed vs (at + 1) old) at b ≡ placed (b ∷ vs) at old
unfolding placed
placed_front b vs at old fits =
    let lt : at < length old = omega arith in
    let total : at + 1 + length vs ≡ at + suc (length vs) = omega arith in
    let rest : List ℕ = vs ++ drop (at + suc (length vs)) old in
    let more : take (at + 1) old ≡ take at old ++ (get_or old at 0 ∷ []) = rw add-one (take-suc old at 0 lt) in
    let split : placed vs (at + 1) old ≡ take at old ++ (get_or old at 0 ∷ rest)
    = ap (λ (k : ℕ). take (at + 1) old ++ vs ++ drop k old) total
    ∙ append_assoc (take (at + 1) old) vs (drop (at + suc (length vs)) old)
    ∙ ap (λ (l : List ℕ). l ++ rest) more
    ∙ append_assoc (take at old) (get_or old at 0 ∷ []) rest in
    ap (λ (l : List ℕ). set l at b) split
    ∙ set_at (take at old) (get_or old at 0) rest b at (length-take-le at old (omega arith))
    ∙ sym (append_assoc (take at old) (b ∷ vs) (drop (at + suc (length vs)) old))

-- a byte that is put
pub placed_byte : (b : ℕ) (at : ℕ) (old : List ℕ) → at < length old → set old at b ≡ placed (b ∷ []) at old
unfolding placed
placed_byte b at old lt = rw add-one (set_split old at b lt ∙ sym (append_snoc (take at old) b (drop (suc at) old)))

-- ---- what a function that puts bytes hands back

-- the bytes are put one after the other
pub put_append : (vs ws old : List ℕ) (at : ℕ) (mid new : List ℕ) (i j : ℕ) → at + length vs ≤ length old → Put vs old at mid i → Put ws mid i new j → Put (vs ++ ws) old at new j
put_append vs ws old at mid new i j fits p q =
    record {
      text = rw (q.text, p.after, p.text) (placed-placed vs ws at old fits);
      after = rw (q.after, p.after, length-append) (omega arith);
    }

pub put_nil : (old : List ℕ) (at : ℕ) → Put [] old at old at
put_nil old at = record { text = sym (placed-nil at old); after = omega arith }

pub put_byte : (b : ℕ) (old : List ℕ) (at : ℕ) → at < length old → Put (b ∷ []) old at (set old at b) (at + 1)
put_byte b old at lt = record { text = placed_byte b at old lt; after = refl }

-- bytes that are put at the start are the first ones
pub put_taken : (vs old new : List ℕ) (n : ℕ) → Put vs old 0 new n → take n new ≡ vs
unfolding placed
put_taken vs old new n p = rw p.text (take_at vs (drop (0 + length vs) old) n (omega (arith, p.after)))

-- what a loop that puts the bytes vs keeps: once the bytes that are left are put at index i, which makes it new, vs are put at index `at` of old
pub record Left (vs old : List ℕ) (at : ℕ) (left new : List ℕ) (i : ℕ) : Type 0 where
  pub text : placed left i new ≡ placed vs at old
  pub after : i + length left ≡ at + length vs
  pub long : length new ≡ length old

-- of the bytes that are left, there is room for the first ones
pub left_fits : {vs old : List ℕ} {at : ℕ} (ws left : List ℕ) {new : List ℕ} {i : ℕ} → at + length vs ≤ length old → Left vs old at (ws ++ left) new i → i + length ws ≤ length new
left_fits ws left fits so = omega (arith, fits, so.after, so.long, length-append ws left)

-- and they are put
pub put_more : {vs old : List ℕ} {at : ℕ} {ws left new new' : List ℕ} {i j : ℕ} → at + length vs ≤ length old → Left vs old at (ws ++ left) new i → Put ws new i new' j → Left vs old at left new' j
put_more {ws = ws} {left = left} {new = new} {i = i} fits so p =
    let room = left_fits ws left fits so in
    record {
      text = rw (p.text, p.after, placed-placed ws left i new room) so.text;
      after = omega (arith, p.after, so.after, length-append ws left);
      long = ap length p.text ∙ length-placed ws i new room ∙ so.long;
    }

-- nothing is left
pub put_end : {vs old : List ℕ} {at : ℕ} {new : List ℕ} {i : ℕ} → Left vs old at [] new i → Put vs old at new i
put_end {new = new} {i = i} so = record { text = sym (placed-nil i new) ∙ so.text; after = omega (arith, so.after) }

-- ---- the digits of a number, from the last to the first

-- what the loop keeps: the digits of n from index i on are put, which makes the text new, and the first i are those of rest
pub record DigitsPut (n : ℕ) (old : List ℕ) (at : ℕ) (new : List ℕ) (i rest : ℕ) : Type 0 where
  pub within : i ≤ length (decimal n)
  pub left : LeftOf n i rest
  pub text : new ≡ placed (drop i (decimal n)) (at + i) old
  pub long : length new ≡ length old

pub digits_start : (n : ℕ) (old : List ℕ) (at i : ℕ) → i ≡ length (decimal n) → DigitsPut n old at old i n
digits_start n old at i is =
    record {
      within = omega arith;
      left = rw is (left_start n);
      text = rw (is, drop-length) (sym (placed-nil (at + length (decimal n)) old));
      long = refl;
    }

pub digits_more : (n : ℕ) (old : List ℕ) (at : ℕ) (new : List ℕ) (i rest j : ℕ) → i ≡ suc j → at + length (decimal n) ≤ length old → DigitsPut n old at new i rest
    → DigitsPut n old at (set new (at + j) (48 + rest % 10)) j (rest / 10)
digits_more n old at new i rest j is fits so =
    let left : LeftOf n (suc j) rest = rw is at so.left in
    let index : at + suc j ≡ at + j + 1 = omega arith in
    let room : at + j + suc (length (drop (suc j) (decimal n))) ≤ length old = rw length-drop (omega (arith, so.within)) in
    record {
      within = omega (arith, so.within);
      left = left-more n j rest left;
      text = rw (so.text, is, index, left-digit n j rest left) (placed_front (48 + rest % 10) (drop (suc j) (decimal n)) (at + j) old room);
      long = length-set new (at + j) (48 + rest % 10) ∙ so.long;
    }

-- all digits are put, and then the byte that ends the field
pub digits-end : (n c : ℕ) (old : List ℕ) (at : ℕ) (new : List ℕ) (i rest k : ℕ) → i ≡ 0 → k ≡ length (decimal n) → at + length (decimal n) < length old → DigitsPut n old at new i rest
    → Put (write_number n c) old at (set new (at + k) c) (at + k + 1)
unfolding write_number
digits-end n c old at new i rest k is many fits so =
    let all : Put (decimal n) old at new (at + k) = record { text = so.text ∙ rw (is, add-zero); after = rw many } in
    put_append (decimal n) (c ∷ []) old at new (set new (at + k) c) (at + k) (at + k + 1) (omega arith) all (put_byte c new (at + k) (omega (arith, so.long)))
