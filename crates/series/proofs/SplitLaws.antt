-- Laws of split lists: what a split keeps, and that marks on the contracts of a split list are split as its shorts are.
use Prim.Native.Nat.{ℕ, suc, ◌+◌, ◌<◌}
use mathlib.Core.Path.{◌≡◌, refl, sym, ap, ap₂, ◌∙◌}
use mathlib.Core.List.{List, [], ◌∷◌, ◌++◌, map, flatten}
use native.Mathlib.Omega.{arith}
use native.Mathlib.Nat.{zero-add}
use lib.ListN.{length, get_or, take, drop, length-append, get_or-append}
use lib.Seq.{take_at, drop_at, get_or_at, get_or-append-add}
use Rattle.series.specs.Sums.{listed}
use Rattle.series.specs.Places.{total, marked, before, last, amounts}
use Rattle.series.specs.SubAccounts.{Split, OthersKeep, SplitAtOnce}
use Rattle.series.proofs.SumLaws.{listed_cong, listed_head, total-append}
use Rattle.series.proofs.PlaceLaws.{marked-split, amounts-total}

module _ (n m : ℕ) (xs ys : List ℕ) (s : Split n m xs ys) where
  -- the split number stands in the list
  pub split-within : n < length xs
  split-within = rw s.unsplit (omega (arith, length-append s.earlier (s.one ∷ s.later), s.place))

  -- the total is the same
  pub split-total : total ys ≡ total xs
  unfolding total
  split-total =
      rw (s.unsplit, s.split) (omega (arith, total-append s.earlier (s.parts ++ s.later), total-append s.parts s.later, total-append s.earlier (s.one ∷ s.later), s.same_total))

  -- a split, position by position
  pub others_keep : OthersKeep n m xs ys
  others_keep = record { earlier_keep = earlier; together = parts; later_keep = later }
    where
      earlier : (i : ℕ) → i < n → get_or ys i 0 ≡ get_or xs i 0
      earlier i h =
          let l : i < length s.earlier = rw s.place h in
          rw (s.unsplit, s.split) (get_or-append s.earlier (s.parts ++ s.later) 0 i l ∙ sym (get_or-append s.earlier (s.one ∷ s.later) 0 i l))

      parts : total (take m (drop n ys)) ≡ get_or xs n 0
      parts =
          rw (s.unsplit, s.split, drop_at s.earlier (s.parts ++ s.later) n s.place, take_at s.parts s.later m s.number) (s.same_total ∙ sym (get_or_at s.earlier s.one s.later 0 n s.place))

      later : (j : ℕ) → get_or ys (n + m + j) 0 ≡ get_or xs (n + 1 + j) 0
      later j =
          let at_part : n + m + j ≡ length s.earlier + (length s.parts + j) = omega (arith, s.place, s.number) in
          let at_one : n + 1 + j ≡ length s.earlier + suc j = omega (arith, s.place) in
          let same = get_or-append-add s.earlier (s.parts ++ s.later) (length s.parts + j) 0 ∙ get_or-append-add s.parts s.later j 0 in
          rw (s.unsplit, s.split, at_part, at_one) (same ∙ sym (get_or-append-add s.earlier (s.one ∷ s.later) (suc j) 0))

-- ---- the marks on the contracts of a split list

-- for each position of hs the marks on its contracts, where b contracts stand before those of hs
unfoldable amounts_after : ℕ → List ℕ → List ℕ → List ℕ
amounts_after b [] ms = []
amounts_after b (h ∷ hs) ms = marked b (b + h) ms ∷ amounts_after (b + h) hs ms

after-listed : (b : ℕ) (hs ms : List ℕ) → listed (λ i. marked (b + before hs i) (b + last hs i) ms) (length hs) ≡ amounts_after b hs ms
unfolding listed amounts_after before last total
after-listed b [] ms = refl
after-listed b (h ∷ hs) ms =
    listed_head (λ i. marked (b + before (h ∷ hs) i) (b + last (h ∷ hs) i) ms) (length hs)
    ∙ ap₂ ◌∷◌ (ap₂ (λ x y. marked x y ms) (omega arith) (omega arith)) (listed_cong _ _ (length hs) (λ i l. ap₂ (λ x y. marked x y ms) (omega arith) (omega arith)) ∙ after-listed (b + h) hs ms)

amounts-after : (hs ms : List ℕ) → amounts hs ms ≡ amounts_after 0 hs ms
unfolding amounts
amounts-after hs ms = listed_cong _ _ (length hs) (λ i _. ap₂ (λ x y. marked x y ms) (omega arith) (omega arith)) ∙ after-listed 0 hs ms

length-after : (b : ℕ) (hs ms : List ℕ) → length (amounts_after b hs ms) ≡ length hs
unfolding amounts_after
length-after b [] ms = refl
length-after b (h ∷ hs) ms = ap suc (length-after (b + h) hs ms)

after-append : (b : ℕ) (xs ys ms : List ℕ) → amounts_after b (xs ++ ys) ms ≡ amounts_after b xs ms ++ amounts_after (b + total xs) ys ms
unfolding amounts_after total
after-append b [] ys ms = ap (λ c. amounts_after c ys ms) (omega arith)
after-append b (x ∷ xs) ys ms =
    ap (marked b (b + x) ms ∷◌) (after-append (b + x) xs ys ms ∙ ap (λ c. amounts_after (b + x) xs ms ++ amounts_after c ys ms) (omega arith))

-- they add up to the marks on all of these contracts, which are those of b ∷ hs without those of b
after-total : (b : ℕ) (hs ms : List ℕ) → total (amounts_after b hs ms) ≡ marked b (b + total hs) ms
unfolding amounts_after total
after-total b hs ms =
    let all : marked 0 (0 + b) ms + total (amounts_after (0 + b) hs ms) ≡ marked 0 (b + total hs) ms = ap total (sym (amounts-after (b ∷ hs) ms)) ∙ amounts-total (b ∷ hs) ms in
    omega (arith, rw (zero-add b) at all, marked-split 0 b (b + total hs) ms (omega arith) (omega arith))

-- THE SPLIT: whatever is marked, the amounts are split as the shorts are
pub split-amounts : (n m : ℕ) (hs us ms : List ℕ) → Split n m hs us → Split n m (amounts hs ms) (amounts us ms)
unfolding amounts_after
split-amounts n m hs us ms s =
    let b : ℕ = 0 + total s.earlier in
    record {
      earlier = amounts_after 0 s.earlier ms;
      one = marked b (b + s.one) ms;
      parts = amounts_after b s.parts ms;
      later = amounts_after (b + s.one) s.later ms;
      unsplit = amounts-after hs ms ∙ rw s.unsplit (after-append 0 s.earlier (s.one ∷ s.later) ms);
      split = amounts-after us ms ∙ rw (s.split, ← s.same_total) (after-append 0 s.earlier (s.parts ++ s.later) ms ∙ ap (amounts_after 0 s.earlier ms ++◌) (after-append b s.parts s.later ms));
      same_total = after-total b s.parts ms ∙ ap (λ h. marked b (b + h) ms) s.same_total;
      place = length-after 0 s.earlier ms ∙ s.place;
      number = length-after b s.parts ms ∙ s.number;
    }

-- ---- any number of splits at once

-- the marks on each group's contracts
unfoldable groups_after : ℕ → List (List ℕ) → List ℕ → List (List ℕ)
groups_after b [] ms = []
groups_after b (g ∷ gs) ms = amounts_after b g ms ∷ groups_after (b + total g) gs ms

groups-totals : (b : ℕ) (gs : List (List ℕ)) (ms : List ℕ) → amounts_after b (map total gs) ms ≡ map total (groups_after b gs ms)
unfolding groups_after amounts_after
groups-totals b [] ms = refl
groups-totals b (g ∷ gs) ms = ap₂ ◌∷◌ (sym (after-total b g ms)) (groups-totals (b + total g) gs ms)

groups_flat : (b : ℕ) (gs : List (List ℕ)) (ms : List ℕ) → amounts_after b (flatten gs) ms ≡ flatten (groups_after b gs ms)
unfolding groups_after amounts_after flatten
groups_flat b [] ms = refl
groups_flat b (g ∷ gs) ms = after-append b g (flatten gs) ms ∙ ap (amounts_after b g ms ++◌) (groups_flat (b + total g) gs ms)

groups-numbers : (b : ℕ) (gs : List (List ℕ)) (ms : List ℕ) → map length (groups_after b gs ms) ≡ map length gs
unfolding groups_after
groups-numbers b [] ms = refl
groups-numbers b (g ∷ gs) ms = ap₂ ◌∷◌ (length-after b g ms) (groups-numbers (b + total g) gs ms)

-- whatever is marked, the amounts are split at once as the shorts are
pub at_once_amounts : (ns hs us ms : List ℕ) → SplitAtOnce ns hs us → SplitAtOnce ns (amounts hs ms) (amounts us ms)
at_once_amounts ns hs us ms s =
    record {
      groups = groups_after 0 s.groups ms;
      totals = amounts-after hs ms ∙ rw s.totals (groups-totals 0 s.groups ms);
      split = amounts-after us ms ∙ rw s.split (groups_flat 0 s.groups ms);
      numbers = groups-numbers 0 s.groups ms ∙ s.numbers;
    }

total_flat : (gs : List (List ℕ)) → total (flatten gs) ≡ total (map total gs)
unfolding total flatten
total_flat [] = refl
total_flat (g ∷ gs) = total-append g (flatten gs) ∙ ap (total g +◌) (total_flat gs)

-- the total is the same
pub at_once_total : (ns xs ys : List ℕ) → SplitAtOnce ns xs ys → total ys ≡ total xs
at_once_total ns xs ys s = rw (s.totals, s.split) (total_flat s.groups)
