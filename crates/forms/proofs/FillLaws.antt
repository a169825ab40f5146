-- The laws of filling in the shorts of last numbers, position by position.
use Prim.Native.Nat.{ℕ, zero, suc, ◌+◌, ◌-◌, ◌≤◌, ◌<◌}
use mathlib.Core.Path.{◌≡◌, refl, sym, ap, ◌∙◌}
use mathlib.Core.List.{List, [], ◌∷◌, ◌++◌, append-nil}
use native.Mathlib.Omega.{arith}
use lib.ListN.{length, get_or, set, take, drop, length-take}
use lib.Seq.{take_all, drop-length, get_or-take}
use Rattle.series.specs.Sums.{listed}
use Rattle.series.specs.Outputs.{onto}
use Rattle.series.proofs.ListLaws.{filled, fill_none, fill_more, fill_length, fill_rest, listed_elements}
use Rattle.forms.specs.Forms.{differences}
use Rattle.forms.proofs.FormLaws.{length-differences}

-- the number before position i, b before the first
unfoldable pub prior : ℕ → List ℕ → ℕ → ℕ
prior b ns zero = b
prior b ns (suc i) = get_or ns i 0

difference_at : (b : ℕ) (ns : List ℕ) (i : ℕ) → i < length ns → get_or (differences b ns) i 0 ≡ get_or ns i 0 - prior b ns i
unfolding differences prior
difference_at b [] i l = absurd (omega arith)
difference_at b (n ∷ ns) zero l = refl
difference_at b (n ∷ ns) (suc zero) l = difference_at n ns zero (omega arith)
difference_at b (n ∷ ns) (suc (suc i)) l = difference_at n ns (suc i) (omega arith)

abbrev short_at : List ℕ → ℕ → ℕ
short_at ns j = get_or (differences 0 ns) j 0

-- the shorts of the positions before i are filled in
pub record Filling (lasts old new : List ℕ) (before i : ℕ) : Type 0 where
  pub done : new ≡ filled (short_at lasts) i old
  pub last : before ≡ prior 0 lasts i
  pub within : i ≤ length lasts
  pub room : i ≤ length old

pub fill_start : (lasts old : List ℕ) → Filling lasts old old 0 0
unfolding prior
fill_start lasts old = record { done = fill_none (short_at lasts) old; last = refl; within = omega arith; room = omega arith }

pub fill_long : (lasts old new : List ℕ) (before i : ℕ) → Filling lasts old new before i → length new ≡ length old
fill_long lasts old new before i f = fill_length (short_at lasts) old new i f.done f.room

prior_next : (lasts : List ℕ) (i : ℕ) → get_or lasts i 0 ≡ prior 0 lasts (i + 1)
unfolding prior
prior_next lasts i = let is : suc i ≡ i + 1 = omega arith in ap (prior 0 lasts) is

pub fill_next : (lasts old new : List ℕ) (before i : ℕ) → Filling lasts old new before i → i < length lasts → i < length old
    → Filling lasts old (set new i (get_or lasts i 0 - before)) (get_or lasts i 0) (i + 1)
unfolding prior
fill_next lasts old new before i f l r =
    record {
      done = fill_more (short_at lasts) old new i (get_or lasts i 0 - before) f.done r (ap (λ b. get_or lasts i 0 - b) f.last ∙ sym (difference_at 0 lasts i l));
      last = prior_next lasts i;
      within = omega arith;
      room = omega arith;
    }

-- all that both lists have room for
filled_part : (ds old : List ℕ) (i : ℕ) → i ≡ length (take (length old) ds) → filled (λ j. get_or ds j 0) i old ≡ onto (take (length old) ds) old
unfolding onto
filled_part ds old i e =
    let part = take (length old) ds in
    let all : part ≡ listed (λ j. get_or ds j 0) (length part) =
    listed_elements (λ j. get_or ds j 0) part (λ j l. sym (get_or-take (length old) ds j 0 (omega (arith, length-take (length old) ds))))
    in
    ap (λ n. listed (λ j. get_or ds j 0) n ++ drop n old) e ∙ ap (λ xs. xs ++ drop (length part) old) (sym all)

pub fill_end : (lasts old new : List ℕ) (before i : ℕ) → Filling lasts old new before i → length lasts ≤ i → new ≡ onto (take (length old) (differences 0 lasts)) old
fill_end lasts old new before i f l = f.done ∙ filled_part (differences 0 lasts) old i (omega (arith, length-take (length old) (differences 0 lasts), length-differences 0 lasts, f.within, f.room))

pub fill_full : (lasts old new : List ℕ) (before i : ℕ) → Filling lasts old new before i → length old ≤ i → new ≡ onto (take (length old) (differences 0 lasts)) old
fill_full lasts old new before i f l = f.done ∙ filled_part (differences 0 lasts) old i (omega (arith, length-take (length old) (differences 0 lasts), length-differences 0 lasts, f.within, f.room))

-- a list with an element for each position holds the shorts, and nothing else
pub fill_whole : (lasts old new : List ℕ) → length old ≡ length lasts → new ≡ onto (take (length old) (differences 0 lasts)) old → new ≡ differences 0 lasts
unfolding onto
fill_whole lasts old new even is =
    let d = differences 0 lasts in
    let long : length d ≡ length old = length-differences 0 lasts ∙ sym even in
    is
    ∙ ap (λ xs. xs ++ drop (length xs) old) (take_all (length old) d (omega arith))
    ∙ ap (λ n. d ++ drop n old) long
    ∙ ap (λ xs. d ++ xs) (drop-length old)
    ∙ append-nil d

-- ---- in the place of the last numbers

-- position i has its last number still
pub still_there : (lasts new : List ℕ) (before i : ℕ) → Filling lasts lasts new before i → i < length lasts → get_or new i 0 ≡ get_or lasts i 0
still_there lasts new before i f l = fill_rest (short_at lasts) lasts new i f.done l

pub fill_over : (lasts new : List ℕ) (before i : ℕ) → Filling lasts lasts new before i → length lasts ≤ i → new ≡ differences 0 lasts
fill_over lasts new before i f l = fill_whole lasts lasts new refl (fill_end lasts lasts new before i f l)

pub fill_step : (lasts new : List ℕ) (before i v : ℕ) → Filling lasts lasts new before i → i < length new → v ≡ get_or new i 0 - before → Filling lasts lasts (set new i v) (get_or new i 0) (i + 1)
fill_step lasts new before i v f l e =
    let in_list : i < length lasts = omega (arith, fill_long lasts lasts new before i f) in
    let there = still_there lasts new before i f in_list in
    rw (e, there) (fill_next lasts lasts new before i f in_list in_list)
