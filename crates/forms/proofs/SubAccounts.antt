-- Sub-accounts change nothing for others, in either form of the numbers; and what a split is of last numbers.
use Prim.Native.Nat.{ℕ, ◌+◌, ◌-◌}
use mathlib.Core.Path.{◌≡◌, refl, sym, ap, ◌∙◌}
use mathlib.Core.Bool.{true}
use mathlib.Core.List.{List, [], ◌∷◌, ◌++◌}
use native.Mathlib.Omega.{arith}
use lib.ListN.{length, take, length-append}
use lib.Seq.{append_snoc}
use Rattle.series.specs.Results.{value}
use Rattle.series.specs.Answers.{Allocation}
use Rattle.series.specs.Call.{answer}
use Rattle.series.specs.Fair.{AllocatingCall}
use Rattle.series.specs.SubAccounts.{by_places, Split, OthersKeep}
use Rattle.series.proofs.SubAccounts.{calls_keep_others}
use Rattle.forms.specs.Forms.{Listing, differences, series_in, last_of, ListingCall}
use Rattle.forms.proofs.FormLaws.{Rises, length-differences, total_of_differences, value_in}

-- an allocation on a listing is one on its series
called_on_series : (l : Listing) (a : Allocation) (old new : List ℕ) → ListingCall l (value a) old new → AllocatingCall (series_in l) (value a) old new
called_on_series l a old new call =
    record { answered = sym (value_in l.form (answer (series_in l) (length old)) a (sym call.answered)); written = call.written; fair = call.fair }

-- THE CALLS: of two that allocate, with equal terms and each in its form, every other position keeps its amount, and the new ones together get what the old one got
pub listings_keep_others : (l k : Listing) (a b : Allocation) (old new old' new' : List ℕ) → ListingCall l (value a) old new → ListingCall k (value b) old' new'
    → k.terms ≡ l.terms → by_places l.terms.method ≡ true → (n m : ℕ) → Split n m (series_in l).shorts (series_in k).shorts
    → OthersKeep n m (take (length (series_in l).shorts) new) (take (length (series_in k).shorts) new')
listings_keep_others l k a b old new old' new' call call' =
    calls_keep_others (series_in l) (series_in k) a b old new old' new' (called_on_series l a old new call) (called_on_series k b old' new' call')

-- ---- last numbers

differences-append : (b : ℕ) (xs ys : List ℕ) → differences b (xs ++ ys) ≡ differences b xs ++ differences (last_of b xs) ys
unfolding differences last_of
differences-append b [] ys = refl
differences-append b (x ∷ xs) ys = ap ((x - b) ∷◌) (differences-append x xs ys)

last_of-append : (b : ℕ) (xs : List ℕ) (x : ℕ) → last_of b (xs ++ (x ∷ [])) ≡ x
unfolding last_of
last_of-append b [] x = refl
last_of-append b (y ∷ xs) x = last_of-append y xs x

-- a split of last numbers: all of them stay, and those of the new positions but the last come before that of the split one
pub last-numbers-split : (earlier more later : List ℕ) (x : ℕ) → Rises (last_of 0 earlier) (more ++ (x ∷ []))
    → Split (length earlier) (length more + 1) (differences 0 (earlier ++ (x ∷ later))) (differences 0 (earlier ++ (more ++ (x ∷ later))))
unfolding differences
last-numbers-split earlier more later x rises =
    let c : ℕ = last_of 0 earlier in
    record {
      earlier = differences 0 earlier;
      one = x - c;
      parts = differences c (more ++ (x ∷ []));
      later = differences x later;
      unsplit = differences-append 0 earlier (x ∷ later);
      split = differences-append 0 earlier (more ++ (x ∷ later)) ∙ ap (differences 0 earlier ++◌) (between c);
      same_total = omega (arith, total_of_differences c (more ++ (x ∷ [])) rises, last_of-append c more x);
      place = length-differences 0 earlier;
      number = length-differences c (more ++ (x ∷ [])) ∙ length-append more (x ∷ []);
    }
  where
    -- after the number b
    between : (b : ℕ) → differences b (more ++ (x ∷ later)) ≡ differences b (more ++ (x ∷ [])) ++ differences x later
    between b =
        ap (differences b) (sym (append_snoc more x later))
        ∙ differences-append b (more ++ (x ∷ [])) later
        ∙ ap (λ n. differences b (more ++ (x ∷ [])) ++ differences n later) (last_of-append b more x)
