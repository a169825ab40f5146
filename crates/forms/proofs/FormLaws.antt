-- Differences and sums undo each other; a list in either form has one series; a change can be changed back.
use Prim.Native.Nat.{ℕ, zero, suc, ◌+◌, ◌-◌, ◌≤◌, ◌<◌}
use mathlib.Core.Path.{◌≡◌, refl, sym, ap, ap₂, subst, ◌∙◌}
use mathlib.Core.Bool.{Bool, true, false, cond}
use mathlib.Core.List.{List, [], ◌∷◌, ◌++◌}
use native.Mathlib.Omega.{arith}
use lib.Dec.{eqb}
use lib.ListN.{length, get_or}
use borrow.Author.Tests.{ltb-false, eqb-false, eqb-true, not-false}
use Rattle.std.specs.Prelude.{Ok, Err, Result as Result·}
use Rattle.series.specs.Results.{Result, refused, value, ◌>>=◌}
use Rattle.series.specs.Sums.{listed}
use Rattle.series.specs.Places.{total, before, last}
use Rattle.series.specs.Series.{MOST_POSITIONS, MOST_CONTRACTS, ordered_by}
use Rattle.series.specs.Refusals.{Row, first, NoneApplies, length_rows, position_rows, list_verdict}
use Rattle.series.specs.declared.Method.{Method}
use Rattle.series.specs.declared.Refusal.{Refusal}
use Rattle.series.specs.Answers.{outcome_of}
use Rattle.series.proofs.ResultLaws.{never, value_is, stepped}
use Rattle.series.proofs.SumLaws.{total_term}
use Rattle.series.proofs.ListLaws.{listed_elements}
use Rattle.series.proofs.PlaceLaws.{last-total}
use Rattle.series.proofs.RowLaws.{value_passed, value_same}
use Rattle.series.proofs.AcceptedLaws.{list_verdict_lem, positive, or-false, positions-total}
use Rattle.forms.specs.Forms.{Listing, differences, sums, shorts_by, series_in, number_in, in_form, InForm, list_verdict_in, last_of, other_form, other_numbers, in_other, changed}
use Rattle.forms.specs.declared.Form.{Form}

-- what a call comes to in a form, by what its value hands back
pub in_form_is : {A B : Type 0} (g : A → B) (f : Form) (a b : Result· A Refusal) → InForm f a b → outcome_of g b ≡ in_form f (outcome_of g a)
in_form_is g f (Ok x) b m = ap (outcome_of g) m
in_form_is g f (Err r) (Ok x) m = absurd m
in_form_is g f (Err r) (Err q) m = ap refused m

-- with shorts a result stands as it is
pub in_shorts : {A : Type 0} (r : Result A) → in_form Form.Shorts r ≡ r
in_shorts (refused n) = refl
in_shorts (value a) = refl

-- judging shorts alone
pub by_shorts : (m : Method) (codes accounts ns : List ℕ) → list_verdict m codes accounts ns ≡ list_verdict_in Form.Shorts m codes accounts ns
unfolding list_verdict_in
by_shorts m codes accounts ns = sym (in_shorts (list_verdict m codes accounts ns))

-- judging the shorts of last numbers alone
pub by_differences : (m : Method) (codes accounts ns hs : List ℕ) (b : Result ℕ) → hs ≡ differences 0 ns → b ≡ in_form Form.LastNumbers (list_verdict m codes accounts hs) → b ≡ list_verdict_in Form.LastNumbers m codes accounts ns
unfolding list_verdict_in
by_differences m codes accounts ns hs b is eb = rw is at eb

pub length-differences : (b : ℕ) (ns : List ℕ) → length (differences b ns) ≡ length ns
unfolding differences
length-differences b [] = refl
length-differences b (n ∷ ns) = ap suc (length-differences n ns)

pub length-sums : (b : ℕ) (hs : List ℕ) → length (sums b hs) ≡ length hs
unfolding sums
length-sums b [] = refl
length-sums b (h ∷ hs) = ap suc (length-sums (b + h) hs)

-- the differences of sums are the shorts
pub differences_of_sums : (b : ℕ) (hs : List ℕ) → differences b (sums b hs) ≡ hs
unfolding differences sums
differences_of_sums b [] = refl
differences_of_sums b (h ∷ hs) = ap₂ (λ x xs. x ∷ xs) (omega arith) (differences_of_sums (b + h) hs)

-- the numbers do not fall, the first one from b
unfoldable pub Rises : ℕ → List ℕ → Type 0
Rises b [] = Unit
Rises b (n ∷ ns) = (b ≤ n) × Rises n ns

-- the sums of the differences are the last numbers, where these do not fall
pub sums_of_differences : (b : ℕ) (ns : List ℕ) → Rises b ns → sums b (differences b ns) ≡ ns
unfolding differences sums Rises
sums_of_differences b [] r = refl
sums_of_differences b (n ∷ ns) r =
    let here : b + (n - b) ≡ n = omega (arith, r.0) in
    ap₂ (λ x xs. x ∷ xs) here (subst (λ m. sums m (differences n ns) ≡ ns) (sym here) (sums_of_differences n ns r.1))

-- and add up to the last one
pub total_of_differences : (b : ℕ) (ns : List ℕ) → Rises b ns → b + total (differences b ns) ≡ last_of b ns
unfolding differences total Rises last_of
total_of_differences b [] r = omega arith
total_of_differences b (n ∷ ns) r = let more = total_of_differences n ns r.1 in omega (arith, r.0)

-- in either form a list has the same shorts
pub same-shorts : (f : Form) (ns : List ℕ) → shorts_by (other_form f) (other_numbers f ns) ≡ shorts_by f ns
same-shorts Form.Shorts ns = differences_of_sums 0 ns
same-shorts Form.LastNumbers ns = refl

-- last numbers whose differences are all above 0 rise
rises_by_rows : (m : Method) (earlier : List ℕ) (before sum last : ℕ) (ks rest ns : List ℕ) → length rest ≡ length ns → length ks ≡ length ns
    → NoneApplies (position_rows m earlier before sum ks rest (differences last ns)) → Rises last ns
unfolding position_rows NoneApplies differences Rises
rises_by_rows m earlier before sum last ks rest [] la lk h = tt
rises_by_rows m earlier before sum last [] rest (n ∷ ns) la lk h = absurd (omega arith)
rises_by_rows m earlier before sum last (k ∷ ks) [] (n ∷ ns) la lk h = absurd (omega arith)
rises_by_rows m earlier before sum last (k ∷ ks) (a ∷ rest) (n ∷ ns) la lk h =
    let some : 0 < n - last = positive (eqb-false _ _ h.1.1.0) in
    (omega arith, rises_by_rows m (a ∷ earlier) k (sum + (n - last)) n ks rest ns (omega arith) (omega arith) h.1.1.1.1)

-- what a list that meets no refusal has
pub record JudgedList (accounts hs : List ℕ) (T : ℕ) : Type 0 where
  pub lengths : length accounts ≡ length hs
  pub few : length hs ≤ MOST_POSITIONS
  pub sum : T ≡ total hs
  pub small : total hs ≤ MOST_CONTRACTS

module _ (m : Method) (codes accounts hs : List ℕ) (T : ℕ) (v : list_verdict m codes accounts hs ≡ value T) where
  abbrev order : List ℕ
  order = ordered_by m codes accounts

  -- the rows of the list, 4 excepted
  abbrev list_rows' : List Row
  list_rows' = length_rows order accounts hs ++ position_rows m [] 0 0 order accounts hs

  judged : first list_rows' (total hs) ≡ value T
  judged = sym (list_verdict_lem m codes accounts hs) ∙ v

  none : NoneApplies list_rows'
  none = value_passed list_rows' (total hs) T judged

  even : (length accounts ≡ length hs) × (length order ≡ length hs)
  unfolding NoneApplies length_rows
  even =
      let parts = or-false _ _ none.0 in
      (eqb-true _ _ (not-false _ parts.0), eqb-true _ _ (not-false _ parts.1))

  pub positions : NoneApplies (position_rows m [] 0 0 order accounts hs)
  unfolding NoneApplies length_rows
  positions = none.1.1.1

  pub list_facts : JudgedList accounts hs T
  unfolding NoneApplies length_rows
  list_facts =
      record {
        lengths = even.0;
        few = ltb-false _ _ none.1.0;
        sum = sym (value_same list_rows' (total hs) T judged);
        small = omega (arith, positions-total m [] 0 0 order accounts hs even.0 even.1 (omega arith) positions);
      }

-- the value of a call in a form is that of its series
pub value_in : {A : Type 0} (f : Form) (r : Result A) (a : A) → in_form f r ≡ value a → r ≡ value a
value_in f (refused n) a h = absurd (never (number_in f n) a h)
value_in f (value b) a h = h

-- the last numbers of an accepted list rise
judged_rises : (m : Method) (codes accounts ns : List ℕ) (T : ℕ) → list_verdict m codes accounts (differences 0 ns) ≡ value T → Rises 0 ns
judged_rises m codes accounts ns T v =
    let lengths = even m codes accounts (differences 0 ns) T v in
    let same = length-differences 0 ns in
    rises_by_rows m [] 0 0 0 (ordered_by m codes accounts) accounts ns (lengths.0 ∙ same) (lengths.1 ∙ same) (positions m codes accounts (differences 0 ns) T v)

-- an accepted list in the other form, and in the other again, is the list
pub other_again : (f : Form) (m : Method) (codes accounts ns : List ℕ) (T : ℕ) → list_verdict m codes accounts (shorts_by f ns) ≡ value T → other_numbers (other_form f) (other_numbers f ns) ≡ ns
other_again Form.Shorts m codes accounts ns T v = differences_of_sums 0 ns
other_again Form.LastNumbers m codes accounts ns T v = sums_of_differences 0 ns (judged_rises m codes accounts ns T v)

-- the last number of an accepted list is T
pub last_is_total : (m : Method) (codes accounts ns : List ℕ) (T : ℕ) → list_verdict_in Form.LastNumbers m codes accounts ns ≡ value T → last_of 0 ns ≡ T
unfolding list_verdict_in
last_is_total m codes accounts ns T v =
    let judged = value_in Form.LastNumbers (list_verdict m codes accounts (differences 0 ns)) T v in
    omega (arith, total_of_differences 0 ns (judged_rises m codes accounts ns T judged), (list_facts m codes accounts (differences 0 ns) T judged).sum)

-- what an unrefused change has: the list was judged, and stands in the other form
pub record Changed (l l' : Listing) : Type 0 where
  pub T : ℕ
  pub judged : list_verdict l.terms.method l.codes l.accounts (shorts_by l.form l.numbers) ≡ value T
  pub other : in_other l ≡ l'

pub change_is : (l l' : Listing) → changed l ≡ value l' → Changed l l'
unfolding changed list_verdict_in
change_is l l' h =
    let step = stepped (list_verdict_in l.form l.terms.method l.codes l.accounts l.numbers) (λ T. value (in_other l)) l' h in
    record {
      T = step.from;
      judged = value_in l.form (list_verdict l.terms.method l.codes l.accounts (shorts_by l.form l.numbers)) step.from step.step;
      other = value_is step.on;
    }

-- in the other form it is the same series
pub same_series : (l l' : Listing) → changed l ≡ value l' → series_in l' ≡ series_in l
same_series l l' h =
    let is = change_is l l' h in
    subst (λ x. series_in x ≡ series_in l) is.other (ap (λ hs. record { terms = l.terms; codes = l.codes; accounts = l.accounts; shorts = hs }) (same-shorts l.form l.numbers))

other_other : (f : Form) → other_form (other_form f) ≡ f
other_other Form.Shorts = refl
other_other Form.LastNumbers = refl

sum-at : (b : ℕ) (hs : List ℕ) (i : ℕ) → i < length hs → get_or (sums b hs) i 0 ≡ b + last hs i
unfolding sums total last before
sum-at b [] i l = absurd (omega arith)
sum-at b (h ∷ hs) zero l = omega arith
sum-at b (h ∷ hs) (suc i) l = let more = sum-at (b + h) hs i (omega arith) in omega arith

-- the sums of shorts are the last contracts of the positions, as document 01 numbers them
pub sums_are_lasts : (hs : List ℕ) → sums 0 hs ≡ listed (last hs) (length hs)
sums_are_lasts hs =
    listed_elements (last hs) (sums 0 hs) (λ i l. let at = sum-at 0 hs i (omega (arith, length-sums 0 hs)) in omega arith) ∙ ap (listed (last hs)) (length-sums 0 hs)

others_small : (f : Form) (ns : List ℕ) → total (shorts_by f ns) ≤ MOST_CONTRACTS → (i : ℕ) → i < length (other_numbers f ns) → get_or (other_numbers f ns) i 0 ≤ MOST_CONTRACTS
others_small Form.Shorts ns small i l = let in_List : i < length ns = omega (arith, length-sums 0 ns) in omega (arith, sum-at 0 ns i in_List, last-total ns i in_List)
others_small Form.LastNumbers ns small i l = let at = total_term (differences 0 ns) i l in omega arith

back : (l : Listing) (T : ℕ) → list_verdict l.terms.method l.codes l.accounts (shorts_by l.form l.numbers) ≡ value T → changed (in_other l) ≡ value l
unfolding changed list_verdict_in
back l T v =
    let g = other_form l.form in
    let judged : list_verdict_in g l.terms.method l.codes l.accounts (other_numbers l.form l.numbers) ≡ value T =
    ap (λ hs. in_form g (list_verdict l.terms.method l.codes l.accounts hs)) (same-shorts l.form l.numbers) ∙ ap (in_form g) v
    in
    let again = other_again l.form l.terms.method l.codes l.accounts l.numbers T v in
    ap (λ r. r >>= (λ _. value (in_other (in_other l)))) judged
    ∙ ap value (ap₂ (λ f ns. record { form = f; terms = l.terms; codes = l.codes; accounts = l.accounts; numbers = ns }) (other_other l.form) again)

-- an unrefused change can be changed back, and gives the listing that it came from
pub changed_back : (l l' : Listing) → changed l ≡ value l' → changed l' ≡ value l
changed_back l l' h = let is = change_is l l' h in subst (λ x. changed x ≡ value l) is.other (back l is.T is.judged)

-- no position's number in the other form is above 10,000,000
pub changed-small : (l l' : Listing) → changed l ≡ value l' → (i : ℕ) → i < length l'.numbers → get_or l'.numbers i 0 ≤ MOST_CONTRACTS
changed-small l l' h =
    let is = change_is l l' h in
    let small = (list_facts l.terms.method l.codes l.accounts (shorts_by l.form l.numbers) is.T is.judged).small in
    subst (λ x. (i : ℕ) → i < length x.numbers → get_or x.numbers i 0 ≤ MOST_CONTRACTS) is.other (others_small l.form l.numbers small)

other_length : (f : Form) (ns : List ℕ) → length (other_numbers f ns) ≡ length ns
other_length Form.Shorts ns = length-sums 0 ns
other_length Form.LastNumbers ns = length-differences 0 ns

-- a number for each position, as before
pub changed-length : (l l' : Listing) → changed l ≡ value l' → length l'.numbers ≡ length l.numbers
changed-length l l' h = subst (λ x. length x.numbers ≡ length l.numbers) (change_is l l' h).other (other_length l.form l.numbers)

-- a refusal that is not 6 is the same in either form
pub same_number : (f : Form) (n : ℕ) → eqb n 6 ≡ false → number_in f n ≡ n
same_number Form.Shorts n e = refl
same_number Form.LastNumbers n e = rw e refl

-- rows none of which is 6
unfoldable pub SixFree : List Row → Type 0
SixFree [] = Unit
SixFree (r ∷ rows) = (eqb r.number 6 ≡ false) × SixFree rows

-- come to the same in either form
pub six_free : {A : Type 0} (f : Form) (rows : List Row) (a : A) → SixFree rows → in_form f (first rows a) ≡ first rows a
unfolding SixFree first
six_free f [] a h = refl
six_free f (r ∷ rows) a h = step r.holds (six_free f rows a h.1)
  where
    step : (b : Bool) → in_form f (first rows a) ≡ first rows a → in_form f (cond b (refused r.number) (first rows a)) ≡ cond b (refused r.number) (first rows a)
    step true e = ap refused (same_number f r.number h.0)
    step false e = e
