-- What last numbers meet, by document 02's words; and that an accepted list is judged alike in either form.
use Prim.Native.Nat.{ℕ, ◌+◌, ◌-◌, ◌<◌}
use mathlib.Core.Path.{◌≡◌, refl, sym, ap, ap₂, subst, ◌∙◌}
use mathlib.Core.Bool.{Bool, true, false, not, ◌||◌, cond}
use mathlib.Core.List.{List, [], ◌∷◌, ◌++◌}
use native.Mathlib.Omega.{arith}
use native.Mathlib.Decide.{dec_le}
use lib.Dec.{eqb, ltb, leb}
use lib.ListN.{length}
use borrow.Author.Tests.{eqb-true, not-false, le-leb, lt-leb, lt-ltb, eq-eqb, ne_eqb}
use Rattle.series.specs.Results.{Result, refused, value, ◌>>=◌}
use Rattle.series.specs.Places.{total}
use Rattle.series.specs.Series.{MOST_POSITIONS, MOST_CONTRACTS, Series, method, held, order, ordered_by}
use Rattle.series.specs.Refusals.{Row, first, NoneApplies, length_rows, room_rows, account_refused, position_rows, exercised_rows, increment_rows, undrawn, draw_rows, then_draw_rows, terms_rows, list_rows, rows, list_verdict, verdict}
use Rattle.series.specs.declared.Method.{Method}
use Rattle.series.specs.declared.Terms.{Terms}
use Rattle.series.proofs.RowLaws.{passed_value, passed_append, value_same, first-append}
use Rattle.series.proofs.AcceptedLaws.{list_verdict_lem, or-false}
use Rattle.forms.specs.Forms.{Listing, differences, series_in, number_in, in_form, verdict_in, list_verdict_in, last_rows, last_of, changed}
use Rattle.forms.specs.declared.Form.{Form}
use Rattle.forms.proofs.FormLaws.{length-differences, same_number, SixFree, six_free, positions, change_is, same_series}

outer : (b c : Bool) (x y : Result ℕ) → in_form Form.LastNumbers x ≡ y
    → in_form Form.LastNumbers (cond b (refused 5) (cond c (refused 19) x)) ≡ cond b (refused 5) (cond c (refused 19) y)
outer true c x y h = refl
outer false true x y h = refl
outer false false x y h = h

inner : (b : Bool) (x y : Result ℕ) → in_form Form.LastNumbers x ≡ y → in_form Form.LastNumbers (cond b (refused 7) x) ≡ cond b (refused 7) y
inner true x y h = refl
inner false x y h = h

-- one position's contracts, where `below` is what the positions after it come to
by_last : (last n : ℕ) (below below' : Result ℕ) → (last < n → in_form Form.LastNumbers below ≡ below')
    → in_form Form.LastNumbers (cond (eqb (n - last) 0) (refused 6) (cond (ltb MOST_CONTRACTS (last + (n - last))) (refused 7) below))
    ≡ cond (leb n last) (refused 20) (cond (ltb MOST_CONTRACTS n) (refused 7) below')
by_last last n below below' on =
    elim (dec_le n last) [
      | yes low ↦
          let z : eqb (n - last) 0 ≡ true = eq-eqb (n - last) 0 (omega arith) in
          let l : leb n last ≡ true = le-leb n last low in
          rw z (rw l refl)
      | no not_low ↦
          let above : last < n = omega arith in
          let z : eqb (n - last) 0 ≡ false = ne_eqb (n - last) 0 (λ e. omega arith) in
          let l : leb n last ≡ false = lt-leb n last above in
          let at : last + (n - last) ≡ n = omega arith in
          rw z (rw l (rw at (inner (ltb MOST_CONTRACTS n) below below' (on above))))
    ]

-- the positions, after those before them with `last` contracts
positions_by_last : (m : Method) (earlier : List ℕ) (before last : ℕ) (ks rest ns : List ℕ) → length rest ≡ length ns → length ks ≡ length ns
    → in_form Form.LastNumbers (first (position_rows m earlier before last ks rest (differences last ns)) (last + total (differences last ns)))
    ≡ first (last_rows m earlier before last ks rest ns) (last_of last ns)
unfolding position_rows last_rows differences first total last_of
positions_by_last m earlier before last [] [] [] la lk = ap value (omega arith)
positions_by_last m earlier before last (k ∷ ks) rest [] la lk = absurd (omega arith)
positions_by_last m earlier before last [] (a ∷ rest) [] la lk = absurd (omega arith)
positions_by_last m earlier before last [] rest (n ∷ ns) la lk = absurd (omega arith)
positions_by_last m earlier before last (k ∷ ks) [] (n ∷ ns) la lk = absurd (omega arith)
positions_by_last m earlier before last (k ∷ ks) (a ∷ rest) (n ∷ ns) la lk =
    let more = positions_by_last m (a ∷ earlier) k n ks rest ns (omega arith) (omega arith) in
    outer (eqb k 0 || leb k before) (account_refused m earlier a) _ _
    (by_last last n _ _ (λ above.
    let at : last + (n - last) ≡ n = omega arith in
    let sum : last + (n - last + total (differences n ns)) ≡ n + total (differences n ns) = omega arith in
    ap₂ (λ x y. in_form Form.LastNumbers (first (position_rows m (a ∷ earlier) k x ks rest (differences n ns)) y)) at sum ∙ more))

-- the positions from the top
from_top : (m : Method) (ks rest ns : List ℕ) → length rest ≡ length ns → length ks ≡ length ns
    → in_form Form.LastNumbers (first (position_rows m [] 0 0 ks rest (differences 0 ns)) (total (differences 0 ns))) ≡ first (last_rows m [] 0 0 ks rest ns) (last_of 0 ns)
from_top m ks rest ns la lk =
    let sum : total (differences 0 ns) ≡ 0 + total (differences 0 ns) = omega arith in
    ap (λ t. in_form Form.LastNumbers (first (position_rows m [] 0 0 ks rest (differences 0 ns)) t)) sum ∙ positions_by_last m [] 0 0 ks rest ns la lk

-- the rows of the length go by the lengths alone
length_rows_lem : (order accounts hs hs' : List ℕ) → length hs ≡ length hs' → length_rows order accounts hs ≡ length_rows order accounts hs'
unfolding length_rows
length_rows_lem order accounts hs hs' e = rw e refl

-- rows, and then the rows below them, in a form
in_append : {A : Type 0} (f : Form) (xs ys : List Row) (a : A) → SixFree xs → in_form f (first (xs ++ ys) a) ≡ first xs a >>= (λ b. in_form f (first ys b))
unfolding first SixFree
in_append f [] ys a free = refl
in_append f (x ∷ xs) ys a free = step x.holds (in_append f xs ys a free.1)
  where
    step : (b : Bool) → in_form f (first (xs ++ ys) a) ≡ first xs a >>= (λ c. in_form f (first ys c))
        → in_form f (cond b (refused x.number) (first (xs ++ ys) a)) ≡ cond b (refused x.number) (first xs a) >>= (λ c. in_form f (first ys c))
    step true e = ap refused (same_number f x.number free.0)
    step false e = e

-- what comes after rows is asked for only where none of them applies
same_after : (xs : List Row) (g h : ℕ → Result ℕ) (t u : ℕ) → (NoneApplies xs → g t ≡ h u) → (first xs t >>= g) ≡ (first xs u >>= h)
unfolding first NoneApplies
same_after [] g h t u on = on tt
same_after (x ∷ xs) g h t u on = step x.holds (λ passes. same_after xs g h t u (λ none. on (passes, none)))
  where
    step : (b : Bool) → (b ≡ false → (first xs t >>= g) ≡ (first xs u >>= h)) → (cond b (refused x.number) (first xs t) >>= g) ≡ (cond b (refused x.number) (first xs u) >>= h)
    step true below = refl
    step false below = below refl

-- a list whose length no row turns away
even : (order accounts ns : List ℕ) → NoneApplies (length_rows order accounts ns) → (length accounts ≡ length ns) × (length order ≡ length ns)
unfolding length_rows NoneApplies
even order accounts ns none =
    let parts = or-false _ _ none.0 in
    (eqb-true _ _ (not-false _ parts.0), eqb-true _ _ (not-false _ parts.1))

-- no row of the length is 6
length-free : (order accounts ns : List ℕ) → SixFree (length_rows order accounts ns)
unfolding length_rows SixFree
length-free order accounts ns = (refl, (refl, (refl, tt)))

-- judging a list of last numbers: the rows of the length, and then document 02's of each position; T is the last number
pub by_last_numbers : (m : Method) (codes accounts ns : List ℕ)
    → list_verdict_in Form.LastNumbers m codes accounts ns ≡ first (length_rows (ordered_by m codes accounts) accounts ns ++ last_rows m [] 0 0 (ordered_by m codes accounts) accounts ns) (last_of 0 ns)
unfolding list_verdict_in
by_last_numbers m codes accounts ns =
    let o = ordered_by m codes accounts in
    let d = differences 0 ns in
    let P = position_rows m [] 0 0 o accounts d in
    let Q = last_rows m [] 0 0 o accounts ns in
    ap (in_form Form.LastNumbers) (list_verdict_lem m codes accounts d)
    ∙ ap (λ xs. in_form Form.LastNumbers (first (xs ++ P) (total d))) (length_rows_lem o accounts d ns (length-differences 0 ns))
    ∙ in_append Form.LastNumbers (length_rows o accounts ns) P (total d) (length-free o accounts ns)
    ∙ same_after (length_rows o accounts ns) (λ b. in_form Form.LastNumbers (first P b)) (first Q) (total d) (last_of 0 ns)
    (λ none. let lengths = even o accounts ns none in from_top m o accounts ns lengths.0 lengths.1)
    ∙ sym (first-append (length_rows o accounts ns) Q (last_of 0 ns))

-- no row of the terms is 6
terms_free : (t : Terms) (T n : ℕ) → SixFree (terms_rows t T n)
unfolding terms_rows exercised_rows increment_rows then_draw_rows draw_rows SixFree
terms_free t T n = (refl, (refl, by_cases t.method refl (undrawn t T n) refl))
  where
    by_cases : (m : Method) → t.method ≡ m → (b : Bool) → undrawn t T n ≡ b → SixFree (increment_rows t T ++ cond (undrawn t T n) [] (draw_rows t T))
    by_cases Method.Wheel e true u = rw (u, e) (refl, (refl, tt))
    by_cases Method.Wheel e false u = rw (u, e) (refl, (refl, (refl, tt)))
    by_cases Method.ProRata e true u = rw (u, e) tt
    by_cases Method.ProRata e false u = rw (u, e) tt
    by_cases Method.Lottery e true u = rw (u, e) tt
    by_cases Method.Lottery e false u = rw (u, e) (refl, tt)
    by_cases Method.RemainderDraw e true u = rw (u, e) tt
    by_cases Method.RemainderDraw e false u = rw (u, e) tt

-- in a form, a step and what comes after its value
in_step : (f : Form) (x y : Result ℕ) (g h : ℕ → Result ℕ) → in_form f x ≡ y → ((t : ℕ) → x ≡ value t → in_form f (g t) ≡ h t) → in_form f (x >>= g) ≡ (y >>= h)
in_step f (refused n) y g h e on = ap (λ r. r >>= h) e
in_step f (value t) y g h e on = on t refl ∙ ap (λ r. r >>= h) e

-- the rows of the length and the output go by the lengths, and none is 6
above_rows : (order accounts hs hs' : List ℕ) (room : ℕ) → length hs ≡ length hs' → length_rows order accounts hs ++ room_rows hs room ≡ length_rows order accounts hs' ++ room_rows hs' room
unfolding length_rows room_rows
above_rows order accounts hs hs' room e = rw e refl

above_free : (order accounts ns : List ℕ) (room : ℕ) → SixFree (length_rows order accounts ns ++ room_rows ns room)
unfolding length_rows room_rows SixFree
above_free order accounts ns room = (refl, (refl, (refl, (refl, tt))))

above-even : (order accounts ns : List ℕ) (room : ℕ) → NoneApplies (length_rows order accounts ns ++ room_rows ns room) → (length accounts ≡ length ns) × (length order ≡ length ns)
above-even order accounts ns room none = even order accounts ns (passed_append (length_rows order accounts ns) (room_rows ns room) none).0

-- the positions, and then S and the draw
then_terms : (t : Terms) (ks accounts ns : List ℕ) → length accounts ≡ length ns → length ks ≡ length ns
    → in_form Form.LastNumbers (first (position_rows t.method [] 0 0 ks accounts (differences 0 ns) ++ terms_rows t (total (differences 0 ns)) (length ns)) (total (differences 0 ns)))
    ≡ first (last_rows t.method [] 0 0 ks accounts ns ++ terms_rows t (last_of 0 ns) (length ns)) (last_of 0 ns)
then_terms t ks accounts ns la lk =
    let m = t.method in
    let T = total (differences 0 ns) in
    let P = position_rows m [] 0 0 ks accounts (differences 0 ns) in
    let Q = last_rows m [] 0 0 ks accounts ns in
    let listed = from_top m ks accounts ns la lk in
    ap (in_form Form.LastNumbers) (first-append P (terms_rows t T (length ns)) T)
    ∙ in_step Form.LastNumbers (first P T) (first Q (last_of 0 ns)) (first (terms_rows t T (length ns))) (first (terms_rows t (last_of 0 ns) (length ns))) listed
    (λ x e.
    let is-total : T ≡ x = value_same P T x e in
    let is_last : last_of 0 ns ≡ x = value_same Q (last_of 0 ns) x (sym listed ∙ ap (in_form Form.LastNumbers) e) in
    six_free Form.LastNumbers (terms_rows t T (length ns)) x (terms_free t T (length ns)) ∙ ap (λ y. first (terms_rows t y (length ns)) x) (is-total ∙ sym is_last))
    ∙ sym (first-append Q (terms_rows t (last_of 0 ns) (length ns)) (last_of 0 ns))

-- judging a call of last numbers: the rows of the length, of the output, document 02's of each position, and those of the terms, with the last number for T
pub called_by_last_numbers : (t : Terms) (codes accounts ns : List ℕ) (room : ℕ)
    → verdict_in (record { form = Form.LastNumbers; terms = t; codes = codes; accounts = accounts; numbers = ns }) room
    ≡ first ((length_rows (ordered_by t.method codes accounts) accounts ns ++ room_rows ns room) ++ (last_rows t.method [] 0 0 (ordered_by t.method codes accounts) accounts ns ++ terms_rows t (last_of 0 ns) (length ns))) (last_of 0 ns)
unfolding verdict_in verdict rows list_rows length_rows room_rows
called_by_last_numbers t codes accounts ns room =
    let m = t.method in
    let o = ordered_by m codes accounts in
    let d = differences 0 ns in
    let same = length-differences 0 ns in
    let P = position_rows m [] 0 0 o accounts d in
    let Q = last_rows m [] 0 0 o accounts ns in
    let above = length_rows o accounts ns ++ room_rows ns room in
    ap₂ (λ xs n. in_form Form.LastNumbers (first (xs ++ (P ++ terms_rows t (total d) n)) (total d))) (above_rows o accounts d ns room same) same
    ∙ in_append Form.LastNumbers above (P ++ terms_rows t (total d) (length ns)) (total d) (above_free o accounts ns room)
    ∙ same_after above (λ b. in_form Form.LastNumbers (first (P ++ terms_rows t (total d) (length ns)) b)) (first (Q ++ terms_rows t (last_of 0 ns) (length ns))) (total d) (last_of 0 ns)
    (λ none. let lengths = above-even o accounts ns room none in then_terms t o accounts ns lengths.0 lengths.1)
    ∙ sym (first-append above (Q ++ terms_rows t (last_of 0 ns) (length ns)) (last_of 0 ns))

-- a list that meets no refusal is judged alike in either form, with any S and draw
pub judged_alike : (f : Form) (s : Series) (room T : ℕ) → list_verdict (method s) s.codes s.accounts s.shorts ≡ value T → in_form f (verdict s room) ≡ verdict s room
unfolding verdict rows list_rows length_rows room_rows
judged_alike f s room T v =
    let P = position_rows (method s) [] 0 0 (order s) s.accounts s.shorts in
    let E = terms_rows s.terms (held s) (length s.shorts) in
    let above = length_rows (order s) s.accounts s.shorts ++ room_rows s.shorts room in
    let passes : first (P ++ E) (held s) ≡ first E (held s) = first-append P E (held s) ∙ ap (λ r. r >>= first E) (passed_value P (held s) (positions (method s) s.codes s.accounts s.shorts T v)) in
    in_append f above (P ++ E) (held s) (above_free (order s) s.accounts s.shorts room)
    ∙ same_after above (λ b. in_form f (first (P ++ E) b)) (first (P ++ E)) (held s) (held s)
    (λ none. ap (in_form f) passes ∙ six_free f E (held s) (terms_free s.terms (held s) (length s.shorts)) ∙ sym passes)
    ∙ sym (first-append above (P ++ E) (held s))

-- a listing and its change are judged alike
pub same-verdict : (l l' : Listing) (room : ℕ) → changed l ≡ value l' → verdict_in l' room ≡ verdict_in l room
unfolding verdict_in
same-verdict l l' room h =
    let is = change_is l l' h in
    let same = same_series l l' h in
    let judged' = subst (λ s. list_verdict (method s) s.codes s.accounts s.shorts ≡ value is.T) (sym same) is.judged in
    judged_alike l'.form (series_in l') room is.T judged' ∙ ap (λ s. verdict s room) same ∙ sym (judged_alike l.form (series_in l) room is.T is.judged)

-- whether the lengths differ, of a list of n numbers
abbrev uneven : List ℕ → List ℕ → ℕ → Bool
uneven order accounts n = not (eqb (length accounts) n) || not (eqb (length order) n)

-- a list that is too long meets 1 or 2, whatever its numbers
too_many : (order accounts hs : List ℕ) (n : ℕ) (below : List Row) (a : ℕ) → length hs ≡ n → MOST_POSITIONS < n → first (length_rows order accounts hs ++ below) a ≡ refused (cond (uneven order accounts n) 1 2)
unfolding first length_rows
too_many order accounts hs n below a is many = rw is (rw (lt-ltb MOST_POSITIONS n many) (step (uneven order accounts n)))
  where
    step : (b : Bool) → cond {A = Result ℕ} b (refused 1) (refused 2) ≡ refused (cond b 1 2)
    step true = refl
    step false = refl

one_or_two : (b : Bool) → number_in Form.LastNumbers (cond b 1 2) ≡ cond b 1 2
one_or_two true = refl
one_or_two false = refl

-- last numbers that are too many are refused as so many shorts are: alone
pub long-list : (m : Method) (codes accounts ns : List ℕ) → MOST_POSITIONS < length ns → list_verdict m codes accounts ns ≡ list_verdict_in Form.LastNumbers m codes accounts ns
unfolding list_verdict_in
long-list m codes accounts ns many =
    let o = ordered_by m codes accounts in
    let d = differences 0 ns in
    list_verdict_lem m codes accounts ns
    ∙ too_many o accounts ns (length ns) (position_rows m [] 0 0 o accounts ns) (total ns) refl many
    ∙ ap refused (sym (one_or_two (uneven o accounts (length ns))))
    ∙ ap (in_form Form.LastNumbers) (sym (too_many o accounts d (length ns) (position_rows m [] 0 0 o accounts d) (total d) (length-differences 0 ns) many) ∙ sym (list_verdict_lem m codes accounts d))

-- a call with such a list, which is refused by a number that both forms have
pub record LongCall (t : Terms) (codes accounts ns : List ℕ) (room : ℕ) : Type 0 where
  pub number : ℕ
  pub both : number_in Form.LastNumbers number ≡ number
  pub by_numbers : verdict (record { terms = t; codes = codes; accounts = accounts; shorts = ns }) room ≡ refused number
  pub by_shorts : verdict (record { terms = t; codes = codes; accounts = accounts; shorts = differences 0 ns }) room ≡ refused number

call_refused : (t : Terms) (codes accounts hs : List ℕ) (n room : ℕ) → length hs ≡ n → MOST_POSITIONS < n
    → verdict (record { terms = t; codes = codes; accounts = accounts; shorts = hs }) room ≡ refused (cond (uneven (ordered_by t.method codes accounts) accounts n) 1 2)
unfolding verdict rows list_rows length_rows
call_refused t codes accounts hs n room is many =
    let o = ordered_by t.method codes accounts in
    too_many o accounts hs n ((room_rows hs room ++ position_rows t.method [] 0 0 o accounts hs) ++ terms_rows t (total hs) (length hs)) (total hs) is many

pub long_call : (t : Terms) (codes accounts ns : List ℕ) (room : ℕ) → MOST_POSITIONS < length ns → LongCall t codes accounts ns room
long_call t codes accounts ns room many =
    record {
      number = _;
      both = one_or_two (uneven (ordered_by t.method codes accounts) accounts (length ns));
      by_numbers = call_refused t codes accounts ns (length ns) room refl many;
      by_shorts = call_refused t codes accounts (differences 0 ns) (length ns) room (length-differences 0 ns) many;
    }
