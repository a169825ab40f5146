-- What the calls under the exports answered, as what the exports hand back.
use Prim.Native.Nat.{ℕ}
use mathlib.Core.Path.{◌≡◌, refl, sym, ap, ◌∙◌}
use mathlib.Core.Bool.{Bool, true, false, cond}
use mathlib.Core.List.{List}
use native.Mathlib.Omega.{arith}
use lib.Dec.{ltb}
use lib.ListN.{length}
use Rattle.series.specs.Results.{Result, refused, value, refuse, after, status}
use Rattle.series.specs.Outputs.{onto, onto_room, Lent, lent}
use Rattle.series.specs.Series.{terms_of}
use Rattle.series.specs.Answers.{Allocation, handed_back}
use Rattle.series.specs.declared.Method.{Method}
use Rattle.series.specs.declared.Terms.{Terms}
use Rattle.forms.specs.Forms.{Listing, ListingCall}
use Rattle.forms.specs.declared.Form.{Form}
use Rattle.text_rules.specs.Fields.{Text}
use Rattle.text_rules.specs.Letters.{letter, method_by}
use Rattle.text_rules.specs.Calls.{Handed, handed, ListsRead, write_into, length_of, WritingCall}
use Rattle.responses.specs.Printed.{printed}
use Rattle.responses.specs.Responses.{Printing, response_of, print_into, Responds}
use Rattle.responses.specs.declared.Response.{Response}
use Rattle.responses.proofs.RoomLaws.{printed-room}
use Rattle.answer_numbers.specs.Numbers.{form_by, form_number, Handing, handed_numbers}
use Rattle.dilbreth.specs.Exports.{listing_by, called, Allocates, Reads, written_by, printed_into, Hands, Writes}

-- a call that hands back the length of what it writes
pub by_length : (s : Result Text) (a : Result ℕ) (r : ℕ) (old new : Text) (written : Lent ℕ) → WritingCall s a old new → Hands a r written → Writes s r old new written
by_length s a r old new written call hands = record { hands_length = rw call.answered at hands; writes = call.written }

-- the numbers of an answer
status_is : (a : Result Allocation) → status (handed_numbers a) ≡ status a
unfolding handed_numbers
status_is (refused n) = refl
status_is (value x) = refl

total_is : (a : Result Allocation) (T : ℕ) → after (handed_numbers a) (λ x. x.total) T ≡ after a (λ x. x.total) T
unfolding handed_numbers
total_is (refused n) T = refl
total_is (value x) T = refl

further_is : (a : Result Allocation) (f : ℕ) → after (handed_numbers a) (λ x. x.further) f ≡ after a (λ x. handed_back x.further) f
unfolding handed_numbers
further_is (refused n) f = refl
further_is (value x) f = refl

module _ (l S draw I f : ℕ) (codes accounts numbers : List ℕ) where
  by_unknown : refused 14 ≡ method_by l → listing_by l S draw I f codes accounts numbers ≡ refused 14
  unfolding listing_by
  by_unknown e = rw (← e)

  by_known : (m : Method) → value m ≡ method_by l → listing_by l S draw I f codes accounts numbers ≡ value (record { form = form_by f; terms = terms_of m S draw I; codes = codes; accounts = accounts; numbers = numbers })
  unfolding listing_by
  by_known m e = rw (← e)

  pub allocate_unknown : refused 14 ≡ method_by l → (old : List ℕ) (T k : ℕ) → Allocates (listing_by l S draw I f codes accounts numbers) 14 old old (lent T T) (lent k k)
  unfolding called
  allocate_unknown e old T k = rw (by_unknown e) (record { answers = refl; writes = refl; hands_total = refl; hands_further = refl })

  pub allocate_known : (m : Method) → value m ≡ method_by l → (t : Terms) → t ≡ terms_of m S draw I → (g : Form) → g ≡ form_by f → (a : Result Allocation) (h : Result Handing) (old new : List ℕ) (T k : ℕ) → h ≡ handed_numbers a → ListingCall (record { form = g; terms = t; codes = codes; accounts = accounts; numbers = numbers }) a old new
      → Allocates (listing_by l S draw I f codes accounts numbers) (status h) old new (record { old = T; new = after h (λ x. x.total) T }) (record { old = k; new = after h (λ x. x.further) k })
  unfolding called
  allocate_known m e t et g eg a h old new T k eh call =
      let ea = call.answered in
      rw (by_known m e, ← et, ← eg, eh)
      (record {
        answers = status_is a ∙ ap status ea;
        writes = call.written;
        hands_total = total_is a T ∙ ap (λ r. after r (λ x. x.total) T) ea;
        hands_further = further_is a k ∙ ap (λ r. after r (λ x. handed_back x.further) k) ea;
      })

  pub write_unknown : refused 14 ≡ method_by l → (old : Text) (n : ℕ) → Writes (written_by (listing_by l S draw I f codes accounts numbers) (length old)) 14 old old (lent n n)
  unfolding written_by length_of
  write_unknown e old n = rw (by_unknown e) (record { hands_length = record { answers = refl; hands_number = refl }; writes = refl })

  pub write_known : (m : Method) → value m ≡ method_by l → (t : Terms) → t ≡ terms_of m S draw I → (g : Form) → g ≡ form_by f → (a : Result ℕ) (r : ℕ) (old new : Text) (written : Lent ℕ) → WritingCall (write_into (record { form = g; terms = t; codes = codes; accounts = accounts; numbers = numbers }) (length old)) a old new → Hands a r written
      → Writes (written_by (listing_by l S draw I f codes accounts numbers) (length old)) r old new written
  unfolding written_by
  write_known m e t et g eg a r old new written call hands = rw (by_known m e, ← et, ← eg) (by_length _ a r old new written call hands)

-- what reading hands back
pub read_hands : (s : Result Listing) (h : Result Handed) (codes accounts numbers : Lent (List ℕ)) (l S d I f p : ℕ) → h ≡ handed s → ListsRead s codes accounts numbers
    → Reads s (status h) (lent l (after h (λ x. letter x.terms.method) l)) (lent S (after h (λ x. x.terms.exercised.0) S)) (lent d (after h (λ x. x.terms.draw) d)) (lent I (after h (λ x. x.terms.increment.0) I)) (lent f (after h (λ x. form_number x.form) f))
    codes accounts numbers (lent p (after h (λ x. x.positions) p))
unfolding handed
read_hands (refused n) h codes accounts numbers l S d I f p e lists = rw e (record { answers = refl; hands_letter = refl; hands_exercised = refl; hands_draw = refl; hands_increment = refl; hands_form = refl; lists = lists; hands_positions = refl })
read_hands (value t) h codes accounts numbers l S d I f p e lists = rw e (record { answers = refl; hands_letter = refl; hands_exercised = refl; hands_draw = refl; hands_increment = refl; hands_form = refl; lists = lists; hands_positions = refl })

-- ---- printing

-- the whole text is printed; or nothing is, and then the output is too short, since a text has at least one byte
module _ (s : Text) (v : ℕ) (old new : Text) (k : ℕ) where
  printing : Bool → Printing
  printing b = cond b (record { written = 0; refusal = 4 }) (record { written = length (printed s); refusal = v })

  whole : (b : Bool) (n q : ℕ) → (q ≡ 4 → n ≡ 0 → ⊥) → ◌≡◌ {A = Printing} (record { written = n; refusal = q }) (printing b) → new ≡ cond b old (onto (printed s) old)
      → Writes (refuse b 4 (printed s)) 0 old new (lent k n)
  unfolding printing length_of
  whole true n q some e out = absurd (some (ap (λ (h : Printing). h.refusal) e) (ap (λ (h : Printing). h.written) e))
  whole false n q some e out = record { hands_length = record { answers = refl; hands_number = ap (λ (h : Printing). h.written) e }; writes = out }

  none : (b : Bool) (q : ℕ) → ◌≡◌ {A = Printing} (record { written = 0; refusal = q }) (printing b) → new ≡ cond b old (onto (printed s) old) → Writes (refuse b 4 (printed s)) 4 old new (lent k k)
  unfolding printing length_of
  none true q e out = record { hands_length = record { answers = refl; hands_number = refl }; writes = out }
  none false q e out = absurd (omega (arith, (printed-room s).some, ap (λ (h : Printing). h.written) e))

  pub respond_whole : (r : Response) (n q : ℕ) → response_of r ≡ record { written = n; refusal = q } → (q ≡ 4 → n ≡ 0 → ⊥) → Responds r (printed s) v old new → Writes (printed_into s (length old)) 0 old new (lent k n)
  unfolding printed_into print_into onto_room printing
  respond_whole r n q is some p = whole (ltb (length old) (length (printed s))) n q some (sym is ∙ p.hands) p.output

  pub respond_none : (r : Response) (n q : ℕ) → response_of r ≡ record { written = n; refusal = q } → n ≡ 0 → Responds r (printed s) v old new → Writes (printed_into s (length old)) 4 old new (lent k k)
  unfolding printed_into print_into onto_room printing
  respond_none r n q is z p = none (ltb (length old) (length (printed s))) q (rw z at (sym is ∙ p.hands)) p.output
