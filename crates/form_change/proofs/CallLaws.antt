-- What the change answers and writes, from what its parts answered.
use Prim.Native.Nat.{ℕ, ◌≤◌}
use mathlib.Core.Path.{◌≡◌, refl, sym, ap, subst, ◌∙◌}
use mathlib.Core.List.{List}
use lib.ListN.{length}
use Rattle.series.specs.Results.{Result, refused, value}
use Rattle.series.specs.Places.{total}
use Rattle.series.specs.Series.{MOST_CONTRACTS}
use Rattle.series.specs.Refusals.{list_verdict}
use Rattle.series.specs.declared.Method.{Method}
use Rattle.forms.specs.Forms.{Listing, list_verdict_in, other_form, other_numbers, in_other, changed}
use Rattle.forms.proofs.FormLaws.{list_facts}
use Rattle.text_rules.specs.Fields.{Text}
use Rattle.text_rules.specs.Text.{read_text}
use Rattle.text_rules.specs.Calls.{write_into, changed_into, change_into, WritingCall}

-- the verdict on the list of a listing
abbrev pub verdict_on : Listing → Result ℕ
verdict_on l = list_verdict_in l.form l.terms.method l.codes l.accounts l.numbers

-- the list is refused
pub list-refused : (l : Listing) (room n : ℕ) → refused n ≡ verdict_on l → changed_into l room ≡ refused n
unfolding changed_into changed
list-refused l room n e = rw (← e) refl

-- the list is judged: its shorts are at most 10,000,000
pub judged_small : (m : Method) (codes accounts hs : List ℕ) (T : ℕ) → value T ≡ list_verdict m codes accounts hs → total hs ≤ MOST_CONTRACTS
judged_small m codes accounts hs T e = (list_facts m codes accounts hs T (sym e)).small

-- and the other form is written
list-changed : (l : Listing) (room T : ℕ) → value T ≡ verdict_on l → changed_into l room ≡ write_into (in_other l) room
unfolding changed_into changed
list-changed l room T e = rw (← e) refl

-- the text is refused, or read
pub text-refused : (s : Text) (room n : ℕ) → read_text s ≡ refused n → change_into s room ≡ refused n
unfolding change_into
text-refused s room n e = rw e refl

pub text_read : (s : Text) (l : Listing) (room : ℕ) → read_text s ≡ value l → change_into s room ≡ changed_into l room
unfolding change_into
text_read s l room e = rw e refl

-- the list was judged, its numbers were made in the other form, and it was written
pub written_other : (l : Listing) (ns : List ℕ) (r : Result ℕ) (old new : List ℕ) (T : ℕ) → value T ≡ verdict_on l → ns ≡ other_numbers l.form l.numbers
    → WritingCall (write_into (record { form = other_form l.form; terms = l.terms; codes = l.codes; accounts = l.accounts; numbers = ns }) (length old)) r old new → WritingCall (changed_into l (length old)) r old new
written_other l ns r old new T judged numbers w =
    let is : write_into (record { form = other_form l.form; terms = l.terms; codes = l.codes; accounts = l.accounts; numbers = ns }) (length old) ≡ changed_into l (length old) =
    ap (λ ms. write_into (record { form = other_form l.form; terms = l.terms; codes = l.codes; accounts = l.accounts; numbers = ms }) (length old)) numbers ∙ sym (list-changed l (length old) T judged)
    in
    subst (λ v. WritingCall v r old new) is w

-- the text was read, and its listing changed
pub written-text : (s : Text) (l : Listing) (r : Result ℕ) (old new : List ℕ) → read_text s ≡ value l → WritingCall (changed_into l (length old)) r old new → WritingCall (change_into s (length old)) r old new
written-text s l r old new e w = subst (λ v. WritingCall v r old new) (sym (text_read s l (length old) e)) w
