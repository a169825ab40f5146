-- What the call that writes wrote, the call that reads reads as the same listing.
use Prim.Native.Nat.{ℕ, ◌≤◌}
use mathlib.Core.Path.{◌≡◌, sym, ap, subst, ◌∙◌}
use mathlib.Core.List.{List}
use native.Mathlib.Omega.{arith}
use borrow.Author.Tests.{le-ltb}
use lib.ListN.{length, take, drop}
use lib.Seq.{take_at}
use Rattle.std.specs.Prelude.{Result as Result·}
use Rattle.series.specs.declared.Refusal.{Refusal}
use Rattle.series.specs.Outputs.{onto, Lent}
use Rattle.series.specs.Results.{value}
use Rattle.forms.specs.Forms.{Listing}
use Rattle.text_rules.specs.Numbers.{LARGEST}
use Rattle.text_rules.specs.Fields.{Text}
use Rattle.text_rules.specs.Text.{read_text, write_text}
use Rattle.text_rules.specs.Calls.{read_into, handed, ListsRead, read_lent, ReadingCall, write_into, WritingCall}
use Rattle.text_rules.proofs.RowLaws.{Fits}
use Rattle.text_rules.proofs.RoundTrip.{round_trip, Wrote, wrote}
use Rattle.series_text.specs.Answers.{reading_of}
use Rattle.series_text.specs.declared.ReadSeries.{ReadSeries}

-- where writing answered Written n, reading the first n bytes of its output into three lists that are long enough
-- answers with the same listing, and the lists hold its positions and then what they held
pub calls_round_trip :
    (t : Listing) → t.terms.exercised.0 ≤ LARGEST → t.terms.draw ≤ LARGEST → t.terms.increment.0 ≤ LARGEST → Fits t.codes → Fits t.accounts → Fits t.numbers
    → (old new : List ℕ) (n : ℕ) → WritingCall (write_into t (length old)) (value n) old new
    → (codes accounts numbers : Lent (List ℕ)) (r : Result· ReadSeries Refusal) → length t.codes ≤ length codes.old → length t.accounts ≤ length accounts.old → length t.numbers ≤ length numbers.old
    → ReadingCall (take n new) (reading_of r) codes accounts numbers
    → (reading_of r ≡ value (record { form = t.form; terms = t.terms; positions = length t.accounts })) × ListsRead (value t) codes accounts numbers
unfolding onto read_into handed
calls_round_trip t fe fd fi fc fa fh old new n writes codes accounts numbers r roomC roomA roomN reads =
    let w : Wrote t (length old) n = wrote t (length old) n (sym writes.answered) in
    let s : Text = write_text t in
    let N : ℕ = length t.accounts in
    let text : take n new ≡ s = ap (take n) (writes.written ∙ rw w.is) ∙ take_at s (drop (length s) old) n w.long in
    let back : read_text (take n new) ≡ value t
    = ap read_text text ∙ round_trip t (record { exercised = fe; draw = fd; increment = fi; codes = fc; accounts = fa; numbers = fh; lists = w.lists }) w.fits in
    let into : read_lent (take n new) codes accounts numbers ≡ value t
    = rw (back, le-ltb (length codes.old) N (omega (arith, w.lists.codes)), le-ltb (length accounts.old) N roomA, le-ltb (length numbers.old) N (omega (arith, w.lists.numbers))) in
    (reads.answered ∙ ap handed into, subst (λ x. ListsRead x codes accounts numbers) into reads.written)
