-- What is printed for a text goes by its series, and not by how its numbers are spelled or in which form they stand.
use Prim.Native.Nat.{ℕ, ◌≤◌}
use mathlib.Core.Path.{◌≡◌, sym, ap, ◌∙◌}
use mathlib.Core.List.{List}
use lib.ListN.{length}
use Rattle.series.specs.Results.{value, ◌>>=◌}
use Rattle.forms.specs.Forms.{Listing, series_in, verdict_in}
use Rattle.forms.proofs.FormLaws.{same_series}
use Rattle.forms.proofs.LastRows.{same-verdict}
use Rattle.text_rules.specs.Fields.{Text}
use Rattle.text_rules.specs.Text.{MOST_BYTES, Optional, read_text, write_text}
use Rattle.text_rules.proofs.RoundTrip.{spelled_text, TextSpells, any_spelling}
use Rattle.text_rules.proofs.ShortestText.{read_again}
use Rattle.text_rules.specs.Calls.{change_into}
use Rattle.text_rules.proofs.ChangeLaws.{Change, change_made, back_again}
use Rattle.responses.specs.Printed.{series_or_refusal, text_or_refusal, lines_for, printed}

-- a text that reads as a listing
read_printed : (s : Text) (t : Listing) → read_text s ≡ value t → printed s ≡ lines_for (series_or_refusal t.form (series_in t))
unfolding printed text_or_refusal
read_printed s t e = rw e

-- in any spelling of its numbers, with its optional columns or without them, a listing prints the same
pub spelling_printed : (o : Optional) (t : Listing) (terms : List Text) (lines : List (List Text)) → TextSpells o t terms lines → length (spelled_text o t.form t.terms.method terms lines) ≤ MOST_BYTES
    → printed (spelled_text o t.form t.terms.method terms lines) ≡ lines_for (series_or_refusal t.form (series_in t))
spelling_printed o t terms lines so fits = read_printed (spelled_text o t.form t.terms.method terms lines) t (any_spelling o t terms lines so fits)

-- a text prints what the text that is written for its listing prints
pub rewritten_printed : (s : Text) (t : Listing) → read_text s ≡ value t → printed s ≡ printed (write_text t)
rewritten_printed s t e = read_printed s t e ∙ sym (read_printed (write_text t) t (read_again s t e))

-- a text and its change print the same
pub change_printed : (s : Text) (l o : Listing) → Change s l o → printed (write_text o) ≡ printed s
unfolding series_or_refusal verdict_in
change_printed s l o c =
    let back = back_again s l o c in
    let room = length (series_in l).shorts in
    let alike : series_or_refusal o.form (series_in o) ≡ series_or_refusal l.form (series_in l) =
    ap (λ t. verdict_in o (length t.shorts) >>= (λ _. value t)) (same_series l o c.changes) ∙ ap (λ v. v >>= (λ _. value (series_in l))) (same-verdict l o room c.changes)
    in
    read_printed (write_text o) o back.reads ∙ ap lines_for alike ∙ sym (read_printed s l c.reads)

-- the same of the calls
pub changed-printed : (s t : Text) (room : ℕ) → change_into s room ≡ value t → printed t ≡ printed s
changed-printed s t room h = let made = change_made s t room h in ap printed made.text ∙ change_printed s made.from made.to made.change
