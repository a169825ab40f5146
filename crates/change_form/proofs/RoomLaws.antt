-- All that is printed for a text stands in an output of 31,830 bytes.
use Prim.Native.Nat.{ℕ, ◌≤◌}
use mathlib.Core.Path.{◌≡◌, refl, sym, ap, ◌∙◌}
use native.Mathlib.Omega.{arith}
use borrow.Author.Tests.{le-ltb}
use lib.ListN.{length, drop}
use lib.Seq.{take_at}
use Rattle.series.specs.Results.{Result, refused, value, refuse, status}
use Rattle.series.specs.Outputs.{onto}
use Rattle.series.proofs.ResultLaws.{never, value_is}
use Rattle.forms.specs.Forms.{Listing, changed}
use Rattle.text_rules.specs.Fields.{Text}
use Rattle.text_rules.specs.Text.{read_text, write_text}
use Rattle.text_rules.specs.Calls.{changed_into, change_into, MOST_CHANGED, length_of, WritingCall}
use Rattle.text_rules.proofs.ShortestText.{read_writable}
use Rattle.text_rules.proofs.ChangeLaws.{Change, change_writes, changed-short}
use Rattle.responses.specs.Printed.{refused_lines}
use Rattle.responses.specs.Responses.{response_of, Responds, Whole}
use Rattle.responses.specs.declared.Response.{Response}
use Rattle.responses.proofs.RoomLaws.{refused-room, responds_whole}
use Rattle.change_form.specs.Changed.{lines_of, changed_lines}

-- in an output that is long enough the change is the same
room-enough : (s : Text) (room : ℕ) → MOST_CHANGED ≤ room → change_into s room ≡ change_into s MOST_CHANGED
unfolding change_into changed_into
room-enough s room enough = go (read_text s) refl
  where
    made : (l : Listing) → read_text s ≡ value l → (r : Result Listing) → changed l ≡ r → change_into s room ≡ change_into s MOST_CHANGED
    made l e (refused n) f = rw (e, f) refl
    made l e (value o) f =
        let c : Change s l o = record { reads = e; changes = f } in
        let short = changed-short l o (read_writable s l e) f in
        change_writes s l o c room ∙ ap (λ b. refuse b 4 (write_text o)) (le-ltb room (length (write_text o)) (omega arith) ∙ sym (le-ltb MOST_CHANGED (length (write_text o)) short)) ∙ sym (change_writes s l o c MOST_CHANGED)

    go : (r : Result Listing) → read_text s ≡ r → change_into s room ≡ change_into s MOST_CHANGED
    go (refused n) e = rw e refl
    go (value l) e = made l e (changed l) refl

-- a changed text stands whole in the output, and tells no refusal
pub whole-written : (s old new : Text) (n : ℕ) → MOST_CHANGED ≤ length old → WritingCall (change_into s (length old)) (value n) old new → Whole (record { written = n; refusal = 0 }) (changed_lines s) (status (change_into s MOST_CHANGED)) new
unfolding changed_lines lines_of length_of onto
whole-written s old new n enough call = go (change_into s (length old)) (room-enough s (length old) enough) call
  where
    go : (w : Result Text) → w ≡ change_into s MOST_CHANGED → WritingCall w (value n) old new → Whole (record { written = n; refusal = 0 }) (lines_of (change_into s MOST_CHANGED)) (status (change_into s MOST_CHANGED)) new
    go (refused k) is call = absurd (never k n (sym call.answered))
    go (value t) is call = rw (← is) (record { handed = ap (λ k. record { written = k; refusal = 0 }) (value_is call.answered); text = rw call.written (take_at t (drop (length t) old) (length t) refl) })

-- and so do the lines of a refusal, before which nothing was written, and tell it
pub whole-refused : (s old mid new : Text) (n : ℕ) (r : Response) → MOST_CHANGED ≤ length old → WritingCall (change_into s (length old)) (refused n) old mid → Responds r (refused_lines n) n mid new → Whole (response_of r) (changed_lines s) (status (change_into s MOST_CHANGED)) new
unfolding changed_lines lines_of length_of
whole-refused s old mid new n r enough call p = go (change_into s (length old)) (room-enough s (length old) enough) call
  where
    go : (w : Result Text) → w ≡ change_into s MOST_CHANGED → WritingCall w (refused n) old mid → Whole (response_of r) (lines_of (change_into s MOST_CHANGED)) (status (change_into s MOST_CHANGED)) new
    go (value t) is call = absurd (never n (length t) call.answered)
    go (refused k) is call =
        let told : ◌≡◌ {A = Result ℕ} (refused n) (refused k) = call.answered in
        let same : k ≡ n = cc in
        rw (← is, same) (responds_whole (refused_lines n) r n mid new (omega (arith, refused-room n, ap length call.written)) p)
