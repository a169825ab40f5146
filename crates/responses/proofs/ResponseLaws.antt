-- What a call that prints answers, from what writing its text answered.
use Prim.Native.Nat.{ℕ}
use mathlib.Core.Path.{◌≡◌, refl, sym, ap, ◌∙◌}
use mathlib.Core.Bool.{Bool, true, false, cond}
use mathlib.Core.List.{append-nil}
use lib.Dec.{ltb}
use lib.ListN.{length}
use Rattle.series.specs.Ascii.{ascii}
use Rattle.series.specs.Results.{Result, refused, value, refuse, after}
use Rattle.series.specs.Outputs.{onto, onto_room}
use Rattle.series.specs.Sums.{listed}
use Rattle.series.proofs.ResultLaws.{never}
use Rattle.text_rules.specs.Fields.{Text}
use Rattle.text_rules.specs.Rows.{write_rows, rows_of}
use Rattle.text_rules.specs.Calls.{length_of, WritingCall, evenly, line_count, head_and_lines, lines_into, note_into}
use Rattle.responses.specs.Printed.{refused_lines}
use Rattle.responses.specs.Responses.{Printing, response_of, written_hands, print_into, Responds}
use Rattle.responses.specs.declared.Response.{Response}

-- writing the text s alone: 4 where the output is shorter
abbrev pub text_into : Text → ℕ → Result Text
text_into s room = refuse (ltb room (length s)) 4 s

written_is : (b : Bool) (s old : Text) → after (refuse b 4 s) (λ t. onto t old) old ≡ cond b old (onto s old)
written_is true s old = refl
written_is false s old = refl

abbrev handing : ℕ → ℕ → Printing
handing n v = record { written = n; refusal = v }

short_is : (b : Bool) (s : Text) (n v : ℕ) → refused n ≡ length_of (refuse b 4 s) → handing 0 4 ≡ cond b (handing 0 4) (handing (length s) v)
unfolding length_of
short_is true s n v e = refl
short_is false s n v e = absurd (never n (length s) e)

all_is : (b : Bool) (s : Text) (n v : ℕ) → value n ≡ length_of (refuse b 4 s) → handing n v ≡ cond b (handing 0 4) (handing (length s) v)
unfolding length_of
all_is true s n v e = absurd (never 4 n (sym e))
all_is false s n v e = let is : n ≡ length s = cc in ap (λ k. handing k v) is

-- the text s was written, or did not fit; v is the refusal that s tells, or 0
module _ (v : ℕ) (s old new : Text) (r : Response) where
  output_is : (a : Result ℕ) → WritingCall (text_into s (length old)) a old new → new ≡ onto_room s old
  unfolding onto_room
  output_is a call = call.written ∙ written_is (ltb (length old) (length s)) s old

  pub print_short : (n : ℕ) → WritingCall (text_into s (length old)) (refused n) old new → response_of r ≡ handing 0 4 → Responds r s v old new
  unfolding print_into
  print_short n call is = record { hands = is ∙ short_is (ltb (length old) (length s)) s n v call.answered; output = output_is (refused n) call }

  pub print_all : (n : ℕ) → WritingCall (text_into s (length old)) (value n) old new → response_of r ≡ handing n v → Responds r s v old new
  unfolding print_into
  print_all n call is = record { hands = is ∙ all_is (ltb (length old) (length s)) s n v call.answered; output = output_is (value n) call }

-- the text s of an allocation was written, or did not fit
pub allocation_printed : (s old new : Text) (r : Response) (w : Result ℕ) → WritingCall (text_into s (length old)) w old new → response_of r ≡ written_hands w → Responds r s 0 old new
allocation_printed s old new r (value n) call hands = print_all 0 s old new r n call hands
allocation_printed s old new r (refused n) call hands = print_short 0 s old new r n call hands

pub note_is : (n room : ℕ) → note_into (ascii "refused\n") n room ≡ text_into (refused_lines n) room
unfolding note_into lines_into head_and_lines evenly line_count refused_lines rows_of listed write_rows
note_is n room = rw append-nil refl
