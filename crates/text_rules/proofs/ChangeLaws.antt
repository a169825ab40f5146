-- The change of a text: only a short output refuses what was judged, it can be changed back, and there and back gives the same text or the same listing.
use Prim.Native.Nat.{ℕ, ◌*◌, ◌^◌, ◌≤◌, ◌<◌}
use mathlib.Core.Path.{◌≡◌, refl, sym, ap, subst, ◌∙◌}
use mathlib.Core.Bool.{Bool, true, false}
use mathlib.Core.List.{List, [], ◌∷◌}
use native.Mathlib.Omega.{arith}
use borrow.Author.Tests.{le-ltb}
use native.Mathlib.Decide.{dec_lt}
use lib.Dec.{ltb}
use lib.ListN.{length, get_or, length-append, get_or-eq_default}
use Rattle.series.specs.Results.{value, refuse}
use Rattle.series.specs.Series.{MOST_CONTRACTS}
use Rattle.series.proofs.ResultLaws.{stepped, value_is, not_refused}
use Rattle.forms.specs.Forms.{Listing, changed}
use Rattle.forms.proofs.FormLaws.{change_is, changed_back, changed-small, changed-length}
use Rattle.text_rules.specs.Numbers.{LARGEST}
use Rattle.text_rules.specs.Fields.{Text}
use Rattle.text_rules.specs.Rows.{write_parted, write_row, write_rows, row_of, rows_of}
use Rattle.text_rules.specs.Text.{MOST_BYTES, read_text, write_head, columns_by, columns, text_with, writes_codes, written_columns, write_text}
use Rattle.text_rules.specs.Lists.{Columns}
use Rattle.text_rules.specs.Calls.{write_into, changed_into, change_into, MOST_CHANGED, length_of}
use Rattle.text_rules.proofs.DecimalLaws.{digits-few, digits-within}
use Rattle.text_rules.proofs.RowLaws.{Fits}
use Rattle.text_rules.proofs.LengthLaws.{length-row, lines_most, head_room, lines_written}
use Rattle.text_rules.proofs.RoundTrip.{Writable, round_trip, wrote}
use Rattle.text_rules.proofs.ShortestText.{read_writable, read_again}

-- the text s reads as the listing l, whose change is the listing o
pub record Change (s : Text) (l o : Listing) : Type 0 where
  pub reads : read_text s ≡ value l
  pub changes : changed l ≡ value o

-- an unrefused change has the codes, the accounts and the values of line 2 that it had, the increment among them
pub same_parts : (l o : Listing) → changed l ≡ value o → (o.terms ≡ l.terms) × (o.codes ≡ l.codes) × (o.accounts ≡ l.accounts)
same_parts l o h = subst (λ x. (x.terms ≡ l.terms) × (x.codes ≡ l.codes) × (x.accounts ≡ l.accounts)) (change_is l o h).other (refl, refl, refl)

small-fits : (ns : List ℕ) → ((i : ℕ) → i < length ns → get_or ns i 0 ≤ MOST_CONTRACTS) → Fits ns
small-fits ns small i = elim (dec_lt i (length ns)) [ yes l ↦ omega (arith, small i l) | no g ↦ let past : length ns ≤ i = omega arith in omega (arith, get_or-eq_default ns 0 past) ]

-- the change of what was read can be written
changed_writable : (l o : Listing) → Writable l → changed l ≡ value o → Writable o
changed_writable l o w h =
    let same = same_parts l o h in
    record {
      exercised = subst (λ t. t.exercised.0 ≤ LARGEST) (sym same.0) w.exercised;
      draw = subst (λ t. t.draw ≤ LARGEST) (sym same.0) w.draw;
      increment = subst (λ t. t.increment.0 ≤ LARGEST) (sym same.0) w.increment;
      codes = subst Fits (sym same.1) w.codes;
      accounts = subst Fits (sym same.2) w.accounts;
      numbers = small-fits o.numbers (changed-small l o h);
      lists = record {
        codes = ap length same.1 ∙ w.lists.codes ∙ sym (ap length same.2);
        numbers = changed-length l o h ∙ w.lists.numbers ∙ sym (ap length same.2);
        few = omega (arith, ap length same.2, w.lists.few);
      };
    }

-- a line with a number of at most eight digits has at most 31 bytes
line_short : (code account n : ℕ) → n < 10 ^ 8 → (length (write_row (code ∷ account ∷ n ∷ [])) ≤ 31) × (length (write_row (account ∷ n ∷ [])) ≤ 31)
unfolding write_parted
line_short code account n small =
    let digits = digits-within 7 n small in (
      omega (arith, length-row code (account ∷ n ∷ []), length-row account (n ∷ []), length-row n [], digits-few code, digits-few account),
      omega (arith, length-row account (n ∷ []), length-row n [], digits-few account),
    )

-- the lines of columns whose last numbers have at most eight digits
lines_short : (c : Bool) (codes accounts ns : List ℕ) → Columns codes accounts ns → ((i : ℕ) → i < length ns → get_or ns i 0 ≤ MOST_CONTRACTS)
    → length (write_rows (rows_of (columns_by c codes accounts ns))) ≤ 31 * length accounts
unfolding rows_of
lines_short true codes accounts ns l small =
    omega (arith, lines_most (row_of (codes ∷ accounts ∷ ns ∷ [])) 31 (length codes) (λ i h. (line_short (get_or codes i 0) (get_or accounts i 0) (get_or ns i 0) (omega (arith, small i (omega (arith, l.codes, l.numbers))))).0), l.codes)
lines_short false codes accounts ns l small =
    lines_most (row_of (accounts ∷ ns ∷ [])) 31 (length accounts) (λ i h. (line_short 0 (get_or accounts i 0) (get_or ns i 0) (omega (arith, small i (omega (arith, l.numbers))))).1)

-- a changed text never passes 31,830 bytes
pub changed-short : (l o : Listing) → Writable l → changed l ≡ value o → length (write_text o) ≤ MOST_CHANGED
unfolding write_text text_with written_columns
changed-short l o w h =
    let c = writes_codes o in
    let v = written_columns o in
    let lists = (changed_writable l o w h).lists in
    omega (arith, length-append (write_head v o.form o.terms) (write_rows (rows_of (columns c o))), head_room v o.form o.terms, lines_short c o.codes o.accounts o.numbers lists (changed-small l o h), lists.few)

-- writing what has columns of one length, and is not too long: only a short output refuses it
write_short : (o : Listing) → Columns o.codes o.accounts o.numbers → length (write_text o) ≤ MOST_BYTES → (room : ℕ) → write_into o room ≡ refuse (ltb room (length (write_text o))) 4 (write_text o)
unfolding write_into write_text text_with written_columns
write_short o l fits room = rw (lines_written (write_head (written_columns o) o.form o.terms) (writes_codes o) o.codes o.accounts o.numbers l, le-ltb MOST_BYTES _ fits)

-- what was read and whose list was judged is refused for a short output alone
pub change_writes : (s : Text) (l o : Listing) → Change s l o → (room : ℕ) → change_into s room ≡ refuse (ltb room (length (write_text o))) 4 (write_text o)
unfolding change_into changed_into
change_writes s l o c room =
    let w = read_writable s l c.reads in
    rw (c.reads, c.changes) (write_short o (changed_writable l o w c.changes).lists (omega (arith, changed-short l o w c.changes)) room)

-- a change that was written
pub record Changes (s t : Text) : Type 0 where
  pub from : Listing
  pub to : Listing
  pub change : Change s from to
  pub text : t ≡ write_text to

pub change_made : (s t : Text) (room : ℕ) → change_into s room ≡ value t → Changes s t
unfolding change_into changed_into
change_made s t room h =
    let read = stepped (read_text s) _ t h in
    let made = stepped (changed read.from) _ t read.on in
    let c : Change s read.from made.from = record { reads = read.step; changes = made.step } in
    record { from = read.from; to = made.from; change = c; text = sym (not_refused (ltb room (length (write_text made.from))) 4 (write_text made.from) t (sym (change_writes s read.from made.from c room) ∙ h)).1 }

-- an unrefused change can be changed back: the text that it wrote reads as the listing that changes into the one it came from
pub back_again : (s : Text) (l o : Listing) → Change s l o → Change (write_text o) o l
back_again s l o c =
    let w = read_writable s l c.reads in
    record { reads = round_trip o (changed_writable l o w c.changes) (omega (arith, changed-short l o w c.changes)); changes = changed_back l o c.changes }

-- and only a short output refuses it
pub change_back : (s t : Text) (room : ℕ) → change_into s room ≡ value t → (l : Listing) → read_text s ≡ value l → (room' : ℕ) → change_into t room' ≡ refuse (ltb room' (length (write_text l))) 4 (write_text l)
change_back s t room h l is room' =
    let made = change_made s t room h in
    let same : made.from ≡ l = value_is (sym made.change.reads ∙ is) in
    rw made.text (change_writes (write_text made.to) made.to made.from (back_again s made.from made.to made.change) room' ∙ rw same refl)

-- there and back is the same bytes for a text that was written
pub same_bytes : (l : Listing) → Writable l → (s t u : Text) (room₀ room room' : ℕ) → write_into l room₀ ≡ value s → change_into s room ≡ value t → change_into t room' ≡ value u → u ≡ s
unfolding length_of
same_bytes l w s t u room₀ room room' written there back =
    let is = wrote l room₀ (length s) (ap length_of written) in
    let text : s ≡ write_text l = value_is (sym written ∙ is.is) in
    let reads : read_text s ≡ value l = ap read_text text ∙ round_trip l w is.fits in
    sym (text ∙ (not_refused (ltb room' (length (write_text l))) 4 (write_text l) u (sym (change_back s t room there l reads room') ∙ back)).1)

-- and the same listing for any other: its form, values, codes, accounts and numbers
pub same_listing : (s t u : Text) (room room' : ℕ) → change_into s room ≡ value t → change_into t room' ≡ value u → read_text u ≡ read_text s
same_listing s t u room room' there back =
    let made = change_made s t room there in
    let l = made.from in
    let wrote = (not_refused (ltb room' (length (write_text l))) 4 (write_text l) u (sym (change_back s t room there l made.change.reads room') ∙ back)).1 in
    ap read_text (sym wrote) ∙ read_again s l made.change.reads ∙ sym made.change.reads
