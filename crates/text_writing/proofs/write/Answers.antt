-- `write` meets its contract: lines 1 to 3 are put at the start of a head, and the head and the lines are measured and put.
use Prim.Native.Nat.{ℕ, ◌-◌, ◌≤◌}
use mathlib.Core.Bool.{Bool, true, false, not}
use mathlib.Core.List.{List, [], ◌∷◌}
use mathlib.Core.Path.{◌≡◌, refl, sym, ap, ◌∙◌}
use native.Mathlib.Omega.{arith}
use lib.ListN.{length, take, drop}
use lib.Seq.{length-take-le}
use mir.Val.{bool_byte}
use Rattle.series.proofs.ResultLaws.{refusal_met}
use Rattle.forms.specs.Forms.{listing_of}
use Rattle.forms.specs.declared.Listing.{Listing}
use Rattle.text_rules.specs.Text.{write_head, columns, writes_codes, written_columns, terms_columns, same_numbers}
use Rattle.text_rules.proofs.LengthLaws.{head_room}
use Rattle.text_writing.specs.Parts.{Put}
use Rattle.text_writing.proofs.PutLaws.{put_taken}
use Rattle.text_writing.proofs.TableLaws.{behind}
use Rattle.text_writing.proofs.WriteLaws.{OfListing, text-refused, text-long, text-short, text_put}
use Rattle.text_writing.proofs.write.Goals as goal

-- the columns that are shown where the first k are left out
abbrev shown : Listing → ℕ → List (List ℕ)
shown l k = behind (take (3 - k) (drop k (l.codes ∷ l.accounts ∷ l.numbers ∷ [])))

-- without the codes, or with them
shown_by : (l : Listing) (same : Bool) → shown l (bool_byte (not (not same))) ≡ columns (not same) (listing_of l)
shown_by l true = refl
shown_by l false = refl

-- the head and the columns are those of the listing
of_listing : (l : Listing) {same : Bool} {k n : ℕ} {old new : List ℕ} → Put (write_head (record { terms = terms_columns l.terms; coded = not same }) l.form l.terms) old 0 new n
    → k ≡ bool_byte (not (not same)) → same ≡ same_numbers l.codes.now l.accounts.now → OfListing (listing_of l) (take n new) (shown l k)
unfolding written_columns writes_codes
of_listing l {same = same} put e f = record {
  head_is = put_taken _ _ _ _ put ∙ ap (λ same. write_head (record { terms = terms_columns l.terms; coded = not same }) l.form l.terms) f;
  columns_are = ap (shown l) e ∙ shown_by l same ∙ ap (λ same. columns (not same) (listing_of l)) f;
}

-- the head that is put is not longer than the room for it
head_within : (l : Listing) (coded : Bool) {n : ℕ} {old new : List ℕ} → Put (write_head (record { terms = terms_columns l.terms; coded = coded }) l.form l.terms) old 0 new n → 86 ≤ length old → n ≤ length old
head_within l coded put room = omega (arith, put.after, room, head_room (record { terms = terms_columns l.terms; coded = coded }) l.form l.terms)

pub slice_bounds-lines-end : goal.slice_bounds-lines-end
slice_bounds-lines-end c = omega (arith, head_within c.args.listing.now _ c.put_head-n.ensures (omega arith))

pub slice_bounds-table-end : goal.slice_bounds-table-end
slice_bounds-table-end c = sym (length-take-le _ _ (omega (arith, head_within c.args.listing.now _ c.put_head-n.ensures (omega arith))))

pub returns-in_err-table : goal.returns-in_err-table
returns-in_err-table c =
    let l = c.args.listing.now in
    rw (refusal_met c.from_residual.result _ c.from_residual.ensures.1) (text-refused (listing_of l) (of_listing l c.put_head-n.ensures c.from-left_out.ensures c.same_numbers.ensures) c.args.text.now c.in_err-table.ensures.judged)

pub returns-then-bytes-gt32768 : goal.returns-then-bytes-gt32768
returns-then-bytes-gt32768 c =
    let l = c.args.listing.now in
    text-long (listing_of l) (of_listing l c.put_head-n.ensures c.from-left_out.ensures c.same_numbers.ensures) c.args.text.now c.in_ok-table.ensures.judged c.length-bytes.ensures c.if-bytes-gt32768.true

pub returns-then-text-bytes : goal.returns-then-text-bytes
returns-then-text-bytes c =
    let l = c.args.listing.now in
    text-short (listing_of l) (of_listing l c.put_head-n.ensures c.from-left_out.ensures c.same_numbers.ensures) c.args.text.now c.in_ok-table.ensures.judged c.length-bytes.ensures c.if-bytes-gt32768.false c.if-text-bytes.true

pub returns : goal.returns
returns c =
    let l = c.args.listing.now in
    text_put (listing_of l) (of_listing l c.put_head-n.ensures c.from-left_out.ensures c.same_numbers.ensures) c.args.text.now c.in_ok-table.ensures.judged c.length-bytes.ensures c.if-bytes-gt32768.false c.if-text-bytes.false c.put.ensures
