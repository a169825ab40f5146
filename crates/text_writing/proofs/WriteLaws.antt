-- Laws of the lines that are written: how they are put, and what the calls that write hand back and leave.
use Prim.Native.Nat.{ℕ, ◌+◌, ◌≤◌, ◌<◌}
use mathlib.Core.Path.{◌≡◌, refl, sym, ap, ◌∙◌}
use mathlib.Core.Bool.{Bool, true, false}
use mathlib.Core.List.{List, [], ◌∷◌, ◌++◌, append_assoc}
use native.Mathlib.Omega.{arith}
use native.Mathlib.Nat.{zero-add}
use borrow.Author.Tests.{lt-ltb, le-ltb, ltb-false}
use lib.ListN.{length, take, length-append}
use lib.Dec.{ltb}
use Rattle.series.specs.Results.{Result, refused, value, refuse}
use Rattle.forms.specs.Forms.{Listing}
use Rattle.forms.specs.declared.Form.{Form}
use Rattle.series.specs.declared.Terms.{Terms}
use Rattle.text_rules.specs.Fields.{Text, COMMA}
use Rattle.text_rules.specs.Rows.{write_row}
use Rattle.text_rules.specs.Names.{terms_line, terms_numbers, columns_in, positions_line}
use Rattle.text_rules.specs.Letters.{letter}
use Rattle.text_rules.specs.Text.{MOST_BYTES, terms_row, write_terms, Optional, write_head, columns, writes_codes, written_columns}
use Rattle.text_rules.specs.declared.TermsColumns.{TermsColumns}
use Rattle.text_rules.specs.Calls.{head_and_lines, lines_into, write_into, length_of, WritingCall}
use Rattle.text_writing.specs.Parts.{Put}
use Rattle.text_writing.specs.Tables.{tables_into, both_within}
use Rattle.series.proofs.ResultLaws.{never, not_refused}
use Rattle.text_rules.proofs.LengthLaws.{length-head, head_room}
use Rattle.text_rules.proofs.WritingLaws.{refused-writes}
use Rattle.text_writing.proofs.PutLaws.{placed-onto, put_append}

-- the numbers of line 2 are the first of three
pub terms_taken : (k : TermsColumns) (t : Terms) (n : ℕ) → n ≡ terms_numbers k → take n (t.exercised.0 ∷ t.draw ∷ t.increment.0 ∷ []) ≡ terms_row k t
terms_taken TermsColumns.MethodExercisedDraw t n e = rw e refl
terms_taken TermsColumns.MethodExercisedDrawIncrement t n e = rw e refl

-- there is room for each of the three lines, and for the letter and the comma of line 2
pub head_fits : (o : Optional) (f : Form) (t : Terms) (n : ℕ) → 86 ≤ n → length (terms_line o.terms) + (2 + length (write_row (terms_row o.terms t))) + length (positions_line (columns_in f o.coded)) ≤ n
head_fits o f t n room = omega (arith, length-head o f t, head_room o f t)

-- the three lines are put one after the other, l being the letter and row the numbers of line 2
pub put_head : (o : Optional) (f : Form) (t : Terms) (old s1 s2 s3 new : List ℕ) (i1 i2 i3 n l : ℕ) (row : List ℕ) → l ≡ letter t.method → row ≡ terms_row o.terms t → 86 ≤ length old
    → Put (terms_line o.terms) old 0 s1 i1 → Put (l ∷ COMMA ∷ []) s1 i1 s2 i2 → Put (write_row row) s2 i2 s3 i3 → Put (positions_line (columns_in f o.coded)) s3 i3 new n → Put (write_head o f t) old 0 new n
unfolding write_head write_terms
put_head o f t old s1 s2 s3 new i1 i2 i3 n l row el er room p1 p2 p3 p4 =
    let first : Text = terms_line o.terms in
    let mark : Text = letter t.method ∷ COMMA ∷ [] in
    let numbers : Text = write_row (terms_row o.terms t) in
    let fits = head_fits o f t (length old) room in
    let e1 = length-append first mark in
    let e2 = length-append (first ++ mark) numbers in
    let q2 = put_append first mark old 0 s1 s2 i1 i2 (omega (arith, fits)) p1 (rw el at p2) in
    let q3 = put_append (first ++ mark) numbers old 0 s2 s3 i2 i3 (omega (arith, fits, e1)) q2 (rw er at p3) in
    simp append_assoc at (put_append ((first ++ mark) ++ numbers) (positions_line (columns_in f o.coded)) old 0 s3 new i3 n (omega (arith, fits, e1, e2)) q3 p4)

-- ---- what writing hands back, and the output that it leaves

put_writes : (w : Result Text) (old s new : Text) (n : ℕ) → w ≡ value s → Put s old 0 new n → WritingCall w (value n) old new
unfolding length_of
put_writes w old s new n e p = rw e (record { answered = ap value (p.after ∙ zero-add (length s)); written = p.text ∙ placed-onto s old })

-- ---- what writing a listing leaves

-- the head and the columns are those of a listing
pub record OfListing (t : Listing) (head : Text) (cs : List (List ℕ)) : Type 0 where
  pub head_is : head ≡ write_head (written_columns t) t.form t.terms
  pub columns_are : cs ≡ columns (writes_codes t) t

module _ (t : Listing) {head : Text} {cs : List (List ℕ)} (of : OfListing t head cs) (old : Text) where
  -- a refusal of the columns
  pub text-refused : {n : ℕ} → refused n ≡ head_and_lines head cs → WritingCall (write_into t (length old)) (refused n) old old
  unfolding write_into
  text-refused {n} e = refused-writes _ old n (rw (← of.head_is, ← of.columns_are, ← e))

  -- the text s, of n bytes
  module _ {s : Text} {n : ℕ} (is : value s ≡ head_and_lines head cs) (bytes : n ≡ length s) where
    -- the text would pass 32,768 bytes
    pub text-long : MOST_BYTES < n → WritingCall (write_into t (length old)) (refused 11) old old
    unfolding write_into
    text-long over = refused-writes _ old 11 (rw (← of.head_is, ← of.columns_are, ← is, ← bytes, lt-ltb MOST_BYTES n over))

    module _ (fits : n ≤ MOST_BYTES) where
      pub text-short : length old < n → WritingCall (write_into t (length old)) (refused 4) old old
      unfolding write_into
      text-short over = refused-writes _ old 4 (rw (← of.head_is, ← of.columns_are, ← is, ← bytes, le-ltb MOST_BYTES n fits, ← bytes, lt-ltb (length old) n over))

      pub text_put : n ≤ length old → {new : Text} {k : ℕ} → Put s old 0 new k → WritingCall (write_into t (length old)) (value k) old new
      unfolding write_into
      text_put room {new} {k} p = put_writes _ old s new k (rw (← of.head_is, ← of.columns_are, ← is, ← bytes, le-ltb MOST_BYTES n fits, ← bytes, le-ltb (length old) n room)) p

-- ---- what writing tables leaves

module _ (head : Text) (cs : List (List ℕ)) (old : Text) where
  -- a refusal of the columns
  pub table_refused : {n : ℕ} → refused n ≡ head_and_lines head cs → WritingCall (lines_into head cs (length old)) (refused n) old old
  unfolding lines_into
  table_refused {n} e = refused-writes _ old n (rw (← e))

  module _ {s : Text} (is : value s ≡ head_and_lines head cs) where
    pub table_short : length old < length s → WritingCall (lines_into head cs (length old)) (refused 4) old old
    unfolding lines_into
    table_short over = refused-writes _ old 4 (rw (← is, lt-ltb (length old) (length s) over))

    pub table_put : length s ≤ length old → {new : Text} {k : ℕ} → Put s old 0 new k → WritingCall (lines_into head cs (length old)) (value k) old new
    unfolding lines_into
    table_put room {new} {k} p = put_writes _ old s new k (rw (← is, le-ltb (length old) (length s) room)) p

module _ (head : Text) (cs : List (List ℕ)) (head2 : Text) (cs2 : List (List ℕ)) (old : Text) where
  -- a refusal of the first table's columns
  pub first_refused : {n : ℕ} → refused n ≡ head_and_lines head cs → WritingCall (tables_into head cs head2 cs2 (length old)) (refused n) old old
  unfolding tables_into
  first_refused {n} e = refused-writes _ old n (rw (← e))

  module _ {s : Text} (is : value s ≡ head_and_lines head cs) where
    -- then one of the second table's
    pub second_refused : {n : ℕ} → refused n ≡ head_and_lines head2 cs2 → WritingCall (tables_into head cs head2 cs2 (length old)) (refused n) old old
    unfolding tables_into
    second_refused {n} e = refused-writes _ old n (rw (← is, ← e))

    module _ {s2 : Text} (is2 : value s2 ≡ head_and_lines head2 cs2) where
      -- then that of the room
      pub tables_short : {n : ℕ} → refused n ≡ both_within (value (length s)) (value (length s2)) (length old) → WritingCall (tables_into head cs head2 cs2 (length old)) (refused n) old old
      unfolding tables_into both_within
      tables_short {n} e = refused-writes _ old n (rw (← is, ← is2, length-append) (go (ltb (length old) (length s + length s2)) e))
        where
          go : (over : Bool) → refused n ≡ refuse over 4 (length s + length s2) → refuse over 4 (s ++ s2) ≡ refused n
          go true e = let four : 4 ≡ n = cc in ap refused four
          go false e = absurd (never n _ e)

      pub tables_put : length s + length s2 ≤ length old → {mid new : Text} {i k : ℕ} → Put s old 0 mid i → Put s2 mid i new k → WritingCall (tables_into head cs head2 cs2 (length old)) (value k) old new
      unfolding tables_into
      tables_put fits {mid} {new} {i} {k} p1 p2 =
          let room : length (s ++ s2) ≤ length old = omega (arith, fits, length-append s s2) in
          put_writes _ old (s ++ s2) new k (rw (← is, ← is2, le-ltb (length old) (length (s ++ s2)) room)) (put_append s s2 old 0 mid new i k (omega (arith, fits)) p1 p2)

-- where two texts fit, there is room for both
pub both_fit : (m n room k : ℕ) → value k ≡ both_within (value m) (value n) room → m + n ≤ room
unfolding both_within
both_fit m n room k e = ltb-false room (m + n) (not_refused (ltb room (m + n)) 4 (m + n) k (sym e)).0
