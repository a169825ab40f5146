-- Laws of the position lines, to the end of a text.
use Prim.Native.Nat.{ℕ, suc, ◌+◌, ◌-◌, ◌≤◌, ◌<◌}
use mathlib.Core.Path.{◌≡◌, refl, sym, ap, ◌∙◌}
use mathlib.Core.Bool.{Bool, true, false, true≢false}
use mathlib.Core.List.{List, [], ◌∷◌, ◌++◌, map, append_assoc, append-nil, map-id, map-map}
use native.Mathlib.Omega.{arith}
use native.Mathlib.Nat.{sub-zero}
use borrow.Author.Tests.{eqb-true}
use lib.Dec.{eqb}
use lib.ListN.{length, get_or, drop}
use Rattle.series.specs.Results.{Result, refused, value, ◌>>=◌}
use Rattle.series.specs.declared.Terms.{Terms}
use Rattle.forms.specs.declared.Form.{Form}
use Rattle.text_rules.specs.Fields.{Text, Read}
use Rattle.text_rules.specs.Rows.{read_row, read_rows, rows_of, column}
use Rattle.text_rules.specs.Text.{MOST_LINES, line_width, listing_of, read_positions}
use Rattle.text_rules.proofs.RowLaws.{rows_none}
use Rattle.text_rules.proofs.ColumnLaws.{column-rows}
use Rattle.series_text.specs.Parts.{with_code, read_position}

-- ---- the position lines

-- a row that was read, with the code in front of it, and the text after it
pub position_found : (c : Bool) (u rest : Text) (row : List ℕ) → value (record { found = row; rest = rest }) ≡ read_row (line_width c) u → value (record { found = with_code c row; rest = rest }) ≡ read_position c u
unfolding read_position
position_found c u rest row h = rw (← h)

-- none was read
pub position_none : (c : Bool) (u : Text) → refused 13 ≡ read_row (line_width c) u → refused 13 ≡ read_position c u
unfolding read_position
position_none c u h = rw (← h)

-- at most so many position lines to the end of the text, each as a code, an account and shorts
unfoldable pub position_lines : ℕ → Bool → Text → Result (List (List ℕ))
position_lines most c s = read_rows most (line_width c) s >>= λ rs. value (map (with_code c) rs)

-- rows in front of those that are read
unfoldable pub above : List (List ℕ) → Result (List (List ℕ)) → Result (List (List ℕ))
above rows r = r >>= λ rs. value (rows ++ rs)

above-nil : (r : Result (List (List ℕ))) → r ≡ above [] r
unfolding above
above-nil (refused n) = refl
above-nil (value rs) = refl

above-above : (ps qs : List (List ℕ)) (r : Result (List (List ℕ))) → above ps (above qs r) ≡ above (ps ++ qs) r
unfolding above
above-above ps qs (refused n) = refl
above-above ps qs (value rs) = rw append_assoc

-- the first line, and then the others
positions-next : (most : ℕ) (c : Bool) (b : ℕ) (s : Text) → position_lines (suc most) c (b ∷ s) ≡ (read_position c (b ∷ s) >>= λ r. above (r.found ∷ []) (position_lines most c r.rest))
unfolding position_lines read_rows read_position above
positions-next most c b s = go (read_row (line_width c) (b ∷ s))
  where
    others : (row : List ℕ) (q : Result (List (List ℕ))) → ((q >>= λ rs. value (row ∷ rs)) >>= λ rs. value (map (with_code c) rs)) ≡ above (with_code c row ∷ []) (q >>= λ rs. value (map (with_code c) rs))
    others row (refused n) = refl
    others row (value rs) = refl

    go : (q : Result (Read (List ℕ)))
        → ((q >>= λ r. read_rows most (line_width c) r.rest >>= λ rs. value (r.found ∷ rs)) >>= λ rs. value (map (with_code c) rs))
        ≡ ◌>>=◌ {A = Read (List ℕ)} (q >>= λ r. value (record { found = with_code c r.found; rest = r.rest })) (λ r. above (r.found ∷ []) (position_lines most c r.rest))
    go (refused n) = refl
    go (value r) = others r.found (read_rows most (line_width c) r.rest)

-- what `is_empty` tells of the rest of the text
pub none_left : (u : Text) (t : Bool) → t ≡ eqb (length u) 0 → t ≡ true → u ≡ []
none_left [] t e h = refl
none_left (b ∷ u) t e h = let none : suc (length u) ≡ 0 = eqb-true (suc (length u)) 0 (sym e ∙ h) in absurd (omega (arith, none))

pub some_left : (u : Text) (t : Bool) → t ≡ eqb (length u) 0 → t ≡ false → u ≡ [] → ⊥
some_left [] t e h is = true≢false (sym e ∙ h)
some_left (b ∷ u) t e h is = let none : suc (length u) ≡ 0 = ap length is in omega (arith, none)

-- what the loop over the lines keeps: n rows of at most `most` are read, and the others are read from the rest of the text
pub record RowsTo (most : ℕ) (c : Bool) (s : Text) (rows : List (List ℕ)) (rest : Text) (n : ℕ) : Type 0 where
  pub reads : position_lines most c s ≡ above rows (position_lines (most - n) c rest)

pub rows_start : {most : ℕ} {c : Bool} {s : Text} → RowsTo most c s [] s 0
rows_start {most} {c} {s} = record { reads = rw sub-zero (above-nil (position_lines most c s)) }

module _ {most : ℕ} {c : Bool} {s : Text} {rows : List (List ℕ)} {rest : Text} {n : ℕ} (so : RowsTo most c s rows rest n) where
  -- the text ends
  pub rows_end : rest ≡ [] → value rows ≡ position_lines most c s
  unfolding above position_lines
  rows_end e = sym (so.reads ∙ rw (e, rows_none, append-nil))

  module _ (e : (rest ≡ [] → ⊥)) where
    first_byte : rest ≡ get_or rest 0 0 ∷ drop 1 rest
    first_byte = go rest e
      where
        go : (u : Text) → (u ≡ [] → ⊥) → u ≡ get_or u 0 0 ∷ drop 1 u
        go [] e = absurd (e refl)
        go (b ∷ u) e = refl

    -- a line too many
    pub rows_over : most ≤ n → refused 15 ≡ position_lines most c s
    unfolding above position_lines read_rows
    rows_over le =
        let none : most - n ≡ 0 = omega arith in
        sym (so.reads ∙ ap (λ u. above rows (position_lines (most - n) c u)) first_byte ∙ rw none)

    module _ (le : n < most) where
      -- a further line
      next_row : position_lines most c s ≡ above rows (read_position c rest >>= λ r. above (r.found ∷ []) (position_lines (most - (n + 1)) c r.rest))
      next_row =
          let one : most - n ≡ suc (most - (n + 1)) = omega arith in
          so.reads
          ∙ ap (λ u. above rows (position_lines (most - n) c u)) first_byte
          ∙ ap (λ m. above rows (position_lines m c (get_or rest 0 0 ∷ drop 1 rest))) one
          ∙ ap (above rows) (positions-next (most - (n + 1)) c (get_or rest 0 0) (drop 1 rest))
          ∙ ap (λ u. above rows (read_position c u >>= λ r. above (r.found ∷ []) (position_lines (most - (n + 1)) c r.rest))) (sym first_byte)

      -- it has not its numbers
      pub rows_malformed : refused 13 ≡ read_position c rest → refused 13 ≡ position_lines most c s
      unfolding above
      rows_malformed h = sym (next_row ∙ rw (← h))

      -- one more row
      pub rows_more : {row : List ℕ} {after : Text} → value (record { found = row; rest = after }) ≡ read_position c rest → RowsTo most c s (rows ++ (row ∷ [])) after (n + 1)
      rows_more {row} {after} h = record { reads = next_row ∙ rw (← h) (above-above rows (row ∷ []) (position_lines (most - (n + 1)) c after)) }

-- ---- the listing of the position lines

-- without a code the code is the account
listing_coded : (c : Bool) (f : Form) (t : Terms) (ps : List (List ℕ)) → listing_of true f t (map (with_code c) ps) ≡ listing_of c f t ps
unfolding column
listing_coded true f t ps = rw map-id
listing_coded false f t ps = simp map-map

module _ (c : Bool) (f : Form) (t : Terms) (s : Text) where
  positions_by : (position_lines MOST_LINES c s >>= λ ps. value (listing_of true f t ps)) ≡ read_positions (record { terms = t; form = f; coded = c }) s
  unfolding position_lines read_positions
  positions_by = go (read_rows MOST_LINES (line_width c) s)
    where
      go : (r : Result (List (List ℕ))) → ((r >>= λ ps. value (map (with_code c) ps)) >>= λ ps. value (listing_of true f t ps)) ≡ (r >>= λ ps. value (listing_of c f t ps))
      go (refused n) = refl
      go (value ps) = ap value (listing_coded c f t ps)

  -- they are refused
  pub positions-refused : {n : ℕ} → refused n ≡ position_lines MOST_LINES c s → refused n ≡ read_positions (record { terms = t; form = f; coded = c }) s
  positions-refused h = rw (← h) at positions_by

  -- they are the rows of three columns of one length
  pub positions_all : {codes accounts numbers : List ℕ} → length accounts ≡ length codes → length numbers ≡ length codes → value (rows_of (codes ∷ accounts ∷ numbers ∷ [])) ≡ position_lines MOST_LINES c s
      → value (record { form = f; terms = t; codes = codes; accounts = accounts; numbers = numbers }) ≡ read_positions (record { terms = t; form = f; coded = c }) s
  positions_all {codes} {accounts} {numbers} la ls h =
      let rows = column-rows codes (accounts ∷ numbers ∷ []) in
      rw (rows 0 refl, rows 1 la, rows 2 ls) at (rw (← h) at positions_by)
