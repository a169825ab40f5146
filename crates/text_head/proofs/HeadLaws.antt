-- Laws of the method, of line 2, and of lines 1 to 3.
use Prim.Native.Nat.{ℕ, zero, suc, ◌≤◌, ◌<◌}
use mathlib.Core.Path.{◌≡◌, refl, sym, ap, ◌∙◌}
use mathlib.Core.Bool.{Bool, true, false, false≢true}
use mathlib.Core.List.{List, [], ◌∷◌, ◌++◌}
use native.Mathlib.Omega.{arith}
use borrow.Author.Tests.{lt-ltb, le-ltb}
use lib.ListN.{length, get_or, drop}
use lib.Dec.{ltb}
use lib.Seq.{drop-nil}
use Rattle.series.specs.Results.{Result, refused, value, ◌>>=◌, refuse}
use Rattle.series.specs.declared.Method.{Method}
use Rattle.series.specs.declared.Terms.{Terms}
use Rattle.series.proofs.ResultLaws.{never}
use Rattle.text_rules.specs.Fields.{Text, COMMA, Read, field_by, read_fields}
use Rattle.text_rules.specs.Rows.{numbers, read_row}
use Rattle.text_rules.specs.Names.{terms_line, terms_numbers, line1, positions_line, line3, read_names}
use Rattle.text_rules.specs.Letters.{method_by, method_of}
use Rattle.text_rules.specs.Text.{MOST_BYTES, terms_from, read_terms, Head, read_head}
use Rattle.text_rules.specs.declared.TermsColumns.{TermsColumns}
use Rattle.text_rules.specs.declared.PositionColumns.{PositionColumns}
use Rattle.text_fields.specs.Parts.{RestOf, found_fields}
use Rattle.text_fields.proofs.FieldLaws.{field_rest, rest_end, rest_part, rest_kept}
use Rattle.text_fields.proofs.RowLaws.{Only, fields_only, before, row_by, fields_onward}
use Rattle.text_words.proofs.NameLaws.{names_onward}

-- ---- the method

-- a field that is not one byte
pub method_other : (f : Text) → (length f ≡ 1 → ⊥) → method_of f ≡ refused 14
unfolding method_of
method_other [] ne = refl
method_other (b ∷ []) ne = absurd (ne refl)
method_other (b ∷ c ∷ f) ne = refl

-- a field that is one byte
pub method-one : (f : Text) → length f ≡ 1 → method_of f ≡ method_by (get_or f 0 0)
unfolding method_of
method-one [] e = absurd (omega arith)
method-one (b ∷ []) e = refl
method-one (b ∷ c ∷ f) e = absurd (omega arith)

-- ---- line 2

-- no comma ends the first field
pub terms-first : (k : ℕ) (s : Text) → refused 13 ≡ field_by COMMA s → refused 13 ≡ read_terms k s
unfolding read_terms
terms-first k s h = rw (← h)

-- numbers that are put first in a list, as they are asked for: past them the list is as it was
pub values_read : (ns l : List ℕ) (k i : ℕ) → length ns ≡ k → get_or (ns ++ drop k l) i 0 ≡ get_or ns i (get_or l i 0)
values_read ns l k i e = rw (← e) (go ns l i)
  where
    go : (ns l : List ℕ) (i : ℕ) → get_or (ns ++ drop (length ns) l) i 0 ≡ get_or ns i (get_or l i 0)
    go [] l i = refl
    go (n ∷ ns) l zero = refl
    go (n ∷ ns) [] (suc i) = rw (drop-nil (length ns)) at (go ns [] i)
    go (n ∷ ns) (m ∷ l) (suc i) = go ns l i

-- what line 2 comes to, from its fields after the first and its method
terms_by : Result (Read (List Text)) → Result Method → Result (Read Terms)
terms_by r m = r >>= λ fs. m >>= λ how. numbers fs.found >>= λ ns. value (record { found = terms_from how ns; rest = fs.rest })

-- a row that is read has its fields
pub row_found : (k : ℕ) (s : Text) {x : Read (List ℕ)} → value x ≡ read_row k s → true ≡ found_fields (read_fields k s)
unfolding read_row row_by
row_found k s {x} h = go (read_fields k s) h
  where
    go : (r : Result (Read (List Text))) → value x ≡ row_by r → true ≡ found_fields r
    go (refused n) h = absurd (never n x (sym h))
    go (value fs) h = refl

module _ (k : ℕ) (s : Text) {m : Read Text} (hm : value m ≡ field_by COMMA s) where
  terms_by_lem : terms_by (read_fields k m.rest) (method_of m.found) ≡ read_terms k s
  unfolding read_terms terms_by
  terms_by_lem = rw (← hm)

  -- the fields after it are not there
  pub terms_missing : false ≡ found_fields (read_fields k m.rest) → refused 13 ≡ read_terms k s
  unfolding terms_by Only
  terms_missing found = go (read_fields k m.rest) (fields_only k m.rest) found ∙ terms_by_lem
    where
      go : (r : Result (Read (List Text))) → Only 13 r → false ≡ found_fields r → refused 13 ≡ terms_by r (method_of m.found)
      go (refused n) h found = rw h
      go (value fs) h found = absurd (false≢true found)

  -- they are there, and the method is unknown
  pub terms_unknown : true ≡ found_fields (read_fields k m.rest) → refused 14 ≡ method_of m.found → refused 14 ≡ read_terms k s
  unfolding terms_by
  terms_unknown found hw = go (read_fields k m.rest) found ∙ ap (terms_by (read_fields k m.rest)) hw ∙ terms_by_lem
    where
      go : (r : Result (Read (List Text))) → true ≡ found_fields r → refused 14 ≡ terms_by r (refused 14)
      go (refused n) found = absurd (false≢true (sym found))
      go (value fs) found = refl

  module _ {how : Method} (hw : value how ≡ method_of m.found) where
    -- it is known, and the fields are no numbers
    pub terms_malformed : true ≡ found_fields (read_fields k m.rest) → refused 13 ≡ read_row k m.rest → refused 13 ≡ read_terms k s
    unfolding read_row row_by terms_by
    terms_malformed found h = go (read_fields k m.rest) found h ∙ ap (terms_by (read_fields k m.rest)) hw ∙ terms_by_lem
      where
        last : (u : Text) (q : Result (List ℕ)) → refused 13 ≡ before u q → ◌≡◌ {A = Result (Read Terms)} (refused 13) (q >>= λ ns. value (record { found = terms_from how ns; rest = u }))
        last u (refused n) h = cc
        last u (value ns) h = absurd (never 13 _ h)

        go : (r : Result (Read (List Text))) → true ≡ found_fields r → refused 13 ≡ row_by r → refused 13 ≡ terms_by r (value how)
        go (refused n) found h = absurd (false≢true (sym found))
        go (value fs) found h = last fs.rest (numbers fs.found) h

    -- they are
    pub terms_all : {x : Read (List ℕ)} → value x ≡ read_row k m.rest → value (record { found = terms_from how x.found; rest = x.rest }) ≡ read_terms k s
    unfolding read_row row_by terms_by
    terms_all {x} h = go (read_fields k m.rest) h ∙ ap (terms_by (read_fields k m.rest)) hw ∙ terms_by_lem
      where
        last : (u : Text) (q : Result (List ℕ)) → value x ≡ before u q → ◌≡◌ {A = Result (Read Terms)} (value (record { found = terms_from how x.found; rest = x.rest })) (q >>= λ ns. value (record { found = terms_from how ns; rest = u }))
        last u (refused n) h = absurd (never n x (sym h))
        last u (value ns) h = let is : x ≡ record { found = ns; rest = u } = cc in rw is

        go : (r : Result (Read (List Text))) → value x ≡ row_by r → value (record { found = terms_from how x.found; rest = x.rest }) ≡ terms_by r (value how)
        go (refused n) h = absurd (never n x (sym h))
        go (value fs) h = last fs.rest (numbers fs.found) h

-- ---- lines 1 to 3

pub head_long : (s : Text) → MOST_BYTES < length s → refused 11 ≡ read_head s
unfolding read_head
head_long s over = rw (lt-ltb MOST_BYTES (length s) over)

module _ (s : Text) (fits : length s ≤ MOST_BYTES) where
  pub head_names : refused 12 ≡ read_names terms_line line1 s → refused 12 ≡ read_head s
  unfolding read_head
  head_names h = rw (le-ltb MOST_BYTES (length s) fits, ← h)

  module _ {names : Read TermsColumns} (hn : value names ≡ read_names terms_line line1 s) where
    pub head_terms : {n : ℕ} → refused n ≡ read_terms (terms_numbers names.found) names.rest → refused n ≡ read_head s
    unfolding read_head
    head_terms h = rw (le-ltb MOST_BYTES (length s) fits, ← hn, ← h)

    module _ {t : Read Terms} (ht : value t ≡ read_terms (terms_numbers names.found) names.rest) where
      pub head_columns : refused 12 ≡ read_names positions_line line3 t.rest → refused 12 ≡ read_head s
      unfolding read_head
      head_columns h = rw (le-ltb MOST_BYTES (length s) fits, ← hn, ← ht, ← h)

      pub head_all : {columns : Read PositionColumns} → value columns ≡ read_names positions_line line3 t.rest
          → value (record { found = record { terms = t.found; form = columns.found.form; coded = columns.found.coded }; rest = columns.rest }) ≡ read_head s
      unfolding read_head
      head_all h = rw (le-ltb MOST_BYTES (length s) fits, ← hn, ← ht, ← h)

-- ---- the text after what was read

-- what stands after line 2 is the text from an index on, at which reading goes on
pub terms_onward : (k : ℕ) (s : Text) (t : Read Terms) → value t ≡ read_terms k s → RestOf s t.rest
unfolding read_terms
terms_onward k s t =
    rest_part s t (field_by COMMA s) _ (field_rest COMMA s)
    (λ m. rest_part m.rest t (read_fields k m.rest) _ (fields_onward k m.rest)
    (λ fs. rest_kept fs.rest t (method_of m.found) _
    (λ how. rest_kept fs.rest t (numbers fs.found) _
    (λ ns. rest_end fs.rest t (terms_from how ns)))))

-- so is what stands after lines 1 to 3
pub head_onward : (s : Text) (h : Read Head) → value h ≡ read_head s → RestOf s h.rest
unfolding read_head
head_onward s h =
    fitting (ltb MOST_BYTES (length s)) _
    (rest_part s h (read_names terms_line line1 s) _ (names_onward terms_line line1 s)
    (λ names. rest_part names.rest h (read_terms (terms_numbers names.found) names.rest) _ (terms_onward (terms_numbers names.found) names.rest)
    (λ t. rest_part t.rest h (read_names positions_line line3 t.rest) _ (names_onward positions_line line3 t.rest)
    (λ columns. rest_end columns.rest h (record { terms = t.found; form = columns.found.form; coded = columns.found.coded })))))
  where
    fitting : (long : Bool) (f : Text → Result (Read Head)) → (value h ≡ f s → RestOf s h.rest) → value h ≡ (refuse long 11 s >>= f) → RestOf s h.rest
    fitting true f on e = absurd (never 11 h (sym e))
    fitting false f on e = on e
