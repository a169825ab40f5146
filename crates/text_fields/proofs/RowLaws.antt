-- Laws of the fields of a line, and of a row of numbers.
use Prim.Native.Nat.{ℕ, zero, suc, ◌+◌, ◌≤◌, ◌<◌}
use mathlib.Core.Path.{◌≡◌, refl, sym, ap, ◌∙◌}
use mathlib.Core.Bool.{Bool, true, false, cond}
use mathlib.Core.List.{List, [], ◌∷◌, ◌++◌, append_assoc, append-nil}
use native.Mathlib.Numerals.{add-one}
use lib.Dec.{eqb}
use native.Mathlib.Omega.{arith}
use lib.ListN.{length, take, drop, set, length-set, take-append-drop}
use lib.Seq.{take-suc-set, take_all, drop-set-lt, drop-drop, length-take-le}
use Rattle.series.specs.Results.{Result, refused, value, ◌>>=◌}
use Rattle.series.specs.Outputs.{onto}
use Rattle.series.proofs.ResultLaws.{never}
use Rattle.text_rules.specs.Numbers.{number}
use Rattle.text_rules.specs.Fields.{Text, COMMA, NEWLINE, Read, ends, field, past, field_by, end_before, read_fields}
use Rattle.text_rules.specs.Rows.{numbers, read_row}
use Rattle.text_fields.specs.Parts.{RestOf, found_fields, number_by, leading}
use Rattle.text_fields.proofs.FieldLaws.{numbered, number_by_numbered, field_rest, rest_end, rest_part, rest_kept}

-- ---- the byte that ends a field

-- a field follows
pub end_other : (part end k : ℕ) → (k ≡ 0 → ⊥) → part ≡ end_before part end k
unfolding end_before
end_other part end zero ne = absurd (ne refl)
end_other part end (suc k) ne = refl

-- it is a byte that ends a field
pub end_ends : (k : ℕ) → ends (end_before COMMA NEWLINE k) ≡ true
unfolding end_before ends
end_ends zero = refl
end_ends (suc k) = refl

-- ---- the fields of a line

-- the only refusal is n
unfoldable pub Only : ℕ → {A : Type 0} → Result A → Type 0
Only n (refused m) = m ≡ n
Only n (value a) = Unit {0}

only_then : (n : ℕ) {A B : Type 0} (r : Result A) (f : A → Result B) → Only n r → ((a : A) → Only n (f a)) → Only n (r >>= f)
unfolding Only
only_then n (refused m) f h k = h
only_then n (value a) f h k = k a

past_only : (c : ℕ) (s : Text) → Only 13 (past c s)
unfolding Only past
past_only c [] = refl
past_only c (b ∷ s) = go (eqb b c)
  where
    go : (t : Bool) → Only 13 (cond t (value s) (refused 13))
    go true = tt
    go false = refl

field_only : (c : ℕ) (s : Text) → Only 13 (field_by c s)
unfolding Only field_by
field_only c s = only_then 13 (past c (drop (length (field s)) s)) _ (past_only c (drop (length (field s)) s)) (λ _. tt)

pub fields_only : (k : ℕ) (s : Text) → Only 13 (read_fields k s)
unfolding Only read_fields
fields_only zero s = tt
fields_only (suc k) s =
    only_then 13 (field_by (end_before COMMA NEWLINE k) s) _ (field_only (end_before COMMA NEWLINE k) s)
    (λ f. only_then 13 (read_fields k f.rest) _ (fields_only k f.rest) (λ _. tt))

-- what the loop over the fields keeps: of k fields, those that are left are still to be found in the rest of the text
pub record FieldsTo (k : ℕ) (s rest : Text) (left : ℕ) : Type 0 where
  pub found : found_fields (read_fields k s) ≡ found_fields (read_fields left rest)

module _ {k : ℕ} {s rest : Text} {left : ℕ} (so : FieldsTo k s rest left) where
  -- all are there
  pub fields_all : left ≡ 0 → true ≡ found_fields (read_fields k s)
  unfolding read_fields
  fields_all e = sym (so.found ∙ rw e)

  module _ {j : ℕ} (e : left ≡ suc j) where
    -- one is missing
    pub fields_missing : refused 13 ≡ field_by (end_before COMMA NEWLINE j) rest → false ≡ found_fields (read_fields k s)
    unfolding read_fields
    fields_missing h = sym (so.found ∙ rw (e, ← h))

    -- one more is there
    pub fields_more : {f after : Text} → value (record { found = f; rest = after }) ≡ field_by (end_before COMMA NEWLINE j) rest → FieldsTo k s after j
    unfolding read_fields
    fields_more {f} {after} h = record { found = so.found ∙ rw (e, ← h) (go (read_fields j after)) }
      where
        go : (r : Result (Read (List Text))) → found_fields {A = Read (List Text)} (r >>= λ fs. value (record { found = f ∷ fs.found; rest = fs.rest })) ≡ found_fields r
        go (refused n) = refl
        go (value fs) = refl

-- ---- a row of numbers

-- the fields of a line, from its first field on
line_by : ℕ → Result (Read Text) → Result (Read (List Text))
line_by k r = r >>= λ f. read_fields k f.rest >>= λ fs. value (record { found = f.found ∷ fs.found; rest = fs.rest })

-- numbers, and the text after them
abbrev pub before : Text → Result (List ℕ) → Result (Read (List ℕ))
before u q = q >>= λ ns. value (record { found = ns; rest = u })

-- the fields of a line as numbers
unfoldable pub row_by : Result (Read (List Text)) → Result (Read (List ℕ))
row_by r = r >>= λ fs. before fs.rest (numbers fs.found)

row_by_lem : (k : ℕ) (s : Text) → read_row (suc k) s ≡ row_by (line_by k (field_by (end_before COMMA NEWLINE k) s))
unfolding read_row read_fields row_by line_by
row_by_lem k s = refl

-- the numbers ns in front of those that are read
unfoldable pub in_front : List ℕ → Result (Read (List ℕ)) → Result (Read (List ℕ))
in_front ns (refused n) = refused n
in_front ns (value x) = value (record { found = ns ++ x.found; rest = x.rest })

in_front_nil : (r : Result (Read (List ℕ))) → r ≡ in_front [] r
unfolding in_front
in_front_nil (refused n) = refl
in_front_nil (value x) = refl

in_front_in_front : (ms ns : List ℕ) (r : Result (Read (List ℕ))) → in_front ms (in_front ns r) ≡ in_front (ms ++ ns) r
unfolding in_front
in_front_in_front ms ns (refused n) = refl
in_front_in_front ms ns (value x) = rw append_assoc

-- a first number, and then the others
numbers_more : (k : ℕ) (s : Text) (x : Read ℕ) → value x ≡ number_by (end_before COMMA NEWLINE k) s → read_row (suc k) s ≡ in_front (x.found ∷ []) (read_row k x.rest)
unfolding read_row row_by line_by in_front numbers numbered
numbers_more k s x e = row_by_lem k s ∙ go (field_by (end_before COMMA NEWLINE k) s) (e ∙ number_by_numbered (end_before COMMA NEWLINE k) s)
  where
    others : (n : ℕ) (q : Result (List ℕ)) (u : Text) → before u (q >>= λ ns. value (n ∷ ns)) ≡ in_front (n ∷ []) (before u q)
    others n (refused m) u = refl
    others n (value ns) u = refl

    rest : (f : Text) (n : ℕ) (q : Result (Read (List Text))) → number f ≡ value n
        → row_by (q >>= λ fs. value (record { found = f ∷ fs.found; rest = fs.rest })) ≡ in_front (n ∷ []) (row_by q)
    rest f n (refused m) i = refl
    rest f n (value fs) i = rw i (others n (numbers fs.found) fs.rest)

    picked : (f : Read Text) (q : Result ℕ) → number f.found ≡ q → value x ≡ (q >>= λ n. value (record { found = n; rest = f.rest })) → row_by (line_by k (value f)) ≡ in_front (x.found ∷ []) (row_by (read_fields k x.rest))
    picked f (refused m) i e = absurd (never m x (sym e))
    picked f (value n) i e =
        let is : x ≡ record { found = n; rest = f.rest } = cc in
        rw is (rest f.found n (read_fields k f.rest) i)

    go : (r : Result (Read Text)) → value x ≡ numbered r → row_by (line_by k r) ≡ in_front (x.found ∷ []) (row_by (read_fields k x.rest))
    go (refused m) e = absurd (never m x (sym e))
    go (value f) e = picked f (number f.found) refl e

-- the first field is no number
numbers_none : (k : ℕ) (s : Text) → refused 13 ≡ number_by (end_before COMMA NEWLINE k) s → refused 13 ≡ read_row (suc k) s
unfolding Only row_by line_by numbers numbered
numbers_none k s e = go (field_by (end_before COMMA NEWLINE k) s) (e ∙ number_by_numbered (end_before COMMA NEWLINE k) s) ∙ sym (row_by_lem k s)
  where
    picked : (fs : List Text) (u : Text) (q : Result ℕ) (v : Text) → ◌≡◌ {A = Result (Read ℕ)} (refused 13) (q >>= λ n. value (record { found = n; rest = v }))
        → refused 13 ≡ before u (q >>= λ n. numbers fs >>= λ ns. value (n ∷ ns))
    picked fs u (refused m) v e = cc
    picked fs u (value n) v e = absurd (never 13 _ e)

    rest : (f : Read Text) (q : Result (Read (List Text))) → refused 13 ≡ numbered (value f) → Only 13 q → refused 13 ≡ row_by (q >>= λ fs. value (record { found = f.found ∷ fs.found; rest = fs.rest }))
    rest f (refused m) e only = rw only
    rest f (value fs) e only = picked fs.found fs.rest (number f.found) f.rest e

    go : (r : Result (Read Text)) → refused 13 ≡ numbered r → refused 13 ≡ row_by (line_by k r)
    go (refused m) e = cc
    go (value f) e = rest f (read_fields k f.rest) e (fields_only k f.rest)

-- the first field is a number, and then the others
leading-more : (k : ℕ) (s : Text) (x : Read ℕ) → value x ≡ number_by (end_before COMMA NEWLINE k) s → leading (suc k) s ≡ x.found ∷ leading k x.rest
unfolding leading
leading-more k s x e = rw (← e)

-- it is none
leading_none : (k : ℕ) (s : Text) → refused 13 ≡ number_by (end_before COMMA NEWLINE k) s → leading (suc k) s ≡ []
unfolding leading
leading_none k s e = rw (← e)

-- what the loop over the numbers of a row keeps: i of them stand first in the row that was old, and those that are left are still to be read from the rest of the text
pub record RowTo (old : List ℕ) (s : Text) (row : List ℕ) (rest : Text) (i left : ℕ) : Type 0 where
  pub reads : read_row (length old) s ≡ in_front (take i row) (read_row left rest)
  pub leads : leading (length old) s ≡ take i row ++ leading left rest
  pub kept : drop i row ≡ drop i old
  pub long : length row ≡ length old

pub row_start : {old : List ℕ} {s : Text} {left : ℕ} → left ≡ length old → RowTo old s old s 0 left
row_start {old} {s} e = record { reads = rw e (in_front_nil (read_row (length old) s)); leads = rw e; kept = refl; long = refl }

module _ {old : List ℕ} {s : Text} {row : List ℕ} {rest : Text} {i left : ℕ} (so : RowTo old s row rest i left) where
  -- what is written where the first i numbers are those that lead
  leads_only : i ≤ length row → leading (length old) s ≡ take i row → row ≡ onto (leading (length old) s) old
  unfolding onto
  leads_only le e = sym (rw (e, length-take-le i row le, ← so.kept) (take-append-drop i row))

  -- the row is read
  pub row_end : left ≡ 0 → length row ≡ i → (value (record { found = row; rest = rest }) ≡ read_row (length old) s) × (row ≡ onto (leading (length old) s) old)
  unfolding read_row read_fields numbers in_front leading
  row_end e is = (sym (so.reads ∙ rw (e, append-nil, take_all i row (omega arith))), leads_only (omega arith) (so.leads ∙ rw (e, append-nil)))

  module _ {j : ℕ} (e : left ≡ suc j) where
    -- a field that is no number
    pub row_malformed : i ≤ length row → refused 13 ≡ number_by (end_before COMMA NEWLINE j) rest → (refused 13 ≡ read_row (length old) s) × (row ≡ onto (leading (length old) s) old)
    unfolding in_front
    row_malformed le h = (sym (so.reads ∙ rw (e, ← numbers_none j rest h)), leads_only le (so.leads ∙ rw (e, leading_none j rest h, append-nil)))

    -- one more number
    pub row_more : {n : ℕ} {after : Text} → i < length row → value (record { found = n; rest = after }) ≡ number_by (end_before COMMA NEWLINE j) rest → RowTo old s (set row i n) after (i + 1) j
    row_more {n} {after} lt h =
        let split : take (i + 1) (set row i n) ≡ take i row ++ (n ∷ []) = rw add-one (take-suc-set row i n lt) in
        let x : Read ℕ = record { found = n; rest = after } in
        record {
          reads = so.reads ∙ rw (e, split, numbers_more j rest x h) (in_front_in_front (take i row) (n ∷ []) (read_row j after));
          leads = so.leads ∙ rw (e, split, leading-more j rest x h) (sym (append_assoc (take i row) (n ∷ []) (leading j after)));
          kept = drop-set-lt (i + 1) row i n (omega arith) ∙ sym (drop-drop 1 i row) ∙ ap (drop 1) so.kept ∙ drop-drop 1 i old;
          long = length-set row i n ∙ so.long;
        }

-- ---- the text after what was read

-- what stands after a line of fields is the text from an index on, at which reading goes on
pub fields_onward : (k : ℕ) (s : Text) (fs : Read (List Text)) → value fs ≡ read_fields k s → RestOf s fs.rest
unfolding read_fields
fields_onward zero s fs = rest_end s fs []
fields_onward (suc k) s fs = rest_part s fs (field_by (end_before COMMA NEWLINE k) s) _ (field_rest (end_before COMMA NEWLINE k) s) (λ f. rest_part f.rest fs (read_fields k f.rest) _ (fields_onward k f.rest) (λ others. rest_end others.rest fs (f.found ∷ others.found)))

-- so is what stands after a row
pub row_onward : (k : ℕ) (s : Text) (r : Read (List ℕ)) → value r ≡ read_row k s → RestOf s r.rest
unfolding read_row
row_onward k s r = rest_part s r (read_fields k s) _ (fields_onward k s) (λ fs. rest_kept fs.rest r (numbers fs.found) _ (rest_end fs.rest r))
