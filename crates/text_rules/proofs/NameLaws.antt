-- Laws of the names lines: a line is compared part by part, line 3 by its words, and what is found is the line that stands there.
use Prim.Native.Nat.{ℕ, ◌+◌, ◌≤◌, ◌<◌}
use mathlib.Core.Path.{◌≡◌, refl, ap, ◌∙◌}
use mathlib.Core.Bool.{Bool, true, false, cond}
use mathlib.Core.List.{List, [], ◌∷◌, ◌++◌, append_assoc}
use native.Mathlib.Omega.{arith}
use borrow.Author.Tests.{eq-eqb, eqb-true}
use lib.Dec.{eqb}
use lib.ListN.{length, length-append}
use Rattle.series.specs.Ascii.{ascii}
use Rattle.series.specs.Results.{Result, refused, value, ◌>>=◌}
use Rattle.series.proofs.ResultLaws.{never, value_is}
use Rattle.forms.specs.declared.Form.{Form}
use Rattle.text_rules.specs.Fields.{Text, Read}
use Rattle.text_rules.specs.Names.{line1, terms_line, code_name, account_name, form_name, account_line, positions_line, columns_in, in_forms, line3, after_line, names_or, read_names}
use Rattle.text_rules.specs.declared.TermsColumns.{TermsColumns}

-- ---- a line

-- a line is compared part by part
pub after-append : (p q s : Text) → after_line (p ++ q) s ≡ (after_line p s >>= after_line q)
unfolding after_line
after-append [] q s = refl
after-append (a ∷ p) q [] = refl
after-append (a ∷ p) q (b ∷ s) = go (after-append p q s) (eqb a b)
  where
    go : after_line (p ++ q) s ≡ (after_line p s >>= after_line q) → (t : Bool) → cond t (after_line (p ++ q) s) (refused 12) ≡ (cond t (after_line p s) (refused 12) >>= after_line q)
    go h true = h
    go h false = refl

pub after_back : (p s : Text) → after_line p (p ++ s) ≡ value s
unfolding after_line
after_back [] s = refl
after_back (a ∷ p) s = rw (eq-eqb a a refl) (after_back p s)

pub after_is : (p s u : Text) → after_line p s ≡ value u → s ≡ p ++ u
unfolding after_line
after_is [] s u e = value_is e
after_is (a ∷ p) [] u e = absurd (never 12 u e)
after_is (a ∷ p) (b ∷ s) u e = go (after_is p s u) (eqb a b) refl e
  where
    go : (after_line p s ≡ value u → s ≡ p ++ u) → (t : Bool) → eqb a b ≡ t → cond t (after_line p s) (refused 12) ≡ value u → b ∷ s ≡ a ∷ (p ++ u)
    go h true same f = let is : a ≡ b = eqb-true a b same in let rest : s ≡ p ++ u = h f in cc
    go h false other f = absurd (never 12 u f)

-- ---- the known lines

module _ {A : Type 0} (line : A → Text) where
  -- the text is the line of the columns that were found, and then what is left
  pub names_are : (known : List A) (s : Text) (x : Read A) → read_names line known s ≡ value x → s ≡ line x.found ++ x.rest
  unfolding read_names names_or
  names_are [] s x e = absurd (never 12 x e)
  names_are (c ∷ known) s x e = go (names_are known s x) (after_line (line c) s) refl e
    where
      go : (read_names line known s ≡ value x → s ≡ line x.found ++ x.rest) → (r : Result Text) → after_line (line c) s ≡ r → names_or c r (read_names line known s) ≡ value x → s ≡ line x.found ++ x.rest
      go others (refused n) found f = others f
      go others (value u) found f =
          let is : ◌≡◌ {A = Read A} (record { found = c; rest = u }) x = value_is f in
          after_is (line c) s u found ∙ ap (λ (y : Read A). line y.found ++ y.rest) is

  -- every line begins with the word p, and the text has it
  pub word_there : (p : Text) (known : List A) (s u : Text) → after_line p s ≡ value u → read_names (λ c. p ++ line c) known s ≡ read_names line known u
  unfolding read_names
  word_there p [] s u e = refl
  word_there p (c ∷ known) s u e = rw (after-append p (line c) s, e, word_there p known s u e)

  -- and the text has it not
  pub word_missing : (p : Text) (known : List A) (s : Text) (n : ℕ) → after_line p s ≡ refused n → read_names (λ c. p ++ line c) known s ≡ refused 12
  unfolding read_names names_or
  word_missing p [] s n e = refl
  word_missing p (c ∷ known) s n e = rw (after-append p (line c) s, e, word_missing p known s n e)

-- ---- line 1

-- it is read back, with the increment or without it
pub terms_line_back : (c : TermsColumns) (s : Text) → read_names terms_line line1 (terms_line c ++ s) ≡ value (record { found = c; rest = s })
unfolding read_names names_or after_line terms_line ascii
terms_line_back TermsColumns.MethodExercisedDraw s = refl
terms_line_back TermsColumns.MethodExercisedDrawIncrement s = refl

-- the two are not the same
pub increment_named : TermsColumns.MethodExercisedDrawIncrement ≡ TermsColumns.MethodExercisedDraw → ⊥
increment_named e = let z : ◌≡◌ {A = ℕ} 0 1 = cc in omega arith

pub terms_line-room : (c : TermsColumns) → length (terms_line c) ≤ 32
unfolding terms_line ascii
terms_line-room TermsColumns.MethodExercisedDraw = omega arith
terms_line-room TermsColumns.MethodExercisedDrawIncrement = omega arith

-- the increment makes it longer
pub increment_longer : length (terms_line TermsColumns.MethodExercisedDraw) < length (terms_line TermsColumns.MethodExercisedDrawIncrement)
unfolding terms_line ascii
increment_longer = omega arith

-- ---- line 3 by its words

-- the name of the code column is there
pub code_there : (s u : Text) → after_line (code_name true) s ≡ value u → read_names positions_line line3 s ≡ read_names account_line (in_forms true) u
unfolding read_names names_or after_line positions_line account_line code_name account_name ascii
code_there s u e = rw (after_is (code_name true) s u e)

-- and is not: no line with a code is there
pub code_missing : (s : Text) (n : ℕ) → after_line (code_name true) s ≡ refused n → read_names positions_line line3 s ≡ read_names account_line (in_forms false) s
unfolding read_names names_or positions_line code_name
code_missing s n e = rw (none Form.Shorts, none Form.LastNumbers)
  where
    none : (f : Form) → after_line (positions_line (columns_in f true)) s ≡ refused n
    none f = after-append (code_name true) (account_line (columns_in f true)) s ∙ rw e

-- the form's word is read back
form_back : (f : Form) (c : Bool) (s : Text) → read_names (λ x. form_name x.form) (in_forms c) (form_name f ++ s) ≡ value (record { found = columns_in f c; rest = s })
unfolding read_names names_or after_line form_name ascii
form_back Form.Shorts c s = refl
form_back Form.LastNumbers c s = refl

-- line 3 is read back, in either form, with the code column or without it
pub columns_back : (f : Form) (c : Bool) (s : Text) → read_names positions_line line3 (positions_line (columns_in f c) ++ s) ≡ value (record { found = columns_in f c; rest = s })
unfolding positions_line account_line code_name account_name after_line ascii
columns_back f c s = rw (append_assoc (code_name c) (account_line (columns_in f c)) s) (by_code c ∙ by_account ∙ form_back f c s)
  where
    by_code : (c : Bool) → read_names positions_line line3 (code_name c ++ (account_line (columns_in f c) ++ s)) ≡ read_names account_line (in_forms c) (account_line (columns_in f c) ++ s)
    by_code true = code_there _ _ (after_back (code_name true) (account_line (columns_in f true) ++ s))
    by_code false = code_missing _ 12 refl

    by_account : read_names account_line (in_forms c) (account_line (columns_in f c) ++ s) ≡ read_names (λ x. form_name x.form) (in_forms c) (form_name f ++ s)
    by_account = rw (append_assoc account_name (form_name f) s) (word_there (λ x. form_name x.form) account_name (in_forms c) (account_name ++ (form_name f ++ s)) (form_name f ++ s) (after_back account_name (form_name f ++ s)))

-- ---- the length of line 3

pub length-positions : (f : Form) (c : Bool) → length (positions_line (columns_in f c)) ≡ length (code_name c) + (8 + length (form_name f))
unfolding positions_line account_line account_name ascii
length-positions f c = length-append (code_name c) (account_line (columns_in f c)) ∙ ap (length (code_name c) +◌) (length-append account_name (form_name f))

pub code_room : (c : Bool) → length (code_name c) ≤ 5
unfolding code_name ascii
code_room true = omega arith
code_room false = omega arith

pub form-room : (f : Form) → length (form_name f) ≤ 6
unfolding form_name ascii
form-room Form.Shorts = omega arith
form-room Form.LastNumbers = omega arith

-- the code column makes it longer
pub code_longer : (f : Form) → length (positions_line (columns_in f false)) < length (positions_line (columns_in f true))
unfolding code_name ascii
code_longer f = omega (arith, length-positions f true, length-positions f false)
