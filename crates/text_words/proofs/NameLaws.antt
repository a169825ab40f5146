-- Laws of the names lines that are read word by word.
use mathlib.Core.Path.{◌≡◌, refl, sym, ◌∙◌}
use mathlib.Core.Bool.{true, false}
use mathlib.Core.List.{List, [], ◌∷◌, ◌++◌}
use Rattle.series.specs.Results.{Result, refused, value}
use Rattle.series.proofs.ResultLaws.{never, value_is}
use Rattle.text_rules.specs.Fields.{Text, Read}
use Rattle.text_rules.specs.Names.{after_line, code_name, account_line, positions_line, in_forms, line3, names_or, read_names}
use Rattle.text_rules.specs.declared.PositionColumns.{PositionColumns}
use Rattle.text_rules.proofs.NameLaws.{word_there, word_missing, code_there, code_missing}
use Rattle.text_fields.specs.Parts.{RestOf}
use Rattle.text_fields.proofs.FieldLaws.{line_rest}

-- ---- the columns that a line may name

module _ {A : Type 0} (c : A) (other : Result (Read A)) {after : Result Text} where
  -- their line is there
  pub there : {rest : Text} → value rest ≡ after → value (record { found = c; rest = rest }) ≡ names_or c after other
  unfolding names_or
  there h = rw (← h) refl

  -- it is not, and the others are looked for
  pub not_there : {r : Result (Read A)} → refused 12 ≡ after → r ≡ other → r ≡ names_or c after other
  unfolding names_or
  not_there h q = rw (← h) q

-- ---- line 3

module _ (s : Text) {r : Result (Read PositionColumns)} where
  -- `code,` is there, and then the rest of the line
  pub after_code : {rest : Text} → value rest ≡ after_line (code_name true) s → r ≡ read_names account_line (in_forms true) rest → r ≡ read_names positions_line line3 s
  after_code {rest} h q = q ∙ sym (code_there s rest (sym h))

  -- it is not
  pub without_code : refused 12 ≡ after_line (code_name true) s → r ≡ read_names account_line (in_forms false) s → r ≡ read_names positions_line line3 s
  without_code h q = q ∙ sym (code_missing s 12 (sym h))

module _ (p : Text) (line : PositionColumns → Text) (known : List PositionColumns) (s : Text) where
  -- the word p is there, and then the rest of the line
  pub after_word : {rest : Text} {r : Result (Read PositionColumns)} → value rest ≡ after_line p s → r ≡ read_names line known rest → r ≡ read_names (λ c. p ++ line c) known s
  after_word {rest} h q = q ∙ sym (word_there line p known s rest (sym h))

  -- it is not
  pub without_word : refused 12 ≡ after_line p s → refused 12 ≡ read_names (λ c. p ++ line c) known s
  without_word h = sym (word_missing line p known s 12 (sym h))

-- ---- the text after what was read

-- what stands after a names line is the text from an index on, at which reading goes on
pub names_onward : {A : Type 0} (line : A → Text) (known : List A) (s : Text) (r : Read A) → value r ≡ read_names line known s → RestOf s r.rest
unfolding read_names names_or
names_onward line [] s r e = absurd (never 12 r (sym e))
names_onward {A} line (c ∷ known) s r e = go (after_line (line c) s) refl e (names_onward line known s r)
  where
    go : (after : Result Text) → after_line (line c) s ≡ after → value r ≡ names_or c after (read_names line known s) → (value r ≡ read_names line known s → RestOf s r.rest) → RestOf s r.rest
    go (value rest) h e others = rw (value_is e) (line_rest (line c) s rest (sym h))
    go (refused n) h e others = others e
