-- What the answers of the functions mean.
use Rattle.std.specs.Prelude.{◌≡◌, Result as Result·}
use Rattle.std.specs.Borrow.{Bor}
use Rattle.series.specs.Results.{Result, value}
use Rattle.series.specs.Answers.{outcome_of}
use Rattle.series.specs.declared.Refusal.{Refusal}
use Rattle.series.specs.declared.Terms.{Terms}
use Rattle.text_rules.specs.Fields.{Text, COMMA, Read, field_by}
use Rattle.text_rules.specs.Text.{Head}
use Rattle.text_fields.specs.declared.Read.{Read as Read·}
use Rattle.text_head.specs.declared.Head.{Head as Head·}

-- the first field of s, which a comma ends, and what comes after it
abbrev pub FirstField : Text → Read· (Bor Text) → Type 0
FirstField s first = value (record { found = first.found.now; rest = first.rest.now }) ≡ field_by COMMA s

-- the values of line 2, with the text after it
abbrev pub terms_means : Result· (Read· Terms) Refusal → Result (Read Terms)
terms_means r = outcome_of (λ t. record { found = t.found; rest = t.rest.now }) r

-- what lines 1 to 3 hold, with the position lines
abbrev pub head_means : Result· Head· Refusal → Result (Read Head)
head_means r = outcome_of (λ h. record { found = record { terms = h.terms; form = h.columns.form; coded = h.columns.coded }; rest = h.lines.now }) r
