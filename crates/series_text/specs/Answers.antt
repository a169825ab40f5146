-- What reading answers.
use Rattle.std.specs.Prelude.{Result as Result·}
use Rattle.series.specs.Answers.{outcome_of}
use Rattle.series.specs.Results.{Result}
use Rattle.series.specs.declared.Refusal.{Refusal}
use Rattle.text_rules.specs.Calls.{Handed}
use Rattle.series_text.specs.declared.ReadSeries.{ReadSeries}

-- what each answer of reading hands back
abbrev pub reading_of : Result· ReadSeries Refusal → Result Handed
reading_of r = outcome_of (λ s. record { form = s.form; terms = s.terms; positions = s.positions }) r
