-- The numbers of C: that of a form, and those that an allocation hands back.
use Rattle.std.specs.Prelude.{ℕ, zero, suc, Result as Result·}
use Rattle.series.specs.Results.{Result, value, ◌>>=◌}
use Rattle.series.specs.Answers.{Allocation, handed_back, outcome_of}
use Rattle.series.specs.declared.Refusal.{Refusal}
use Rattle.forms.specs.declared.Form.{Form}
use Rattle.answer_numbers.specs.declared.Numbers.{Numbers}

-- the form of a number: 0 is shorts, any other number last numbers
unfoldable pub form_by : ℕ → Form
form_by zero = Form.Shorts
form_by (suc n) = Form.LastNumbers

-- the number of a form
unfoldable pub form_number : Form → ℕ
form_number Form.Shorts = 0
form_number Form.LastNumbers = 1

-- the numbers that an allocation hands back: T and the further number, 0 where there is none
pub record Handing : Type 0 where
  pub total : ℕ
  pub further : ℕ

-- those of an allocation
abbrev pub handing : Allocation → Handing
handing a = record { total = a.total; further = handed_back a.further }

-- those of an answer
unfoldable pub handed_numbers : Result Allocation → Result Handing
handed_numbers r = do
  a ← r
  value (handing a)

-- the numbers that the code hands back
abbrev pub handing_of : Numbers → Handing
handing_of n = record { total = n.total; further = n.further }

-- those of an answer
abbrev pub numbers_mean : Result· Numbers Refusal → Result Handing
numbers_mean r = outcome_of handing_of r
