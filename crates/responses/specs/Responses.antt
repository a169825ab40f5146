-- What the call hands back, and what its output then holds.
use Rattle.std.specs.Prelude.{ℕ, ◌≡◌, cond, ltb, length, take, None, Some, Option as Option·}
use Rattle.series.specs.Answers.{number_of}
use Rattle.series.specs.Outputs.{onto_room}
use Rattle.series.specs.Results.{Result, refused, value, status}
use Rattle.series.specs.Series.{Series}
use Rattle.series.specs.declared.Refusal.{Refusal}
use Rattle.text_rules.specs.Fields.{Text}
use Rattle.responses.specs.Printed.{lines_for}
use Rattle.responses.specs.declared.Response.{Response}

-- how many bytes are printed, and the number of the refusal, 0 where there is none
pub record Printing : Type 0 where
  pub written : ℕ
  pub refusal : ℕ

-- the number of a refusal, 0 where there is none
abbrev pub number_told : Option· Refusal → ℕ
number_told None = 0
number_told (Some r) = number_of r

-- what an answer hands back
abbrev pub response_of : Response → Printing
response_of r = record { written = r.written; refusal = number_told r.refusal }

-- what is handed back for an allocation that was written, by its length, or refused: then it did not fit
abbrev pub written_hands : Result ℕ → Printing
written_hands (value n) = record { written = n; refusal = 0 }
written_hands (refused n) = record { written = 0; refusal = 4 }

-- printing the text s, which tells this refusal or 0, to an output of length room: nothing and 4 where it is shorter
unfoldable pub print_into : Text → ℕ → ℕ → Printing
print_into s refusal room = cond (ltb room (length s)) (record { written = 0; refusal = 4 }) (record { written = length s; refusal = refusal })

-- the answer r has the text s printed, which tells this refusal or 0, to an output that held old and then holds new
pub record Responds (r : Response) (s : Text) (refusal : ℕ) (old new : Text) : Type 0 where
  pub hands : response_of r ≡ print_into s refusal (length old)
  pub output : new ≡ onto_room s old

-- the answer r has printed what is printed for a series or for its refusal
abbrev pub RespondsFor : Response → Result Series → Text → Text → Type 0
RespondsFor r x old new = Responds r (lines_for x) (status x) old new

-- p hands back the whole text s, which tells this refusal or 0, and an output that holds new begins with it
pub record Whole (p : Printing) (s : Text) (refusal : ℕ) (new : Text) : Type 0 where
  pub handed : p ≡ record { written = length s; refusal = refusal }
  pub text : take (length s) new ≡ s
