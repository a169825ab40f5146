-- The verdict, the answer and the output of a listing, from those of its series.
use Prim.Native.Nat.{ℕ, ◌<◌}
use mathlib.Core.Path.{◌≡◌, sym, ap, subst, ◌∙◌}
use mathlib.Core.List.{List}
use lib.ListN.{length}
use Rattle.series.specs.Results.{Result, refused, value, ◌>>=◌, after}
use Rattle.series.specs.Outputs.{onto}
use Rattle.series.specs.Series.{Series, MOST_POSITIONS}
use Rattle.series.specs.Answers.{Allocation}
use Rattle.series.specs.Call.{answer, output, further, assigned}
use Rattle.series.specs.Fair.{FairOutput, AllocatingCall}
use Rattle.forms.specs.Forms.{Listing, read_as, differences, series_with, in_form, ListingCall}
use Rattle.forms.specs.declared.Form.{Form}
use Rattle.forms.proofs.FormLaws.{in_shorts}
use Rattle.forms.proofs.LastRows.{long_call}

-- fair amounts are fair in either form
fair_in : (a : Result Allocation) (s : Series) (new : List ℕ) → FairOutput a s new → FairOutput (in_form Form.LastNumbers a) s new
fair_in (refused n) s new h = tt
fair_in (value a) s new h = h

module _ (l : Listing) (a : Result Allocation) (old new : List ℕ) where
  -- the call on shorts
  pub called_by_shorts : l.form ≡ Form.Shorts → AllocatingCall (series_with l l.numbers) a old new → ListingCall l a old new
  called_by_shorts e call = record { answered = rw e (call.answered ∙ sym (in_shorts _)); written = rw e call.written; fair = rw e call.fair }

  -- the call on the shorts of last numbers
  pub called_by_differences : (hs : List ℕ) (b : Result Allocation) → hs ≡ differences 0 l.numbers → b ≡ in_form Form.LastNumbers a → AllocatingCall (series_with l hs) a old new → ListingCall (read_as Form.LastNumbers l) b old new
  called_by_differences hs b is eb call =
      let there = rw is at call in
      record {
        answered = eb ∙ ap (in_form Form.LastNumbers) there.answered;
        written = there.written;
        fair = subst (λ r. FairOutput r (series_with l (differences 0 l.numbers)) new) (sym eb) (fair_in a (series_with l (differences 0 l.numbers)) new there.fair);
      }

  -- the call on last numbers that are too many
  pub called_too_long : MOST_POSITIONS < length l.numbers → AllocatingCall (series_with l l.numbers) a old new → ListingCall (read_as Form.LastNumbers l) a old new
  unfolding answer output
  called_too_long many call =
      let long = long_call l.terms l.codes l.accounts l.numbers (length old) many in
      let refusal : a ≡ refused long.number = call.answered ∙ ap (λ v. v >>= (λ T. value (record { method = l.terms.method; total = T; further = further l.terms l.numbers }))) long.by_numbers in
      record {
        answered =
            refusal
            ∙ ap refused (sym long.both)
            ∙ ap (λ v. in_form Form.LastNumbers (v >>= (λ T. value (record { method = l.terms.method; total = T; further = further l.terms (differences 0 l.numbers) })))) (sym long.by_shorts);
        written =
            call.written
            ∙ ap (λ v. after v (λ _. onto (assigned l.terms l.numbers) old) old) long.by_numbers
            ∙ ap (λ v. after v (λ _. onto (assigned l.terms (differences 0 l.numbers)) old) old) (sym long.by_shorts);
        fair = subst (λ r. FairOutput r (series_with l (differences 0 l.numbers)) new) (sym refusal) tt;
      }
