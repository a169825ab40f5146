-- What the two rounds make of the call.
use Prim.Native.Nat.{ℕ}
use mathlib.Core.Path.{◌≡◌, refl, ap₂, ◌∙◌}
use mathlib.Core.Option.{some}
use mathlib.Core.List.{List, ◌++◌}
use lib.ListN.{length, drop}
use Rattle.series.specs.Results.{Result, refused, value}
use Rattle.series.specs.Series.{Series, DEFAULT_INCREMENT, Given, terms_of}
use Rattle.series.specs.Refusals.{verdict}
use Rattle.series.specs.ProRata.{pro_rata, remainder}
use Rattle.series.specs.Answers.{Allocation}
use Rattle.series.specs.Call.{assigned, further}
use Rattle.series.specs.Fair.{AllocatingCall}
use Rattle.series.specs.declared.Method.{Method}
use Rattle.series.specs.declared.Terms.{Terms}
use Rattle.series.proofs.CallLaws.{not_wheel, codes_unseen}
use Rattle.series.proofs.IncrementLaws.{call_by_terms}
use Rattle.judging.specs.Assigning.{Assigns}
use Rattle.judging.specs.Judged.{ListOf}
use Rattle.judging.specs.declared.judged_list.JudgedList.{JudgedList}
use Rattle.judging.proofs.CallLaws.{call_refused, call_allocated}

-- what the two rounds make of a judged list
module _ (l : JudgedList) where
  abbrev hs : List ℕ
  hs = l.shorts.now

  abbrev S : ℕ
  S = l.exercised.0

  -- the answer, with the contracts of round two
  abbrev pub answered : ℕ → Result Allocation
  answered r = value (record { method = Method.ProRata; total = l.total.0; further = some r })

  pro_rata_gives : (t : Terms) → S ≡ t.exercised.0 → t.method ≡ Method.ProRata → (r : ℕ) (vs : List ℕ) → r ≡ remainder hs S → vs ≡ pro_rata hs S t.draw → Assigns t hs (answered r) vs
  unfolding further assigned
  pro_rata_gives t es e r vs er ev =
      record {
        answered = rw (e, ← es) (ap₂ (λ x f. value (record { method = Method.ProRata; total = x; further = some f })) l.sum er);
        written = rw (e, ← es) ev;
      }

-- a call under P, with these codes and the default increment, of which an allocation is told neither
module _ (S draw : ℕ) (accounts shorts old : List ℕ) where
  abbrev called : List ℕ → Series
  called codes = record { terms = terms_of Method.ProRata S draw DEFAULT_INCREMENT; codes = codes; accounts = accounts; shorts = shorts }

  -- what judging it without codes answers
  abbrev pub Judged : Result ℕ → Type 0
  Judged v = v ≡ verdict (called accounts) (length old)

  by_codes : (v : Result ℕ) → Judged v → (codes : List ℕ) → v ≡ verdict (called codes) (length old)
  by_codes v e codes = e ∙ codes_unseen (terms_of Method.ProRata S draw DEFAULT_INCREMENT) accounts codes accounts shorts (length old) (not_wheel Method.ProRata refl)

  -- what the call then answers and writes, by any codes and terms that it may have been given
  abbrev pub Allocates : Result Allocation → List ℕ → Type 0
  Allocates a new = (t : Terms) (codes : List ℕ) → Given t Method.ProRata S draw → AllocatingCall (record { terms = t; codes = codes; accounts = accounts; shorts = shorts }) a old new

  pub allocate_refused : (n : ℕ) → Judged (refused n) → Allocates (refused n) old
  allocate_refused n v t codes given = call_by_terms t _ _ _ _ codes accounts shorts (not_wheel Method.ProRata refl) given (call_refused (called codes) old n (by_codes (refused n) v codes))

  pub allocate_assigned : (l : JudgedList) → Judged (value l.total.0) → ListOf shorts S (length old) l → (r : ℕ) (vs : List ℕ) → r ≡ remainder l.shorts.now l.exercised.0 → vs ≡ pro_rata l.shorts.now l.exercised.0 draw
      → Allocates (answered l r) (vs ++ drop (length l.shorts.now) old)
  allocate_assigned l v of r vs er ev t codes given =
      call_by_terms t _ _ _ _ codes accounts shorts (not_wheel Method.ProRata refl) given
      (call_allocated (called codes) old l (by_codes (value l.total.0) v codes) of _ vs (pro_rata_gives l (called codes).terms of.exercised_is refl r vs er ev))
