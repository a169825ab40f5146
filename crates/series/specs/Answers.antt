-- The document's numbers and values for the types of src/.
use Rattle.std.specs.Prelude.{ℕ, Some, None, Ok, Err, Option as Option·, Result as Result·}
use Rattle.std.proofs.Math.Option.{Option, none, some}
use Rattle.series.specs.Results.{Result, refused, value}
use Rattle.series.specs.Series.{Series}
use Rattle.series.specs.declared.Refusal.{Refusal}
use Rattle.series.specs.declared.Refusal.TheVariants.{LengthsDiffer, TooManyPositions, NoPositions, OutputTooShort, OutOfOrder, NoShorts, TotalTooLarge, NothingExercised, ExercisedAboveTotal, DrawOutOfRange, TextTooLong, NamesLine, Malformed, UnknownMethod, TooManyLines}
use Rattle.series.specs.declared.Refusal.TheVariants.{CountTooLarge, ClosingPurchasesAboveShort, ExercisedAboveLimit, AccountRepeated, LastNotAbove, TooManyJobs, StretchMisplaced, IncrementOutOfRange, TooManyBlocks}
use Rattle.series.specs.declared.Method.{Method}
use Rattle.series.specs.declared.Terms.{Terms}
use Rattle.series.specs.declared.Place.{Place}
use Rattle.series.specs.declared.Positions.{Positions}
use Rattle.series.specs.declared.AccountList.{AccountList}
use Rattle.series.specs.declared.Series.{Series as Series·}
use Rattle.series.specs.declared.Allocated.{Allocated}

-- the number of a refusal
abbrev pub number_of : Refusal → ℕ
number_of LengthsDiffer = 1
number_of TooManyPositions = 2
number_of NoPositions = 3
number_of OutputTooShort = 4
number_of OutOfOrder = 5
number_of NoShorts = 6
number_of TotalTooLarge = 7
number_of NothingExercised = 8
number_of ExercisedAboveTotal = 9
number_of DrawOutOfRange = 10
number_of TextTooLong = 11
number_of NamesLine = 12
number_of Malformed = 13
number_of UnknownMethod = 14
number_of TooManyLines = 15
number_of CountTooLarge = 16
number_of ClosingPurchasesAboveShort = 17
number_of ExercisedAboveLimit = 18
number_of AccountRepeated = 19
number_of LastNotAbove = 20
number_of TooManyJobs = 21
number_of StretchMisplaced = 22
number_of IncrementOutOfRange = 23
number_of TooManyBlocks = 24

-- what an allocation hands back: T and one further number, which its method gives a meaning; none for L and R without a starting place
pub record Allocation : Type 0 where
  pub method : Method
  pub total : ℕ
  pub further : Option ℕ

-- the number that is handed back: 0 where there is none
abbrev pub handed_back : Option ℕ → ℕ
handed_back none = 0
handed_back (some n) = n

-- the starting place, or none
abbrev pub place_of : Option· Place → Option ℕ
place_of (Some p) = some p.0
place_of None = none

-- what each method hands back: T1 for W, the contracts of round two for P, the starting place for L and R, or none
abbrev pub allocation_of : Allocated → Allocation
allocation_of (Allocated.Wheel T T1) = record { method = Method.Wheel; total = T.0; further = some T1 }
allocation_of (Allocated.ProRata T left) = record { method = Method.ProRata; total = T.0; further = some left.0 }
allocation_of (Allocated.Lottery T p) = record { method = Method.Lottery; total = T.0; further = place_of p }
allocation_of (Allocated.RemainderDraw T p) = record { method = Method.RemainderDraw; total = T.0; further = place_of p }

-- what a call comes to, by what its value hands back: that, or the number of its refusal
abbrev pub outcome_of : {A B : Type 0} → (A → B) → Result· A Refusal → Result B
outcome_of f (Ok a) = value (f a)
outcome_of f (Err r) = refused (number_of r)

-- the number that such a call answers C: 0, or that of the refusal
abbrev pub status_of : {A : Type 0} → Result· A Refusal → ℕ
status_of (Ok a) = 0
status_of (Err r) = number_of r

-- what the allocating call comes to
abbrev pub answer_of : Result· Allocated Refusal → Result Allocation
answer_of a = outcome_of allocation_of a

-- the positions with the accounts for codes
abbrev pub coded_by_account : AccountList → Positions
coded_by_account l = record { codes = l.accounts; accounts = l.accounts; shorts = l.shorts }

-- the accounts and shorts of the positions
abbrev pub without_codes : Positions → AccountList
without_codes p = record { accounts = p.accounts; shorts = p.shorts }

-- the series of these positions under other terms
abbrev pub series_on : Terms → Positions → Series
series_on t p = record { terms = t; codes = p.codes.now; accounts = p.accounts.now; shorts = p.shorts.now }

-- the series
abbrev pub series_of : Series· → Series
series_of s = series_on s.terms s.positions
