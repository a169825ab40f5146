-- What judging a list answers, and what the walks over its positions tell.
use Rattle.std.specs.Prelude.{ℕ, ◌-◌, ◌≡◌, ◌&&◌, ◌++◌, Bool, true, false, cond, eqb, ltb, List, [], ◌∷◌, Some, None, Ok, Err, Option as Option·, Result as Result·}
use Rattle.series.specs.Results.{Result, refused, value}
use Rattle.series.specs.Refusals.{first, length_rows, room_rows}
use Rattle.series.specs.Answers.{number_of, outcome_of}
use Rattle.series.specs.declared.Contracts.{Contracts}
use Rattle.series.specs.declared.Refusal.{Refusal}

-- what judging comes to: T, or the number of the refusal
abbrev pub judged_of : Result· Contracts Refusal → Result ℕ
judged_of j = outcome_of (λ T. T.0) j

-- judging the lengths of a list alone, also against room, the length of an output
abbrev pub lengths_verdict : List ℕ → List ℕ → List ℕ → ℕ → Result Unit
lengths_verdict order accounts shorts room = first (length_rows order accounts shorts ++ room_rows shorts room) tt

-- what is left of the most contracts after the shorts n of a position: 6 where there are none, 7 where there are too many
abbrev pub left_after : ℕ → ℕ → Result ℕ
left_after n left = cond (eqb n 0) (refused 6) (cond (ltb left n) (refused 7) (value (left - n)))

-- what a walk over rising accounts answers: T, a refusal, or none, where an account does not rise
abbrev pub Walk : Type 0
Walk = Result· (Option· Contracts) Refusal

-- what a walk tells of the verdict v of its list: this is it, or nothing, where an account does not rise
abbrev pub WalkTells : Walk → Result ℕ → Type 0
WalkTells (Ok (Some T)) v = value T.0 ≡ v
WalkTells (Ok None) v = Unit {0}
WalkTells (Err r) v = refused (number_of r) ≡ v

-- each number is above the one before it, and the first above b
unfoldable pub rises : ℕ → List ℕ → Bool
rises b [] = true
rises b (n ∷ ns) = ltb b n && rises n ns

-- none is answered only where the accounts do not rise, and the list rises by something else
abbrev pub FallsOnly : Walk → List ℕ → List ℕ → Type 0
FallsOnly (Ok (Some T)) order accounts = Unit {0}
FallsOnly (Ok None) order accounts = (order ≡ accounts → ⊥) × (rises 0 accounts ≡ false)
FallsOnly (Err r) order accounts = Unit {0}
