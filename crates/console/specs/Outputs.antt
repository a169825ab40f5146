-- What is said to a person, and where nothing is.
use Rattle.std.specs.Prelude.{ℕ, ◌≡◌, ◌≤◌, List, [], ◌∷◌, ◌++◌, length, take, Option, IfNone}
use Rattle.std.specs.Io.KnownBytes.{Appends, Keeps}
use Rattle.responses.specs.declared.Response.{Response}

-- the program's name, a colon and a space, and so many of the words; of the first two a writer that fails may have taken less
abbrev pub Says : List ℕ → List ℕ → ℕ → Option (List ℕ) → Option (List ℕ) → Type 0
Says program words written old new = (named parted : ℕ) × Appends old new (take named program ++ (take parted (58 ∷ 32 ∷ []) ++ take written words))

-- where all that was printed for a call is written, and that is no refusal, nothing is said
abbrev pub SilentIfWhole : Response → ℕ → List ℕ → Option (List ℕ) → Option (List ℕ) → Type 0
SilentIfWhole r written output old new = IfNone r.refusal (r.written ≤ length output → written ≡ r.written → Keeps old new)
