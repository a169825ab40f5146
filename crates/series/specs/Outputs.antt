-- What a lent list holds after a call has written to it.
use Rattle.std.specs.Prelude.{ℕ, cond, List, ◌++◌, ltb, length, drop}

-- the values vs, and past them what stood there
unfoldable pub onto : List ℕ → List ℕ → List ℕ
onto vs old = vs ++ drop (length vs) old

-- the values vs where there is room for them, else all that stood there
unfoldable pub onto_room : List ℕ → List ℕ → List ℕ
onto_room vs old = cond (ltb (length old) (length vs)) old (onto vs old)

-- what stood behind an argument of a call, and what stands there after it
pub record Lent (A : Type 0) : Type 0 where
  pub old : A
  pub new : A

-- both by their values
abbrev pub lent : {A : Type 0} → A → A → Lent A
lent old new = record { old = old; new = new }
