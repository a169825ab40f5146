-- Laws of results: a refusal is no value, and what a value came from.
use Prim.Native.Nat.{ℕ}
use mathlib.Core.Path.{◌≡◌, refl, ap}
use mathlib.Core.Bool.{Bool, true, false}
use native.Mathlib.Omega.{arith}
use Rattle.std.specs.Prelude.{Ok, Err, IsErrAnd, Result as Result·}
use Rattle.series.specs.Results.{Result, refused, value, ◌>>=◌, refuse}
use Rattle.series.specs.declared.Refusal.{Refusal}

pub never : {A : Type 0} (n : ℕ) (a : A) → refused n ≡ value a → ⊥
never n a h = let z : ◌≡◌ {A = ℕ} 0 1 = cc in omega arith

pub value_is : {A : Type 0} {a b : A} → value a ≡ value b → a ≡ b
value_is e = cc

-- a step whose value is gone on from
pub record Stepped (A B : Type 0) (r : Result A) (f : A → Result B) (b : B) : Type 0 where
  pub from : A
  pub step : r ≡ value from
  pub on : f from ≡ value b

-- a value that came after a step: the step was a value too
pub stepped : {A B : Type 0} (r : Result A) (f : A → Result B) (b : B) → (r >>= f) ≡ value b → Stepped A B r f b
stepped (refused n) f b e = absurd (never n b e)
stepped (value a) f b e = record { from = a; step = refl; on = e }

-- a test that does not refuse
pub not_refused : {A : Type 0} (t : Bool) (n : ℕ) (a b : A) → refuse t n a ≡ value b → (t ≡ false) × (a ≡ b)
not_refused true n a b e = absurd (never n b e)
not_refused false n a b e = (refl, cc)

-- what a `?` hands back is the refusal that it met
pub refusal_met : {A : Type 0} (r : Result· A Refusal) (e : Refusal) → IsErrAnd r (λ y. y ≡ e) → r ≡ Err e
refusal_met (Ok a) e h = absurd h
refusal_met (Err y) e h = ap (λ x. Err x) h
