-- What a call comes to: a value, or the number of the refusal that it meets first.
use Rattle.std.specs.Prelude.{ℕ, Bool, true, false}

pub data Result (A : Type 0) : Type 0 where
  refused : ℕ → Result A
  value : A → Result A

infixl 10 ◌>>=◌
-- the first refusal is the answer
abbrev pub ◌>>=◌ : {A B : Type 0} → Result A → (A → Result B) → Result B
refused n >>= f = refused n
value a >>= f = f a

-- refusal n where the condition holds, else the value
abbrev pub refuse : {A : Type 0} → Bool → ℕ → A → Result A
refuse true n a = refused n
refuse false n a = value a

-- what stands in an output after a call: what its value gives, and after a refusal what stood there
abbrev pub after : {A B : Type 0} → Result A → (A → B) → B → B
after (refused n) f old = old
after (value a) f old = f a

-- the number that a call for C answers: 0, or that of the refusal
abbrev pub status : {A : Type 0} → Result A → ℕ
status (refused n) = n
status (value a) = 0
