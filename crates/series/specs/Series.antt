-- A series, and how large it may be.
use Rattle.std.specs.Prelude.{ℕ, ◌≡◌, List}
use Rattle.series.specs.Places.{total}
use Rattle.series.specs.declared.Method.{Method}
use Rattle.series.specs.declared.Terms.{Terms}

-- at most so many positions
abbrev pub MOST_POSITIONS : ℕ
MOST_POSITIONS = 4096

-- T is at most so many contracts
abbrev pub MOST_CONTRACTS : ℕ
MOST_CONTRACTS = 10000000

-- the increment where none is given
abbrev pub DEFAULT_INCREMENT : ℕ
DEFAULT_INCREMENT = 25

-- the terms of a method, S, a draw and an increment
abbrev pub terms_of : Method → ℕ → ℕ → ℕ → Terms
terms_of m S draw I = record { method = m; exercised = record { 0 = S }; draw = draw; increment = record { 0 = I } }

-- the terms t have this method, S and draw, whatever their increment
pub record Given (t : Terms) (m : Method) (S d : ℕ) : Type 0 where
  pub given_method : t.method ≡ m
  pub given_exercised : t.exercised.0 ≡ S
  pub given_draw : t.draw ≡ d

-- the same terms with another draw
unfoldable pub redrawn : ℕ → Terms → Terms
redrawn d t = record { method = t.method; exercised = t.exercised; draw = d; increment = t.increment }

-- a series: its terms, and the list of its short positions, a code, an account and its shorts each
pub record Series : Type 0 where
  pub terms : Terms
  pub codes : List ℕ
  pub accounts : List ℕ
  pub shorts : List ℕ

abbrev pub method : Series → Method
method s = s.terms.method

-- S, the number of contracts exercised
abbrev pub exercised : Series → ℕ
exercised s = s.terms.exercised.0

abbrev pub draw : Series → ℕ
draw s = s.terms.draw

-- the assignment increment, which W alone looks at
abbrev pub increment : Series → ℕ
increment s = s.terms.increment.0

-- T, the sum of all shorts
abbrev pub held : Series → ℕ
held s = total s.shorts

-- what is given for each method: W, P, L, R
abbrev pub by_method : {A : Type 0} → Method → A → A → A → A → A
by_method Method.Wheel w p l r = w
by_method Method.ProRata w p l r = p
by_method Method.Lottery w p l r = l
by_method Method.RemainderDraw w p l r = r

-- what the list rises by: the codes under W, the accounts under P, L and R
abbrev pub ordered_by : Method → List ℕ → List ℕ → List ℕ
ordered_by m codes accounts = by_method m codes accounts accounts accounts

-- what a series rises by
abbrev pub order : Series → List ℕ
order s = ordered_by (method s) s.codes s.accounts
