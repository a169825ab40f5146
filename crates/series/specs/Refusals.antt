-- Where the allocating call is turned away: the rows of document 01's table from "list, its length" down, with document 02's 19, 23 and 24.
use Rattle.std.specs.Prelude.{ℕ, ◌+◌, ◌≡◌, Bool, false, not, ◌||◌, ◌&&◌, cond, List, [], ◌∷◌, ◌++◌, eqb, ltb, leb, length}
use Rattle.series.specs.Results.{Result, refused, value}
use Rattle.series.specs.Places.{total}
use Rattle.series.specs.Series.{Series, MOST_POSITIONS, MOST_CONTRACTS, method, held, by_method, ordered_by, order}
use Rattle.series.specs.Wheel.{MOST_INCREMENT, MOST_BLOCKS, blocks}
use Rattle.series.specs.Lottery.{unstarted}
use Rattle.series.specs.declared.Method.{Method}
use Rattle.series.specs.declared.Terms.{Terms}

-- a row of the table: whether its condition holds, and its number
pub record Row : Type 0 where
  pub holds : Bool
  pub number : ℕ

infixr 5 ◌⟶◌∣◌
-- a condition, its number, and the rows below
abbrev pub ◌⟶◌∣◌ : Bool → ℕ → List Row → List Row
c ⟶ n ∣ rows = record { holds = c; number = n } ∷ rows

-- the first row that applies is the refusal; where none does, the value
unfoldable pub first : {A : Type 0} → List Row → A → Result A
first [] a = value a
first (r ∷ rows) a = cond r.holds (refused r.number) (first rows a)

-- no row applies
unfoldable pub NoneApplies : List Row → Type 0
NoneApplies [] = Unit
NoneApplies (r ∷ rows) = (r.holds ≡ false) × NoneApplies rows

-- list, its length: accounts and shorts, and under W the codes too; order is what the list rises by
unfoldable pub length_rows : List ℕ → List ℕ → List ℕ → List Row
length_rows order accounts shorts =
    (not (eqb (length accounts) (length shorts)) || not (eqb (length order) (length shorts))) ⟶ 1 ∣
    ltb MOST_POSITIONS (length shorts) ⟶ 2 ∣
    eqb (length shorts) 0 ⟶ 3 ∣
    []

-- list, its length, against the output; room is the length of the output
unfoldable pub room_rows : List ℕ → ℕ → List Row
room_rows shorts room = ltb room (length shorts) ⟶ 4 ∣ []

-- the number stands in the list
unfoldable pub stands_in : ℕ → List ℕ → Bool
stands_in n [] = false
stands_in n (m ∷ ms) = eqb n m || stands_in n ms

-- the rows without those of these numbers
unfoldable pub without : List ℕ → List Row → List Row
without ns [] = []
without ns (r ∷ rows) = cond (stands_in r.number ns) (without ns rows) (r ∷ without ns rows)

-- under W: the account is 0, or stands earlier in the list. P, L and R judge its order alone
unfoldable pub account_refused : Method → List ℕ → ℕ → Bool
account_refused m earlier a = by_method m (eqb a 0 || stands_in a earlier) false false false

-- list, each position in turn, by its number in the order, its account and its shorts:
-- after the accounts earlier in the list, the number before it (0 for the first) and the sum of the shorts before it
unfoldable pub position_rows : Method → List ℕ → ℕ → ℕ → List ℕ → List ℕ → List ℕ → List Row
position_rows m earlier before sum [] rest hs = []
position_rows m earlier before sum (k ∷ ks) [] hs = []
position_rows m earlier before sum (k ∷ ks) (a ∷ rest) [] = []
position_rows m earlier before sum (k ∷ ks) (a ∷ rest) (h ∷ hs) =
    (eqb k 0 || leb k before) ⟶ 5 ∣
    account_refused m earlier a ⟶ 19 ∣
    eqb h 0 ⟶ 6 ∣
    ltb MOST_CONTRACTS (sum + h) ⟶ 7 ∣
    position_rows m (a ∷ earlier) k (sum + h) ks rest hs

-- exercised
unfoldable pub exercised_rows : ℕ → ℕ → List Row
exercised_rows T S = eqb S 0 ⟶ 8 ∣ ltb T S ⟶ 9 ∣ []

-- the number is outside 1 to most
unfoldable pub outside : ℕ → ℕ → Bool
outside most n = eqb n 0 || ltb most n

-- the blocks are too many: S is less than T, and T1 above 1,000,000
unfoldable pub too_many_blocks : ℕ → ℕ → ℕ → Bool
too_many_blocks I T S = ltb S T && ltb MOST_BLOCKS (blocks I S)

-- increment, under W only: 1 to 1,000, and then not too many blocks
unfoldable pub increment_rows : Terms → ℕ → List Row
increment_rows t T = by_method t.method (outside MOST_INCREMENT t.increment.0 ⟶ 23 ∣ too_many_blocks t.increment.0 T t.exercised.0 ⟶ 24 ∣ []) [] [] []

-- decided before the draw: S equals T, under W, L and R; then, under L and R only, one position. n is the number of positions
unfoldable pub undrawn : Terms → ℕ → ℕ → Bool
undrawn t T n = by_method t.method (eqb t.exercised.0 T) false (unstarted T n t.exercised.0) (unstarted T n t.exercised.0)

-- draw: 1 to T under W, any under P, 1 to 10,000 under L, any under R
unfoldable pub draw_rows : Terms → ℕ → List Row
draw_rows t T = by_method t.method (outside T t.draw ⟶ 10 ∣ []) [] (outside 10000 t.draw ⟶ 10 ∣ []) []

-- then the draw, where nothing is decided before it
unfoldable pub then_draw_rows : Terms → ℕ → ℕ → List Row
then_draw_rows t T n = cond (undrawn t T n) [] (draw_rows t T)

-- the terms' rows: exercised, the increment, the draw. n is the number of positions
unfoldable pub terms_rows : Terms → ℕ → ℕ → List Row
terms_rows t T n = exercised_rows T t.exercised.0 ++ (increment_rows t T ++ then_draw_rows t T n)

-- the list's rows; room is the length of the output
unfoldable pub list_rows : Method → List ℕ → List ℕ → List ℕ → ℕ → List Row
list_rows m order accounts shorts room = length_rows order accounts shorts ++ (room_rows shorts room ++ position_rows m [] 0 0 order accounts shorts)

-- the table, from top to bottom
unfoldable pub rows : Series → ℕ → List Row
rows s room = list_rows (method s) (order s) s.accounts s.shorts room ++ terms_rows s.terms (held s) (length s.shorts)

-- judging a call: T, or the first refusal that it meets
unfoldable pub verdict : Series → ℕ → Result ℕ
verdict s room = first (rows s room) (held s)

-- judging a list that rises by order, its positions alone: T, or the first refusal that they meet
abbrev pub positions_verdict : Method → List ℕ → List ℕ → List ℕ → Result ℕ
positions_verdict m order accounts shorts = first (position_rows m [] 0 0 order accounts shorts) (total shorts)

-- judging a list that rises by order, with no S or draw; room is the length of an output
abbrev pub list_verdict_for : Method → List ℕ → List ℕ → List ℕ → ℕ → Result ℕ
list_verdict_for m order accounts shorts room = first (list_rows m order accounts shorts room) (total shorts)

-- judging a list alone: the list's refusals except 4, so that no room is looked at
unfoldable pub list_verdict : Method → List ℕ → List ℕ → List ℕ → Result ℕ
list_verdict m codes accounts shorts = first (without (4 ∷ []) (list_rows m (ordered_by m codes accounts) accounts shorts 0)) (total shorts)

-- the series is accepted: none of the call's refusals applies to it, 4 and 10 left aside
unfoldable pub Accepted : Series → ℕ → Type 0
Accepted s room = NoneApplies (without (4 ∷ 10 ∷ []) (rows s room))
