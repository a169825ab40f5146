-- Merged lists (document 02): two lists of one series, both rising by account, into one.
use Rattle.std.specs.Prelude.{ℕ, ◌+◌, ◌≡◌, ◌||◌, cond, List, [], ◌∷◌, map, ltb, length, Result as Result·}
use Rattle.series.specs.Results.{Result, value, ◌>>=◌, after}
use Rattle.series.specs.Outputs.{onto, Lent}
use Rattle.series.specs.Places.{total}
use Rattle.series.specs.Series.{MOST_POSITIONS, MOST_CONTRACTS}
use Rattle.series.specs.Refusals.{Row, ◌⟶◌∣◌, first, list_verdict}
use Rattle.series.specs.Answers.{outcome_of}
use Rattle.series.specs.declared.Method.{Method}
use Rattle.series.specs.declared.Refusal.{Refusal}
use Rattle.series.specs.declared.AccountList.{AccountList}
use Rattle.merging.specs.declared.Merged.{Merged}

-- a position: an account and its short contracts
pub record Position : Type 0 where
  pub account : ℕ
  pub shorts : ℕ

-- a list of positions as a call takes it: the accounts, and the shorts beside them
pub record PositionList : Type 0 where
  pub accounts : List ℕ
  pub shorts : List ℕ

-- the list with these accounts and shorts
abbrev pub list_of : List ℕ → List ℕ → PositionList
list_of accounts shorts = record { accounts = accounts; shorts = shorts }

-- the list that a call is given
abbrev pub account_list_of : AccountList → PositionList
account_list_of l = list_of l.accounts.now l.shorts.now

-- the positions of accounts and the shorts beside them
unfoldable pub paired : List ℕ → List ℕ → List Position
paired [] hs = []
paired (a ∷ rest) [] = []
paired (a ∷ rest) (h ∷ hs) = record { account = a; shorts = h } ∷ paired rest hs

-- the positions of a list
abbrev pub positions : PositionList → List Position
positions l = paired l.accounts l.shorts

-- the accounts of positions
abbrev pub accounts_of : List Position → List ℕ
accounts_of ps = map (λ p. p.account) ps

-- the shorts of positions
abbrev pub shorts_of : List Position → List ℕ
shorts_of ps = map (λ p. p.shorts) ps

-- an account that both lists have, its shorts added
abbrev pub added : Position → Position → Position
added p q = record { account = p.account; shorts = p.shorts + q.shorts }

-- the merged list: the smaller account first, and an account that both lists have once
unfoldable pub merged : List Position → List Position → List Position
merged [] qs = qs
merged (p ∷ ps) [] = p ∷ ps
merged (p ∷ ps) (q ∷ qs) =
    cond (ltb p.account q.account) (p ∷ merged ps (q ∷ qs))
    (cond (ltb q.account p.account) (q ∷ merged (p ∷ ps) qs)
    (added p q ∷ merged ps qs))

-- the merged list of two lists
abbrev pub merged_of : PositionList → PositionList → List Position
merged_of one two = merged (positions one) (positions two)

-- judging one of the lists: the refusals of a list that rises by account, 4 excepted. P, L and R judge it alike, and so does W where every code is its account
abbrev pub judged_alone : PositionList → Result ℕ
judged_alone l = list_verdict Method.ProRata l.accounts l.accounts l.shorts

-- then the merged list: 2 and 7, and 4 where either output is shorter than it
unfoldable pub merged_rows : List Position → ℕ → ℕ → List Row
merged_rows ps accountsRoom shortsRoom =
    ltb MOST_POSITIONS (length ps) ⟶ 2 ∣
    ltb MOST_CONTRACTS (total (shorts_of ps)) ⟶ 7 ∣
    (ltb accountsRoom (length ps) || ltb shortsRoom (length ps)) ⟶ 4 ∣
    []

-- judging the merged list, also against outputs of these lengths
unfoldable pub judged_merged : PositionList → PositionList → ℕ → ℕ → Result (List Position)
judged_merged one two accountsRoom shortsRoom = first (merged_rows (merged_of one two) accountsRoom shortsRoom) (merged_of one two)

-- merging two lists into outputs of these lengths: the first list's refusal, then the second's, then the merged list's
unfoldable pub merge_into : PositionList → PositionList → ℕ → ℕ → Result (List Position)
merge_into one two accountsRoom shortsRoom = do
  T ← judged_alone one
  U ← judged_alone two
  judged_merged one two accountsRoom shortsRoom

-- what a call hands back: the number of positions of the merged list, and its T
pub record Handed : Type 0 where
  pub positions : ℕ
  pub total : ℕ

-- those of a call that comes to r
unfoldable pub handed : Result (List Position) → Result Handed
handed r = do
  ps ← r
  value (record { positions = length ps; total = total (shorts_of ps) })

-- what merging comes to: what it hands back, or the number of the refusal
abbrev pub merging_of : Result· Merged Refusal → Result Handed
merging_of r = outcome_of (λ m. record { positions = m.positions; total = m.total.0 }) r

-- the outputs of a call that comes to r: the merged list and what stood past it, or all that stood there
pub record ListsMerged (r : Result (List Position)) (accounts shorts : Lent (List ℕ)) : Type 0 where
  pub writes_accounts : accounts.new ≡ after r (λ ps. onto (accounts_of ps) accounts.old) accounts.old
  pub writes_shorts : shorts.new ≡ after r (λ ps. onto (shorts_of ps) shorts.old) shorts.old

-- a call that comes to r answers a, and writes both outputs
pub record Merges (r : Result (List Position)) (a : Result Handed) (accounts shorts : Lent (List ℕ)) : Type 0 where
  pub answered : a ≡ handed r
  pub written : ListsMerged r accounts shorts

-- the merging call on two lists
abbrev pub MergingCall : PositionList → PositionList → Result Handed → Lent (List ℕ) → Lent (List ℕ) → Type 0
MergingCall one two a accounts shorts = Merges (merge_into one two (length accounts.old) (length shorts.old)) a accounts shorts
