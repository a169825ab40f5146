-- Pairs of lists with known answers, proved of the definitions by computation. The law:
--   claims-known    each pair comes to what is claimed: its answer, and both outputs
use Prim.Native.Nat.{ℕ, zero, suc}
use mathlib.Core.Path.{◌≡◌, refl}
use mathlib.Core.List.{List, [], ◌∷◌, map}
use lib.ListN.{length, replicate}
use Rattle.series.specs.Results.{Result, refused, value, after}
use Rattle.series.specs.Outputs.{onto}
use Rattle.series.specs.Places.{total}
use Rattle.series.specs.Refusals.{first, stands_in, without, length_rows, room_rows, account_refused, position_rows, list_rows, list_verdict}
use Rattle.merging.specs.Merging.{PositionList, list_of, paired, accounts_of, shorts_of, merged, merged_rows, judged_merged, merge_into, Handed, handed}

-- a call: two lists and both outputs
pub record Call : Type 0 where
  pub one : PositionList
  pub two : PositionList
  pub accounts : List ℕ
  pub shorts : List ℕ

-- what it comes to: its answer, and both outputs
pub record Settled : Type 0 where
  pub answered : Result Handed
  pub accounts : List ℕ
  pub shorts : List ℕ

-- a call, and what it is claimed to come to
pub record Claim : Type 0 where
  pub called : Call
  pub comes_to_is : Settled

unfoldable pub settled : Call → Settled
unfolding total first stands_in without length_rows room_rows account_refused position_rows list_rows list_verdict onto paired merged merged_rows judged_merged merge_into handed
settled c =
    let r = merge_into c.one c.two (length c.accounts) (length c.shorts) in
    record {
      answered = handed r;
      accounts = after r (λ ps. onto (accounts_of ps) c.accounts) c.accounts;
      shorts = after r (λ ps. onto (shorts_of ps) c.shorts) c.shorts;
    }

-- two lists, and outputs of so many elements, all 7
abbrev call : PositionList → PositionList → ℕ → ℕ → Call
call one two accountsRoom shortsRoom = record { one = one; two = two; accounts = replicate accountsRoom 7; shorts = replicate shortsRoom 7 }

-- the number of positions, T, and what then stands in the outputs
abbrev comes_to : ℕ → ℕ → List ℕ → List ℕ → PositionList → PositionList → ℕ → ℕ → Claim
comes_to n T accounts shorts one two accountsRoom shortsRoom =
    record { called = call one two accountsRoom shortsRoom; comes_to_is = record { answered = value (record { positions = n; total = T }); accounts = accounts; shorts = shorts } }

-- the number of the refusal, and both outputs as they were
abbrev refused_by : ℕ → PositionList → PositionList → ℕ → ℕ → Claim
refused_by n one two accountsRoom shortsRoom =
    record { called = call one two accountsRoom shortsRoom; comes_to_is = record { answered = refused n; accounts = replicate accountsRoom 7; shorts = replicate shortsRoom 7 } }

-- a list without a fault
abbrev good : PositionList
good = list_of (1 ∷ 2 ∷ []) (1 ∷ 1 ∷ [])

-- n accounts from a on
unfoldable counting : ℕ → ℕ → List ℕ
counting a zero = []
counting a (suc n) = a ∷ counting (suc a) n

-- the accounts 1 to n, with one contract each
abbrev ones : ℕ → PositionList
ones n = list_of (counting 1 n) (replicate n 1)

pub claims : List Claim
unfolding counting
claims =
    -- interleaved, with an account in both, and an element of each output past the merged list
    comes_to 5 75 (1 ∷ 2 ∷ 5 ∷ 7 ∷ 9 ∷ 7 ∷ []) (4 ∷ 30 ∷ 20 ∷ 20 ∷ 1 ∷ 7 ∷ []) (list_of (2 ∷ 5 ∷ 9 ∷ []) (30 ∷ 8 ∷ 1 ∷ [])) (list_of (1 ∷ 5 ∷ 7 ∷ []) (4 ∷ 12 ∷ 20 ∷ [])) 6 6 ∷
    -- disjoint: the first below the second, and above it
    comes_to 4 18 (1 ∷ 2 ∷ 8 ∷ 9 ∷ []) (3 ∷ 4 ∷ 5 ∷ 6 ∷ []) (list_of (1 ∷ 2 ∷ []) (3 ∷ 4 ∷ [])) (list_of (8 ∷ 9 ∷ []) (5 ∷ 6 ∷ [])) 4 4 ∷
    comes_to 4 18 (1 ∷ 2 ∷ 8 ∷ 9 ∷ []) (3 ∷ 4 ∷ 5 ∷ 6 ∷ []) (list_of (8 ∷ 9 ∷ []) (5 ∷ 6 ∷ [])) (list_of (1 ∷ 2 ∷ []) (3 ∷ 4 ∷ [])) 4 4 ∷
    -- equal, into outputs of different lengths
    comes_to 2 33 (3 ∷ 4 ∷ []) (11 ∷ 22 ∷ 7 ∷ 7 ∷ []) (list_of (3 ∷ 4 ∷ []) (1 ∷ 2 ∷ [])) (list_of (3 ∷ 4 ∷ []) (10 ∷ 20 ∷ [])) 2 4 ∷
    -- one contained in the other: its middle, its end, its beginning
    comes_to 3 27 (1 ∷ 2 ∷ 3 ∷ []) (5 ∷ 15 ∷ 7 ∷ []) (list_of (1 ∷ 2 ∷ 3 ∷ []) (5 ∷ 6 ∷ 7 ∷ [])) (list_of (2 ∷ []) (9 ∷ [])) 3 3 ∷
    comes_to 3 27 (1 ∷ 2 ∷ 3 ∷ []) (5 ∷ 6 ∷ 16 ∷ []) (list_of (3 ∷ []) (9 ∷ [])) (list_of (1 ∷ 2 ∷ 3 ∷ []) (5 ∷ 6 ∷ 7 ∷ [])) 3 3 ∷
    comes_to 3 27 (1 ∷ 2 ∷ 3 ∷ []) (14 ∷ 6 ∷ 7 ∷ []) (list_of (1 ∷ 2 ∷ 3 ∷ []) (5 ∷ 6 ∷ 7 ∷ [])) (list_of (1 ∷ []) (9 ∷ [])) 3 3 ∷
    -- the smallest and the largest account, and one position in both
    comes_to 2 2 (1 ∷ 4294967295 ∷ []) (1 ∷ 1 ∷ []) (list_of (4294967295 ∷ []) (1 ∷ [])) (list_of (1 ∷ []) (1 ∷ [])) 2 2 ∷
    comes_to 1 2 (4294967295 ∷ []) (2 ∷ []) (list_of (4294967295 ∷ []) (1 ∷ [])) (list_of (4294967295 ∷ []) (1 ∷ [])) 1 1 ∷
    -- a first list at fault: 1, 3, 5 by 0, by an equal and by a smaller account, 6, 7
    refused_by 1 (list_of (1 ∷ 2 ∷ []) (1 ∷ [])) good 4 4 ∷
    refused_by 3 (list_of [] []) good 4 4 ∷
    refused_by 5 (list_of (0 ∷ 2 ∷ []) (1 ∷ 1 ∷ [])) good 4 4 ∷
    refused_by 5 (list_of (1 ∷ 1 ∷ []) (1 ∷ 1 ∷ [])) good 4 4 ∷
    refused_by 5 (list_of (2 ∷ 1 ∷ []) (1 ∷ 1 ∷ [])) good 4 4 ∷
    refused_by 6 (list_of (1 ∷ 2 ∷ []) (1 ∷ 0 ∷ [])) good 4 4 ∷
    refused_by 7 (list_of (1 ∷ 2 ∷ []) (10000000 ∷ 1 ∷ [])) good 4 4 ∷
    -- a second list at fault, by the same
    refused_by 1 good (list_of (1 ∷ 2 ∷ []) (1 ∷ [])) 4 4 ∷
    refused_by 3 good (list_of [] []) 4 4 ∷
    refused_by 5 good (list_of (0 ∷ 2 ∷ []) (1 ∷ 1 ∷ [])) 4 4 ∷
    refused_by 5 good (list_of (1 ∷ 1 ∷ []) (1 ∷ 1 ∷ [])) 4 4 ∷
    refused_by 5 good (list_of (2 ∷ 1 ∷ []) (1 ∷ 1 ∷ [])) 4 4 ∷
    refused_by 6 good (list_of (1 ∷ 2 ∷ []) (1 ∷ 0 ∷ [])) 4 4 ∷
    refused_by 7 good (list_of (1 ∷ 2 ∷ []) (10000000 ∷ 1 ∷ [])) 4 4 ∷
    -- both at fault: the first's comes first, though its number is larger
    refused_by 7 (list_of (1 ∷ 2 ∷ []) (10000000 ∷ 1 ∷ [])) (list_of (1 ∷ 2 ∷ []) (1 ∷ [])) 4 4 ∷
    refused_by 6 (list_of (1 ∷ []) (0 ∷ [])) (list_of [] []) 4 4 ∷
    -- in one position 5 before 6; 6 in an earlier position before 5 in a later one
    refused_by 5 (list_of (2 ∷ 1 ∷ []) (1 ∷ 0 ∷ [])) good 4 4 ∷
    refused_by 6 (list_of (1 ∷ 2 ∷ 2 ∷ []) (1 ∷ 0 ∷ 1 ∷ [])) good 4 4 ∷
    -- 10,000,000 contracts, and one more; one more in an account of both
    comes_to 2 10000000 (1 ∷ 2 ∷ []) (9999999 ∷ 1 ∷ []) (list_of (1 ∷ []) (9999999 ∷ [])) (list_of (2 ∷ []) (1 ∷ [])) 2 2 ∷
    refused_by 7 (list_of (1 ∷ []) (9999999 ∷ [])) (list_of (2 ∷ []) (2 ∷ [])) 2 2 ∷
    refused_by 7 (list_of (1 ∷ []) (10000000 ∷ [])) (list_of (1 ∷ []) (1 ∷ [])) 2 2 ∷
    -- 7 before 4; 4 by either output
    refused_by 7 (list_of (1 ∷ []) (9999999 ∷ [])) (list_of (2 ∷ []) (2 ∷ [])) 0 0 ∷
    refused_by 4 (list_of (1 ∷ []) (1 ∷ [])) (list_of (2 ∷ []) (1 ∷ [])) 1 2 ∷
    refused_by 4 (list_of (1 ∷ []) (1 ∷ [])) (list_of (2 ∷ []) (1 ∷ [])) 2 1 ∷
    -- a fault of the second list before 4
    refused_by 6 (list_of (1 ∷ []) (1 ∷ [])) (list_of (2 ∷ []) (0 ∷ [])) 0 0 ∷
    -- 4,096 positions with one more account; with an account of both; 4,097 in one list; a fault of the second before the merged list's 2
    refused_by 2 (ones 4096) (list_of (5000 ∷ []) (1 ∷ [])) 4097 4097 ∷
    comes_to 4096 4097 (counting 1 4096) (2 ∷ replicate 4095 1) (ones 4096) (list_of (1 ∷ []) (1 ∷ [])) 4096 4096 ∷
    refused_by 2 (ones 4097) good 4097 4097 ∷
    refused_by 2 good (ones 4097) 4097 4097 ∷
    refused_by 6 (ones 4096) (list_of (5000 ∷ []) (0 ∷ [])) 4097 4097 ∷
    -- 2 before 7 and 4
    refused_by 2 (ones 4096) (list_of (5000 ∷ []) (9999999 ∷ [])) 0 0 ∷
    []

-- each comes to what is claimed
pub claims_known : map (λ c. settled c.called) claims ≡ map (λ c. c.comes_to_is) claims
unfolding settled claims
claims_known = refl
