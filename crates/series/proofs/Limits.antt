-- The numbers of documents 01 and 02 at both of their sides, and what is handed back, proved of the definitions by computation.
use Prim.Native.Nat.{ℕ, zero, suc}
use mathlib.Core.Path.{◌≡◌, refl}
use mathlib.Core.Option.{none, some}
use mathlib.Core.List.{List, [], ◌∷◌, map}
use lib.ListN.{replicate}
use Rattle.series.specs.Results.{Result, refused, value, status}
use Rattle.series.specs.Series.{method, order}
use Rattle.series.specs.Refusals.{without, list_verdict, list_verdict_for, positions_verdict}
use Rattle.series.specs.Answers.{handed_back}
use Rattle.series.specs.declared.Method.{Method}
use Rattle.series.specs.declared.Method.TheVariants.{Wheel, ProRata, Lottery, RemainderDraw}
use Rattle.series.proofs.Readings.{Call, call, verdict_on}

-- n accounts from a on
up_from : ℕ → ℕ → List ℕ
up_from a zero = []
up_from a (suc n) = a ∷ up_from (suc a) n

-- n positions of one contract each, called with an output of length room
many : ℕ → ℕ → Call
unfolding up_from
many n room = call ProRata (up_from 1 n) (replicate n 1) 1 0 room

-- one position of so many contracts, or two
one : Method → ℕ → Call
one m h = call m (1 ∷ []) (h ∷ []) 1 1 1

two : Method → ℕ → Call
two m h = call m (1 ∷ 2 ∷ []) (5000000 ∷ h ∷ []) 1 1 2

-- 4,096 and 4,097 positions; an output as long as the list, one shorter and none; T = 10,000,000 and one more; S = T and one more; a draw of 1 to 10,000 under L
pub sides : List Call
sides =
    many 4096 4096 ∷
    many 4097 4097 ∷
    many 3 3 ∷
    many 3 2 ∷
    many 1 0 ∷
    one Wheel 10000000 ∷
    one Wheel 10000001 ∷
    one ProRata 10000000 ∷
    one ProRata 10000001 ∷
    two Lottery 5000000 ∷
    two Lottery 5000001 ∷
    two RemainderDraw 5000000 ∷
    two RemainderDraw 5000001 ∷
    call ProRata (1 ∷ []) (3 ∷ []) 3 0 1 ∷
    call ProRata (1 ∷ []) (3 ∷ []) 4 0 1 ∷
    call Lottery (1 ∷ 2 ∷ []) (1 ∷ 2 ∷ []) 1 10000 2 ∷
    call Lottery (1 ∷ 2 ∷ []) (1 ∷ 2 ∷ []) 1 10001 2 ∷
    call Lottery (1 ∷ 2 ∷ []) (1 ∷ 2 ∷ []) 1 1 2 ∷
    call Lottery (1 ∷ 2 ∷ []) (1 ∷ 2 ∷ []) 1 0 2 ∷
    []

pub sides_known : map verdict_on sides ≡
    value 4096 ∷
    refused 2 ∷
    value 3 ∷
    refused 4 ∷
    refused 4 ∷
    value 10000000 ∷
    refused 7 ∷
    value 10000000 ∷
    refused 7 ∷
    value 10000000 ∷
    refused 7 ∷
    value 10000000 ∷
    refused 7 ∷
    value 3 ∷
    refused 9 ∷
    value 3 ∷
    refused 10 ∷
    value 3 ∷
    refused 10 ∷
    []
unfolding verdict_on sides many up_from one two
sides_known = refl

-- the same lists judged alone: no room, S or draw is looked at
pub list_of : Call → Result ℕ
unfolding verdict_on without list_verdict
list_of c = list_verdict (method c.series) c.series.codes c.series.accounts c.series.shorts

pub lists_sides_known : map list_of sides ≡
    value 4096 ∷
    refused 2 ∷
    value 3 ∷
    value 3 ∷
    value 1 ∷
    value 10000000 ∷
    refused 7 ∷
    value 10000000 ∷
    refused 7 ∷
    value 10000000 ∷
    refused 7 ∷
    value 10000000 ∷
    refused 7 ∷
    value 3 ∷
    value 3 ∷
    value 3 ∷
    value 3 ∷
    value 3 ∷
    value 3 ∷
    []
unfolding list_of sides many up_from one two
lists_sides_known = refl

-- judged with their room, and then by their positions alone
pub with_room : Call → Result ℕ
unfolding verdict_on
with_room c = list_verdict_for (method c.series) (order c.series) c.series.accounts c.series.shorts c.room

pub positions_of : Call → Result ℕ
unfolding verdict_on
positions_of c = positions_verdict (method c.series) (order c.series) c.series.accounts c.series.shorts

-- 4,096 and 4,097 positions; no room; T = 10,000,000 and one more; account 0 and an account twice under P; no shorts
pub few : List Call
few =
    many 4096 4096 ∷
    many 4097 4097 ∷
    many 1 0 ∷
    one Wheel 10000000 ∷
    two Lottery 5000001 ∷
    call ProRata (0 ∷ []) (3 ∷ []) 1 0 1 ∷
    call ProRata (1 ∷ 1 ∷ []) (3 ∷ 3 ∷ []) 1 0 2 ∷
    call Wheel (1 ∷ 2 ∷ []) (3 ∷ 0 ∷ []) 1 1 2 ∷
    []

pub rooms_known : map with_room few ≡ value 4096 ∷ refused 2 ∷ refused 4 ∷ value 10000000 ∷ refused 7 ∷ refused 5 ∷ refused 5 ∷ refused 6 ∷ []
unfolding with_room few many up_from one two
rooms_known = refl

pub positions_known : map positions_of few ≡ value 4096 ∷ value 4097 ∷ value 1 ∷ value 10000000 ∷ refused 7 ∷ refused 5 ∷ refused 5 ∷ refused 6 ∷ []
unfolding positions_of few many up_from one two
positions_known = refl

-- the further number is handed back as it is, and as 0 where there is none
pub handed_back_known : map handed_back (none ∷ some 0 ∷ some 7 ∷ []) ≡ 0 ∷ 0 ∷ 7 ∷ []
handed_back_known = refl

-- a call for C answers the number of its refusal, and 0 where it has a value
pub status_known : map (status {A = ℕ}) (value 5 ∷ refused 7 ∷ []) ≡ 0 ∷ 7 ∷ []
status_known = refl
