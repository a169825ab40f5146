-- Document 01's series with known amounts, proved of the definitions by computation.
use Prim.Native.Nat.{ℕ, suc, ◌+◌, ◌-◌}
use mathlib.Core.Path.{◌≡◌, refl}
use mathlib.Core.Option.{none, some}
use mathlib.Core.List.{List, [], ◌∷◌, ◌++◌, map}
use lib.ListN.{length, replicate}
use Rattle.series.specs.Results.{Result, refused, value}
use Rattle.series.specs.Outputs.{onto}
use Rattle.series.specs.Sums.{sum_below, bit, count_below, listed}
use Rattle.series.specs.Places.{total, next, steps, run, within, marked, before, last, amounts}
use Rattle.series.specs.Series.{Series, DEFAULT_INCREMENT, terms_of, held}
use Rattle.series.specs.Wheel.{blocks, interval, marks, wheel_marks, wheel, blocks_used}
use Rattle.series.specs.ProRata.{percentage, assignment_amount, whole_part, decimal_part, round_one, decimals, remainder, larger, equal, turn, rank, round_two, pro_rata}
use Rattle.series.specs.Lottery.{starting_place, lottery, unstarted, lottery_amounts, start_used}
use Rattle.series.specs.RemainderDraw.{remainder_place}
use Rattle.series.specs.Refusals.{first, length_rows, room_rows, stands_in, account_refused, position_rows, exercised_rows, outside, too_many_blocks, increment_rows, undrawn, draw_rows, then_draw_rows, terms_rows, list_rows, rows, verdict, without, Accepted}
use Rattle.series.specs.Answers.{Allocation}
use Rattle.series.specs.Call.{assigned, further, answer, output}
use Rattle.series.specs.declared.Method.{Method}
use Rattle.series.specs.declared.Method.TheVariants.{Wheel, ProRata, Lottery, RemainderDraw}
use Rattle.series.proofs.RowLaws.{value_passed}

-- a series with codes and accounts 1, 2, .., by the increment I
unfoldable pub series_by : ℕ → Method → List ℕ → ℕ → ℕ → Series
series_by I m hs S draw =
    record {
      terms = terms_of m S draw I;
      codes = listed suc (length hs);
      accounts = listed suc (length hs);
      shorts = hs;
    }

-- and where none is given
abbrev pub series : Method → List ℕ → ℕ → ℕ → Series
series = series_by DEFAULT_INCREMENT

-- what the call answers, and its output, which held one element more than the list, all 7
pub record Called : Type 0 where
  pub answered : Result Allocation
  pub written : List ℕ

-- the lines `unfolding` name every definition that the amounts, and the call's answer and output, compute with
unfoldable pub amounts_of : Series → List ℕ
unfolding series_by onto sum_below bit count_below listed total next steps run within marked before last amounts blocks interval marks wheel_marks wheel blocks_used percentage assignment_amount whole_part decimal_part round_one decimals remainder larger equal turn rank round_two pro_rata starting_place lottery unstarted lottery_amounts start_used remainder_place assigned
amounts_of s = assigned s.terms s.shorts

unfoldable pub called_on : Series → Called
unfolding amounts_of first length_rows room_rows stands_in account_refused position_rows exercised_rows outside too_many_blocks increment_rows undrawn draw_rows then_draw_rows terms_rows list_rows rows verdict further answer output
called_on s =
    let old : List ℕ = replicate (suc (length s.shorts)) 7 in
    record { answered = answer s (length old); written = output s old }

-- an allocation by the method with T, the further number and the amounts, the last element kept
abbrev pub allocated : Method → ℕ → ℕ → List ℕ → Called
allocated m T f vs = record { answered = value (record { method = m; total = T; further = some f }); written = vs ++ (7 ∷ []) }

-- an allocation by L or R with T and the amounts, and no starting place
abbrev pub undrawn_by : Method → ℕ → List ℕ → Called
undrawn_by m T vs = record { answered = value (record { method = m; total = T; further = none }); written = vs ++ (7 ∷ []) }

-- a refusal with its number, the whole output of a list of n positions kept
abbrev pub turned_away : ℕ → ℕ → Called
turned_away n r = record { answered = refused r; written = replicate (suc n) 7 }

abbrev pub M_shorts : List ℕ
M_shorts = 5 ∷ 8 ∷ 2 ∷ 10 ∷ 11 ∷ []

-- A, B, C, D, E, F, G, H, J, K, M, N
pub starred : List Series
starred =
    series Wheel (60 ∷ 200 ∷ 95 ∷ []) 175 1 ∷
    series Wheel (60 ∷ 200 ∷ 95 ∷ []) 175 340 ∷
    series Wheel (10 ∷ 20 ∷ []) 26 29 ∷
    series Wheel (50 ∷ 50 ∷ []) 30 1 ∷
    series Wheel (76 ∷ 1 ∷ 77 ∷ []) 150 1 ∷
    series ProRata (5 ∷ 3 ∷ 2 ∷ []) 4 0 ∷
    series ProRata (3 ∷ []) 1 0 ∷
    series ProRata (1 ∷ 1 ∷ 1 ∷ []) 1 5 ∷
    series ProRata (1 ∷ 1 ∷ 1 ∷ []) 2 2 ∷
    series ProRata (3 ∷ 1 ∷ 2 ∷ []) 2 0 ∷
    series Lottery M_shorts 13 4855 ∷
    series Lottery M_shorts 2 10000 ∷
    []

pub known : List Called
known =
    allocated Wheel 355 7 (35 ∷ 97 ∷ 43 ∷ []) ∷
    allocated Wheel 355 7 (34 ∷ 98 ∷ 43 ∷ []) ∷
    allocated Wheel 30 2 (10 ∷ 16 ∷ []) ∷
    allocated Wheel 100 2 (25 ∷ 5 ∷ []) ∷
    allocated Wheel 154 6 (75 ∷ 0 ∷ 75 ∷ []) ∷
    allocated ProRata 10 1 (2 ∷ 1 ∷ 1 ∷ []) ∷
    allocated ProRata 3 1 (1 ∷ []) ∷
    allocated ProRata 3 1 (0 ∷ 0 ∷ 1 ∷ []) ∷
    allocated ProRata 3 2 (1 ∷ 0 ∷ 1 ∷ []) ∷
    allocated ProRata 6 2 (1 ∷ 0 ∷ 1 ∷ []) ∷
    allocated Lottery 36 18 (0 ∷ 0 ∷ 0 ∷ 8 ∷ 5 ∷ []) ∷
    allocated Lottery 36 36 (1 ∷ 0 ∷ 0 ∷ 0 ∷ 1 ∷ []) ∷
    []

-- the twelve starred series have the known numbers and amounts
pub starred_known : map called_on starred ≡ known
unfolding called_on starred known
starred_known = refl

-- T = 3 under L with draws 3333 and 3334; T = 36 with S = 36 and 37; under W the draws 36, 0 and 37, with S = 35 and with S = 36
pub boundaries : List Series
boundaries =
    series Lottery (1 ∷ 1 ∷ 1 ∷ []) 1 3333 ∷
    series Lottery (1 ∷ 1 ∷ 1 ∷ []) 1 3334 ∷
    series Lottery M_shorts 36 1 ∷
    series Lottery M_shorts 37 1 ∷
    series ProRata M_shorts 36 0 ∷
    series ProRata M_shorts 37 0 ∷
    series Wheel M_shorts 35 36 ∷
    series Wheel M_shorts 35 0 ∷
    series Wheel M_shorts 35 37 ∷
    series Wheel M_shorts 36 36 ∷
    series Wheel M_shorts 36 0 ∷
    series Wheel M_shorts 36 37 ∷
    series Wheel M_shorts 37 36 ∷
    []

-- the starting places 1 and 2; allocated, without a starting place under L, and 9; under W allocated, and 10 twice, and with S = 36 allocated whatever the draw
pub boundaries_known : map called_on boundaries ≡
    allocated Lottery 3 1 (1 ∷ 0 ∷ 0 ∷ []) ∷
    allocated Lottery 3 2 (0 ∷ 1 ∷ 0 ∷ []) ∷
    undrawn_by Lottery 36 M_shorts ∷
    turned_away 5 9 ∷
    allocated ProRata 36 0 M_shorts ∷
    turned_away 5 9 ∷
    allocated Wheel 36 2 (5 ∷ 8 ∷ 2 ∷ 10 ∷ 10 ∷ []) ∷
    turned_away 5 10 ∷
    turned_away 5 10 ∷
    allocated Wheel 36 0 M_shorts ∷
    allocated Wheel 36 0 M_shorts ∷
    allocated Wheel 36 0 M_shorts ∷
    turned_away 5 9 ∷
    []
unfolding called_on boundaries
boundaries_known = refl

-- M under each method, with a draw of 0, which W and L refuse
pub drawn_zero : List Series
drawn_zero = series Wheel M_shorts 13 0 ∷ series ProRata M_shorts 13 0 ∷ series Lottery M_shorts 13 0 ∷ series RemainderDraw M_shorts 13 0 ∷ []

-- what the rows that are left come to where the draw is 0 and there is no room: T, for each of them
pub undrawn-left : map (λ s. first (without (4 ∷ 10 ∷ []) (rows s 0)) (held s)) drawn_zero ≡ value 36 ∷ value 36 ∷ value 36 ∷ value 36 ∷ []
unfolding drawn_zero series_by listed total unstarted first without rows list_rows length_rows room_rows stands_in account_refused position_rows exercised_rows outside too_many_blocks blocks increment_rows undrawn draw_rows then_draw_rows terms_rows
undrawn-left = refl

-- so M is accepted with draw 0 and room 0
pub accepted_undrawn : Accepted (series Lottery M_shorts 13 0) 0
unfolding Accepted series_by listed total unstarted first without rows list_rows length_rows room_rows stands_in account_refused position_rows exercised_rows outside too_many_blocks blocks increment_rows undrawn draw_rows then_draw_rows terms_rows
accepted_undrawn = value_passed (without (4 ∷ 10 ∷ []) (rows (series Lottery M_shorts 13 0) 0)) (held (series Lottery M_shorts 13 0)) 36 refl

-- the places a, a + 1, .., e
pub span : ℕ → ℕ → List ℕ
span a e = listed (λ i. a + i) (suc e - a)

-- the blocks of A
pub blocks_of_A : wheel_marks 25 355 175 1 ≡ span 1 25 ++ (span 51 75 ++ (span 102 126 ++ (span 153 177 ++ (span 203 227 ++ (span 254 278 ++ span 305 329)))))
unfolding span listed next steps run blocks interval marks wheel_marks
blocks_of_A = refl

-- the blocks of D: T1 is rounded up before T is divided by it
pub blocks_of_D : wheel_marks 25 100 30 1 ≡ span 1 25 ++ span 51 55
unfolding span listed next steps run blocks interval marks wheel_marks
blocks_of_D = refl
