-- `both_rounds` meets its contract: round two takes what round one hands on.
use mathlib.Core.Path.{◌∙◌}
use native.Mathlib.Omega.{arith}
use native.Mathlib.Nat.{le_refl}
use Rattle.pro_rata.proofs.JudgedLaws.{assigned_le, left_is, decimals-left, room_for_one, rounds_are}
use Rattle.pro_rata.proofs.rounds.both_rounds.Goals as goal

pub overflow_sub-remainder : goal.overflow_sub-remainder
overflow_sub-remainder c = omega (arith, c.round_one-assigned.ensures.assigned, assigned_le c.args.list.now _ (le_refl _))

pub round_two-requires : goal.round_two-requires
round_two-requires c = (decimals-left c.args.list.now _ _ _ c.round_one-assigned.ensures, room_for_one c.args.list.now _ _ _ c.round_one-assigned.ensures)

pub returns : goal.returns
returns c = record { handed = left_is c.args.list.now _ _ _ c.round_one-assigned.ensures; written = c.round_two.ensures ∙ rounds_are c.args.list.now _ _ _ c.round_one-assigned.ensures _ }
