-- `round_two` meets its contract: where nothing is left the amounts stand; otherwise the walk by the cut_off serves as the rules do.
use Prim.Native.Nat.{◌+◌}
use mathlib.Core.Path.{◌≡◌, sym, ap, ◌∙◌}
use native.Mathlib.Omega.{arith}
use native.Mathlib.Nat.{mod-lt}
use lib.ListN.{length}
use Rattle.series.specs.ProRata.{round_two}
use Rattle.series.proofs.ProRataLaws.{unserved}
use Rattle.pro_rata.specs.Rounds.{at, cut_off_of}
use Rattle.series.proofs.ListLaws.{listed_elements}
use Rattle.pro_rata.proofs.RoundTwoLaws.{is_cut_off, is_none, larger_lt, tied-some, tied-few, serves, service}
use Rattle.pro_rata.proofs.rounds.round_two.Goals as goal

pub returns-in_default : goal.returns-in_default
returns-in_default c = let none : c.args.remainder.0 ≡ 0 = is_none c.requires.0 (ap cut_off_of (sym c.in_default.is) ∙ c.cut_off.ensures) in
    listed_elements (λ i. at c.args.amounts.now i + round_two (at c.args.parts.now) (length c.args.parts.now) c.args.draw c.args.remainder.0 i) c.args.amounts.now
    (λ i h. omega (arith, unserved (at c.args.parts.now) (length c.args.parts.now) c.args.draw c.args.remainder.0 i (omega arith)))

pub nonzero_rem-round : goal.nonzero_rem-round
nonzero_rem-round c = tied-some c.requires.0 (is_cut_off c.requires.0 c.in-Some.ensures)

pub overflow_sub-round : goal.overflow_sub-round
overflow_sub-round c = omega (arith, larger_lt c.requires.0 (is_cut_off c.requires.0 c.in-Some.ensures))

pub invariant_of-round : goal.invariant_of-round
invariant_of-round c = let cut = is_cut_off c.requires.0 c.in-Some.ensures in record { few = tied-few c.requires.0 cut; begins = mod-lt _ (tied-some c.requires.0 cut); serves = serves c.requires.0 cut }

pub serve-requires : goal.serve-requires
serve-requires c = record { room = c.requires.1; tied = (is_cut_off c.requires.0 c.in-Some.ensures).tied_are }

pub returns : goal.returns
returns c = c.serve.ensures ∙ service c.requires.0 (is_cut_off c.requires.0 c.in-Some.ensures) c.args.draw c.args.amounts.now c.requires.1.beside
