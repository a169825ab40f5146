-- `assign_blocks` meets its contract. The invariant: the amounts so far and the marks of the blocks still to come make up all marks.
use Rattle.allocation.specs.Blocks.{marks_from}
use Rattle.allocation.proofs.BlockLaws.{AtBlock}
use Rattle.allocation.proofs.wheel.assign_blocks.Given as goal

abbrev pub invariant-loop-block : goal.invariant-loop-block
invariant-loop-block l = AtBlock l.shorts l.initial.amounts l.amounts (marks_from l.shorts l.fn.wheel l.blocks.number l.blocks.increment.0 l.blocks.last.0) l.wheel l._block l.blocks.number l.blocks.increment.0 l.blocks.last.0
