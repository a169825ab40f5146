-- `assign_blocks` meets its contract.
use Rattle.std.proofs.Common.{arith}
use Rattle.allocation.proofs.BlockLaws.{block_first, block_small, block_next, block_last}
use Rattle.allocation.proofs.wheel.assign_blocks.Goals as goal

pub loop-block-init : goal.loop-block-init
loop-block-init c = block_first _ _ _ _ _ _ c.requires

pub assign-wheel-requires : goal.assign-wheel-requires
assign-wheel-requires c = record {
  small = block_small _ _ _ _ _ _ _ _ _ c.requires c.loop-block.invariant;
  ahead = record { on = c.loop-block.invariant.ready.on; most = c.requires.whole (omega (arith, c.loop-block-test.true)) };
}

pub skip-wheel-requires : goal.skip-wheel-requires
skip-wheel-requires c = record { on = c.assign-wheel.ensures.stands.on; short = c.loop-block.invariant.ready.short; reserve = c.loop-block.invariant.ready.reserve; list = c.loop-block.invariant.ready.list }

pub loop-block-preserved : goal.loop-block-preserved
loop-block-preserved c = block_next _ _ _ _ _ _ _ c.assign-wheel.result _ _ _ _ c.loop-block.invariant c.loop-block-test.true c.assign-wheel.ensures.stands c.assign-wheel.ensures.assigned c.skip-wheel.ensures

pub assign-requires : goal.assign-requires
assign-requires c = record { small = block_small _ _ _ _ _ _ _ _ _ c.requires c.loop-block.invariant; ahead = record { on = c.loop-block.invariant.ready.on; most = c.requires.end } }

pub returns : goal.returns
returns c = block_last _ _ _ _ _ _ _ _ _ _ c.loop-block.invariant c.loop-block-test.false c.assign.ensures.assigned
