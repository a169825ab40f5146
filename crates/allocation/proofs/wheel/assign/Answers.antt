-- `wheel::assign` meets its contract: every position whole where S equals T, and else the blocks from the starting place.
use Rattle.std.proofs.Common.{refl, sym, ◌∙◌, arith}
use Rattle.std.proofs.lemmas.Bool.{eqb-true, eqb-false}
use Rattle.lists.proofs.CopyLaws.{copied_whole}
use Rattle.series.proofs.WheelLaws.{wheel-whole}
use Rattle.allocation.proofs.BlockLaws.{whole-blocks, blocks_fit, blocks_give, used_whole, used_part}
use Rattle.allocation.proofs.wheel.assign.Goals as goal

pub returns-then-eq : goal.returns-then-eq
returns-then-eq c = let whole = eqb-true _ _ (sym c.if-eq.ensures) in
    record { value = used_whole _ _ _ whole; amounts_after = copied_whole _ _ _ c.requires.room c.copy.ensures ∙ sym (wheel-whole _ _ _ _ (whole ∙ c.args.list.now.sum)) }

pub seek-requires : goal.seek-requires
seek-requires c = rw (← c.args.list.now.sum) (c.requires.on_wheel (eqb-false _ _ (sym c.if-eq.ensures)))

pub interval-requires : goal.interval-requires
interval-requires c = (omega (arith, c.args.list.now.sum, c.args.list.now.small), (whole-blocks _ _ _ c.requires.increment c.args.list.now.some c.of-blocks.ensures.number).0)

pub assign_blocks-requires : goal.assign_blocks-requires
assign_blocks-requires c = rw c.of-blocks.ensures.increment (blocks_fit c.args.list.now _ _ _ _ _ _ _ c.requires.room c.requires.increment (omega (arith, c.args.list.now.sum, c.args.list.now.most, eqb-false _ _ (sym c.if-eq.ensures))) c.seek.ensures (c.fill.ensures.after (λ y e. e)) c.of-blocks.ensures.number c.of-blocks.ensures.last c.interval.ensures refl)

pub returns : goal.returns
returns c = let less = eqb-false _ _ (sym c.if-eq.ensures) in record {
  value = c.of-blocks.ensures.number ∙ used_part _ _ _ (omega (arith, c.args.list.now.sum, c.args.list.now.most, less));
  amounts_after = blocks_give c.args.list.now _ _ _ _ _ _ _ c.requires.room c.requires.increment (omega (arith, c.args.list.now.sum, c.args.list.now.most, less)) c.seek.ensures (c.fill.ensures.after (λ y e. e)) c.of-blocks.ensures.number c.of-blocks.ensures.last c.interval.ensures refl _ (rw c.of-blocks.ensures.increment at c.assign_blocks.ensures);
}
