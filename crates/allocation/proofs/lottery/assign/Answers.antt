-- `lottery::assign` meets its contract: one run from the starting place, with all amounts 0 at first.
use Rattle.allocation.proofs.RunLaws.{lottery-ready, lottery_done}
use Rattle.allocation.proofs.lottery.assign.Goals as goal

pub assign-requires : goal.assign-requires
assign-requires c = let all = lottery-ready c.args.list.now _ _ _ _ c.requires.room c.seek.ensures (c.fill.ensures.after (λ y e. e)) in record { small = all.0; ahead = all.1 }

pub returns : goal.returns
returns c = lottery_done c.args.list.now _ _ _ _ c.requires.room c.seek.ensures (c.fill.ensures.after (λ y e. e)) _ c.assign.ensures.assigned
