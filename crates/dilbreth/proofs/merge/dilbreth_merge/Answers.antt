-- `dilbreth_merge` meets its contract: what the merging call promises, handed back behind the arguments.
use Rattle.dilbreth.proofs.MergeLaws.{hands-merged}
use Rattle.dilbreth.proofs.merge.dilbreth_merge.Goals as goal

pub returns-in-Ok : goal.returns-in-Ok
returns-in-Ok c = hands-merged _ _ _ _ c.in-Ok.ensures c.args.positions.now c.args.total.now

pub returns-in-Err : goal.returns-in-Err
returns-in-Err c = rw c.from.ensures (hands-merged _ _ _ _ c.in-Err.ensures c.args.positions.now c.args.total.now)
