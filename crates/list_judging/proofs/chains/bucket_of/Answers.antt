-- `chains::bucket_of` meets its contract.
use mathlib.Core.Path.{refl}
use native.Mathlib.Omega.{arith}
use Rattle.list_judging.specs.Chains.{bucket}
use Rattle.list_judging.proofs.chains.bucket_of.Goals as goal

pub returns : goal.returns
unfolding bucket
returns c = rw c.from.ensures (refl, omega arith)
