-- `chains::Chains::new` meets its contract: nothing is linked at first.
use Prim.Native.Nat.{ℕ}
use lib.ListN.{get_or, length-replicate}
use Rattle.list_judging.specs.Chains.{bucket}
use Rattle.list_judging.proofs.ChainLaws.{chains_none}
use Rattle.list_judging.proofs.chains.Chains.new.Goals as goal

pub returns : goal.returns
returns c = λ accounts. chains_none bucket (λ j. get_or accounts j 0) _ (length-replicate {A = ℕ} 4096 0)
