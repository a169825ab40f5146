-- `chains::Chains::stands_earlier` meets its contract. The loop's invariant: the account stands among the earlier ones exactly if it stands among the first k.
use lib.ListN.{get_or}
use Rattle.list_judging.specs.Chains.{bucket}
use Rattle.list_judging.proofs.ChainLaws.{Look}
use Rattle.list_judging.proofs.chains.Chains.stands_earlier.Given as goal

abbrev pub invariant-loop-k : goal.invariant-loop-k
invariant-loop-k l = Look bucket (λ j. get_or l.accounts j 0) (get_or l.accounts l.position 0) l.position l.k

abbrev pub decreases-loop-k : goal.decreases-loop-k
decreases-loop-k l = l.k
