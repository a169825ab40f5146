-- `chains::Chains::stands_earlier` meets its contract. The loop's invariant: the account stands among the earlier ones exactly if it stands among the first k.
use native.Mathlib.Omega.{arith}
use Rattle.list_judging.proofs.ChainLaws.{look_start, look_found, look_next, look_less, look_done}
use Rattle.list_judging.proofs.chains.Chains.stands_earlier.Goals as goal

pub loop-k-init : goal.loop-k-init
loop-k-init c = look_start c.requires.1 _ _ c.bucket_of.ensures.0 c.bucket_of.ensures.1

pub returns-then-accounts-other : goal.returns-then-accounts-other
returns-then-accounts-other c = look_found c.loop-k.invariant c.loop-k-test.true c.if-accounts-other.true

pub loop-k-smaller : goal.loop-k-smaller
loop-k-smaller c = omega (arith, c.loop-k-test.true, c.loop-k.invariant.within, look_less c.requires.1)

pub loop-k-preserved : goal.loop-k-preserved
loop-k-preserved c = look_next c.requires.1 c.loop-k.invariant c.loop-k-test.true c.if-accounts-other.false

pub returns : goal.returns
returns c = look_done c.loop-k.invariant c.loop-k-test.false
