use Rattle.std.proofs.Common.{rules, refl}
use Rattle.console.proofs.StreamLaws.{consumes_next}
use Rattle.console.proofs.read_input.Goals as goal

pub loop-n-preserved : goal.loop-n-preserved
loop-n-preserved g c = (search rules, consumes_next _ _ _ _ _ _ _ _ _ refl c.loop-n.invariant.0 (search rules) c.loop-n.invariant.1 c.in_ok-more.ensures.bytes.0)
