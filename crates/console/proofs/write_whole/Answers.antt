use Rattle.std.proofs.Common.{rules, refl}
use Rattle.console.proofs.StreamLaws.{appends_next}
use Rattle.console.proofs.write_whole.Goals as goal

pub loop-n-preserved : goal.loop-n-preserved
loop-n-preserved g c = (search rules, appends_next _ _ _ _ _ _ _ refl c.loop-n.invariant.1 c.write_some-more.ensures.bytes)
