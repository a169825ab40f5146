-- `Wheel::skip` meets its contract: the sum's whole part is skipped and its rest reserved.
use mathlib.Core.Path.{refl}
use Rattle.allocation.proofs.BlockLaws.{skip_is}
use Rattle.allocation.proofs.wheel.Wheel.skip.Goals as goal

pub returns : goal.returns
returns c = skip_is _ _ _ _ _ c.add-due.ensures c.whole.ensures refl c.skip-self.ensures c.rest-self.ensures
