use Rattle.std.proofs.KnownBytes.{Appends-trans}
use Rattle.console.proofs.say.Goals as goal

pub returns-clause-bytes : goal.returns-clause-bytes
returns-clause-bytes g c = (c.write_whole.result, c.write_whole-2.result, Appends-trans _ _ _ _ _ c.write_whole.ensures.bytes (Appends-trans _ _ _ _ _ c.write_whole-2.ensures.bytes c.write_whole-3.ensures.bytes))
