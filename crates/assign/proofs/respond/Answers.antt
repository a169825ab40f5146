-- All that can be printed fits the output.
use Rattle.responses.proofs.RoomLaws.{printed-whole}
use Rattle.assign.proofs.respond.Goals as goal

pub returns : goal.returns
returns c = printed-whole c.args.text.now c.respond.result _ c.args.output.now c.respond.new.output c.requires c.respond.ensures
