-- The changed text, or the lines of a refusal, before which nothing was written.
use Rattle.change_form.proofs.RoomLaws.{whole-written, whole-refused}
use Rattle.change_form.proofs.respond.Goals as goal

pub returns-in-Ok : goal.returns-in-Ok
returns-in-Ok c = whole-written c.args.text.now c.args.output.now c.change.new.output c.in-Ok.n c.requires c.in-Ok.ensures

pub returns-in-Err : goal.returns-in-Err
returns-in-Err c = whole-refused c.args.text.now c.args.output.now c.change.new.output c.refuse.new.output _ c.refuse.result c.requires c.in-Err.ensures c.refuse.ensures
