-- `dilbreth_read` meets its contract: what reading hands back stands behind the arguments.
use Rattle.dilbreth.proofs.ExportLaws.{read_hands}
use Rattle.dilbreth.proofs.dilbreth_read.Goals as goal

pub returns-in-Ok : goal.returns-in-Ok
returns-in-Ok c = rw (c.letter_of.ensures, c.number_of.ensures)
    (read_hands _ _ _ _ _ c.args.method.now c.args.exercised.now c.args.draw.now c.args.increment.now c.args.form.now c.args.positions.now c.in-Ok.ensures.answered c.in-Ok.ensures.written)

pub returns-in-Err : goal.returns-in-Err
returns-in-Err c = rw c.from.ensures
    (read_hands _ _ _ _ _ c.args.method.now c.args.exercised.now c.args.draw.now c.args.increment.now c.args.form.now c.args.positions.now c.in-Err.ensures.answered c.in-Err.ensures.written)
