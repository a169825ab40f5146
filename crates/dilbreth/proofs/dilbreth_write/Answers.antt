-- `dilbreth_write` meets its contract: the letter's method is written, and the length handed back.
use Rattle.dilbreth.proofs.ExportLaws.{write_unknown, write_known}
use Rattle.dilbreth.proofs.dilbreth_write.Goals as goal

pub returns-in_default : goal.returns-in_default
returns-in_default c = rw c.from.ensures (write_unknown c.args.method c.args.exercised c.args.draw c.args.increment c.args.form c.args.codes.now c.args.accounts.now c.args.numbers.now c.in_default.ensures c.args.text.now c.args.written.now)

pub returns : goal.returns
returns c = write_known c.args.method c.args.exercised c.args.draw c.args.increment c.args.form c.args.codes.now c.args.accounts.now c.args.numbers.now
    _ c.in-Some.ensures _ c.terms_of.ensures _ c.form_by.ensures
    _ _ c.args.text.now _ _ c.write.ensures c.hand_length.ensures
