-- `dilbreth_allocate` meets its contract: the letter's method is called, and its answer handed back.
use Rattle.dilbreth.proofs.ExportLaws.{allocate_unknown, allocate_known}
use Rattle.dilbreth.proofs.dilbreth_allocate.Goals as goal

pub returns-in_default : goal.returns-in_default
returns-in_default c = rw c.from.ensures (allocate_unknown c.args.method c.args.exercised c.args.draw c.args.increment c.args.form c.args.codes.now c.args.accounts.now c.args.numbers.now c.in_default.ensures c.args.amounts.now c.args.total.now c.args.further.now)

pub returns-in-Ok : goal.returns-in-Ok
returns-in-Ok c =
    allocate_known c.args.method c.args.exercised c.args.draw c.args.increment c.args.form c.args.codes.now c.args.accounts.now c.args.numbers.now _ c.in-Some.ensures _ c.terms_of.ensures _ c.form_by.ensures _ _
    c.args.amounts.now _ c.args.total.now c.args.further.now c.in-Ok.ensures c.allocate.ensures

pub returns-in-Err : goal.returns-in-Err
returns-in-Err c =
    rw c.from-in-Err.ensures (allocate_known c.args.method c.args.exercised c.args.draw c.args.increment c.args.form c.args.codes.now c.args.accounts.now c.args.numbers.now _ c.in-Some.ensures _ c.terms_of.ensures _ c.form_by.ensures _ _
    c.args.amounts.now _ c.args.total.now c.args.further.now c.in-Err.ensures c.allocate.ensures)
