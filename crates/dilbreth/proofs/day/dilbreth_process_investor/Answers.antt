-- `dilbreth_process_investor` meets its contract: what the call on an investor answered is handed back.
use Rattle.dilbreth.proofs.DayLaws.{investor_hands}
use Rattle.dilbreth.proofs.day.dilbreth_process_investor.Goals as goal

pub returns-in-Ok : goal.returns-in-Ok
returns-in-Ok c = investor_hands _ _ c.day_by.ensures _ _ _ _ _ c.in-Ok.ensures

pub returns-in-Err : goal.returns-in-Err
returns-in-Err c = rw c.from.ensures (investor_hands _ _ c.day_by.ensures _ _ _ _ _ c.in-Err.ensures)
