-- `dilbreth_process_market_maker` meets its contract: what the call on a market-maker answered is handed back.
use Rattle.dilbreth.proofs.DayLaws.{market_maker_hands}
use Rattle.dilbreth.proofs.day.dilbreth_process_market_maker.Goals as goal

pub returns-in-Ok : goal.returns-in-Ok
returns-in-Ok c = market_maker_hands _ _ c.day_by.ensures _ _ _ c.in-Ok.ensures

pub returns-in-Err : goal.returns-in-Err
returns-in-Err c = rw c.from.ensures (market_maker_hands _ _ c.day_by.ensures _ _ _ c.in-Err.ensures)
