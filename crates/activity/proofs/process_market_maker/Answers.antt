-- `process_market_maker` meets its contract: 16, else the limit.
use mathlib.Core.Path.{sym, ◌∙◌}
use Rattle.activity_rules.proofs.CountLaws.{counted}
use Rattle.activity_rules.proofs.DayLaws.{maker_refused, maker_limited}
use Rattle.activity.proofs.process_market_maker.Goals as goal

pub returns-then-market_maker_above : goal.returns-then-market_maker_above
returns-then-market_maker_above c = maker_refused _ _ _ c.market_maker_above.ensures c.if-market_maker_above.true

pub market_maker_limit-requires : goal.market_maker_limit-requires
market_maker_limit-requires c = counted _ (sym c.market_maker_above.ensures ∙ c.if-market_maker_above.false)

pub returns : goal.returns
returns c = maker_limited _ _ _ c.market_maker_above.ensures c.if-market_maker_above.false _ c.market_maker_limit.ensures
