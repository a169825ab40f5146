-- `process_investor` meets its contract: 16, 17, 18 in this order, else what the kind of day gives.
use mathlib.Core.Path.{sym, ◌∙◌}
use Rattle.activity_rules.proofs.CountLaws.{counted}
use Rattle.activity_rules.proofs.DayLaws.{refused_count, refused_closing, refused-exercised, processed}
use Rattle.activity.proofs.process_investor.Goals as goal

pub returns-then-investor_above : goal.returns-then-investor_above
returns-then-investor_above c = refused_count _ _ _ c.investor_above.ensures c.if-investor_above.true

pub invariant_of-counted : goal.invariant_of-counted
invariant_of-counted c = record { counted = counted _ (sym c.investor_above.ensures ∙ c.if-investor_above.false) }

pub returns-then-closes_above_short : goal.returns-then-closes_above_short
returns-then-closes_above_short c = refused_closing _ _ _ c.investor_above.ensures c.if-investor_above.false _ c.closes_above_short.ensures c.if-closes_above_short.true

pub returns-then-after-investor : goal.returns-then-after-investor
returns-then-after-investor c = refused-exercised _ _ _ c.investor_above.ensures c.if-investor_above.false _ c.closes_above_short.ensures c.if-closes_above_short.false _ c.after_day-after.ensures c.if-after-investor.true

pub returns : goal.returns
returns c = processed _ _ _ c.investor_above.ensures c.if-investor_above.false _ c.closes_above_short.ensures c.if-closes_above_short.false _ c.after_day-after.ensures c.if-after-investor.false
