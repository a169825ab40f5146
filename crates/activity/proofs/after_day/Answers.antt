-- `after_day` meets its contract: what the kind of day gives.
use mathlib.Core.Path.{sym, ap, ◌∙◌}
use Rattle.activity_rules.specs.Activity.{after_day}
use Rattle.activity.proofs.after_day.Goals as goal

pub returns-in-Ordinary : goal.returns-in-Ordinary
unfolding after_day
returns-in-Ordinary c = c.ordinary_day.ensures ∙ ap (λ d. after_day d c.args.counted.investor) (sym c.in-Ordinary.is)

pub returns-in-Final : goal.returns-in-Final
unfolding after_day
returns-in-Final c = c.final_day.ensures ∙ ap (λ d. after_day d c.args.counted.investor) (sym c.in-Final.is)
