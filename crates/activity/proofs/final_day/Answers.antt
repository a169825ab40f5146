-- `final_day` meets its contract: the two sides, and what each exceeds the other by.
use native.Mathlib.Omega.{arith}
use Rattle.activity_rules.specs.Activity.{final_day}
use Rattle.activity_rules.proofs.DayLaws.{after_is}
use Rattle.activity.proofs.final_day.Goals as goal

pub returns : goal.returns
unfolding final_day
returns c = after_is _ _ _ _ (omega arith) (omega arith) (omega arith)
