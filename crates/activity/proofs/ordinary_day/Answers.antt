-- `ordinary_day` meets its contract: the circular's sequence, step by step.
use native.Mathlib.Omega.{arith}
use Rattle.activity_rules.specs.Activity.{ordinary_day}
use Rattle.activity_rules.proofs.DayLaws.{after_is}
use Rattle.activity.proofs.ordinary_day.Goals as goal

pub returns : goal.returns
unfolding ordinary_day
returns c = after_is _ _ _ _ (omega arith) (omega arith) (omega arith)
