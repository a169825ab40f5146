-- `market_maker_limit` meets its contract: the limit of the kind of day.
use mathlib.Core.Path.{◌≡◌, sym, ap, ◌∙◌}
use native.Mathlib.Omega.{arith}
use Rattle.activity_rules.specs.Activity.{market_maker_limit}
use Rattle.activity_rules.specs.declared.Day.{Day}
use Rattle.activity.proofs.market_maker_limit.Goals as goal

pub returns-in-Ordinary : goal.returns-in-Ordinary
unfolding market_maker_limit
returns-in-Ordinary c = ap (λ d. market_maker_limit d c.args.maker) (sym c.in-Ordinary.is)

pub returns-in-Final : goal.returns-in-Final
unfolding market_maker_limit
returns-in-Final c = let limit : c.excess.result.0 ≡ market_maker_limit Day.Final c.args.maker = omega arith in
    limit ∙ ap (λ d. market_maker_limit d c.args.maker) (sym c.in-Final.is)
