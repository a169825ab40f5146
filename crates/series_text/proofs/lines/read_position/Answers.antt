-- `lines::read_position` meets its contract: the row as it is read, or the account in front of it.
use mathlib.Core.Path.{◌≡◌}
use mathlib.Core.Bool.{true, false}
use mathlib.Core.List.{append-nil}
use native.Mathlib.Omega.{arith}
use lib.ListN.{length}
use Rattle.series_text.proofs.LineLaws.{position_found, position_none}
use Rattle.series_text.proofs.lines.read_position.Goals as goal

pub returns-in_err-rest : goal.returns-in_err-rest
returns-in_err-rest c = rw (c.from_residual.ensures, c.if-coded.true) (record { means = position_none true _ c.in_err-rest.ensures.means; three = tt })

pub returns-then-coded : goal.returns-then-coded
returns-then-coded c = rw c.if-coded.true (record { means = position_found true _ _ _ c.in_ok-rest.ensures.means; three = c.read_row.auto.row })

pub returns-in_err-rest-2 : goal.returns-in_err-rest-2
returns-in_err-rest-2 c = rw (c.from_residual-in_err-rest-2.ensures, c.if-coded.false) (record { means = position_none false _ c.in_err-rest-2.ensures.means; three = tt })

pub returns : goal.returns
returns c =
    let two : length c.read_row-2.new.row ≡ 2 = c.read_row-2.auto.row in
    rw (c.if-coded.false, append-nil) (record { means = position_found false _ _ _ c.in_ok-rest-2.ensures.means; three = omega (arith, two) })
