-- `lottery::assign_by_draw` meets its contract: whole, one position, or one run from the starting place.
use Rattle.std.proofs.Common.{sym, ◌∙◌, arith}
use Rattle.std.proofs.lemmas.Bool.{eqb-true, eqb-false}
use Rattle.lists.proofs.CopyLaws.{copied_whole}
use Rattle.starts.proofs.StartLaws.{place-on}
use Rattle.allocation.proofs.AllocateLaws.{place_needed, place_start, place-amounts, whole_start, whole-amounts, one_start, one-amounts}
use Rattle.allocation.proofs.lottery.assign_by_draw.Goals as goal

pub returns-then-eq : goal.returns-then-eq
returns-then-eq c = let whole = eqb-true _ _ (sym c.if-eq.ensures) in
    record { result_value = whole_start _ _ _ _ c.args.list.now.sum whole; amounts_after = copied_whole _ _ _ c.requires.room c.copy.ensures ∙ whole-amounts _ _ _ _ c.args.list.now.sum whole }

pub returns-then-shorts-eq1 : goal.returns-then-shorts-eq1
returns-then-shorts-eq1 c = let part = eqb-false _ _ (sym c.if-eq.ensures) in
    record { result_value = one_start _ _ _ _ c.args.list.now.sum part c.if-shorts-eq1.true; amounts_after = one-amounts _ _ _ _ c.args.list.now.sum part c.if-shorts-eq1.true c.args.amounts.now (c.requires.room ∙ c.if-shorts-eq1.true) }

pub starting_place-start-requires : goal.starting_place-start-requires
starting_place-start-requires c = (omega (arith, c.args.list.now.some, c.args.list.now.most, c.args.list.now.sum), omega (arith, c.args.list.now.sum, c.args.list.now.small), c.requires.leads (place_needed _ _ _ (eqb-false _ _ (sym c.if-eq.ensures)) c.if-shorts-eq1.false))

pub assign-requires : goal.assign-requires
assign-requires c = let leads = c.requires.leads (place_needed _ _ _ (eqb-false _ _ (sym c.if-eq.ensures)) c.if-shorts-eq1.false) in
    record { room = c.requires.room; on_wheel = rw (c.starting_place-start.ensures, ← c.args.list.now.sum) (place-on c.args.by _ c.args.draw (omega (arith, c.args.list.now.some, c.args.list.now.most, c.args.list.now.sum)) leads) }

pub returns : goal.returns
returns c = let part = eqb-false _ _ (sym c.if-eq.ensures) in
    record { result_value = place_start _ _ _ _ c.args.list.now.sum part c.if-shorts-eq1.false _ c.starting_place-start.ensures; amounts_after = place-amounts _ _ _ _ c.args.list.now.sum part c.if-shorts-eq1.false _ c.starting_place-start.ensures _ c.assign.ensures }
