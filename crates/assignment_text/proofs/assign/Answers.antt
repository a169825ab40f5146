-- `assign` meets its contract: the amounts of an allocation are printed, or its refusal.
use mathlib.Core.Path.{◌∙◌}
use Rattle.assignment_text.proofs.PrintLaws.{turned_away_lem, few_contracts, assigned_all}
use Rattle.assignment_text.proofs.assign.Goals as goal

pub invariant_of-allocation : goal.invariant_of-allocation
invariant_of-allocation c = record {
  lists = record { same = c.requires.same; beside = c.allocate.auto.amounts ∙ c.requires.beside; few = c.requires.few };
  small = few_contracts c.requires.beside c.in-Ok.ensures;
}

pub returns-in-Ok : goal.returns-in-Ok
returns-in-Ok c = assigned_all c.requires.beside c.in-Ok.ensures c.args.form c.print_by.ensures

pub returns-in-Err : goal.returns-in-Err
returns-in-Err c = turned_away_lem c.args.form c.requires.beside c.in-Err.ensures c.refusal_in.ensures c.refuse.ensures
