-- `judge_list` meets its contract: a list is judged with an output of its own length.
use Rattle.list_judging.proofs.ListLaws.{judged_list}
use Rattle.list_judging.proofs.judge_list.Goals as goal

pub returns : goal.returns
returns c = judged_list c.args.method c.args.positions.now.codes.now c.args.positions.now.accounts.now c.args.positions.now.shorts.now _ c.judge.ensures
