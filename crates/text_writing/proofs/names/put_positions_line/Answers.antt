-- `names::put_positions_line` meets its contract: its names are put one after the other, and there is room for them.
use Prim.Native.Nat.{◌+◌, ◌≤◌}
use mathlib.Core.List.{◌++◌}
use native.Mathlib.Omega.{arith}
use lib.ListN.{length}
use Rattle.series.specs.Ascii.{ascii}
use Rattle.text_rules.specs.Names.{code_name, account_name, form_name, account_line, positions_line}
use Rattle.text_rules.proofs.NameLaws.{length-positions}
use Rattle.text_writing.proofs.PutLaws.{put_append}
use Rattle.text_writing.proofs.names.put_positions_line.Goals as goal

pub put_code_name-account-requires : goal.put_code_name-account-requires
put_code_name-account-requires c =
    let room : c.args.at + (length (code_name c.args.columns.coded) + (8 + length (form_name c.args.columns.form))) ≤ length c.args.text.now = omega (arith, length-positions c.args.columns.form c.args.columns.coded, c.requires) in
    omega (arith, room)

pub put_line-last-requires : goal.put_line-last-requires
put_line-last-requires c =
    let room : c.args.at + (length (code_name c.args.columns.coded) + (8 + length (form_name c.args.columns.form))) ≤ length c.args.text.now = omega (arith, length-positions c.args.columns.form c.args.columns.coded, c.requires) in
    omega (arith, room, c.put_code_name-account.ensures.after, c.put_code_name-account.auto.text)

pub put_form_name-requires : goal.put_form_name-requires
put_form_name-requires c =
    let room : c.args.at + (length (code_name c.args.columns.coded) + (8 + length (form_name c.args.columns.form))) ≤ length c.args.text.now = omega (arith, length-positions c.args.columns.form c.args.columns.coded, c.requires) in
    omega (arith, room, c.put_code_name-account.ensures.after, c.put_code_name-account.auto.text, c.put_line-last.ensures.after, c.put_line-last.auto.text)

pub returns : goal.returns
unfolding positions_line account_line account_name ascii
returns c =
    let room : c.args.at + (length (code_name c.args.columns.coded) + (8 + length (form_name c.args.columns.form))) ≤ length c.args.text.now = omega (arith, length-positions c.args.columns.form c.args.columns.coded, c.requires) in
    put_append (code_name c.args.columns.coded) (account_name ++ form_name c.args.columns.form) c.args.text.now c.args.at _ _ _ _ (omega (arith, room)) c.put_code_name-account.ensures
    (put_append account_name (form_name c.args.columns.form) _ _ _ _ _ _ (omega (arith, room, c.put_code_name-account.ensures.after, c.put_code_name-account.auto.text)) c.put_line-last.ensures c.put_form_name.ensures)
