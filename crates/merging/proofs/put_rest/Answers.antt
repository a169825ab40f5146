-- `put_rest` meets its contract: what is left of the list stands in its place in both outputs.
use Prim.Native.Nat.{ℕ}
use native.Mathlib.Omega.{arith}
use lib.ListN.{length-take, length-drop}
use Rattle.lists.proofs.CopyLaws.{copied_whole}
use Rattle.merging.proofs.WriteLaws.{put_part}
use Rattle.merging.proofs.put_rest.Goals as goal

pub returns : goal.returns
returns c = record {
  puts_accounts = put_part c.args.accounts.now _ c.args.list.now.accounts.now c.args.begin c.args.at _ (copied_whole _ _ _ (omega (arith, length-take {A = ℕ}, length-drop {A = ℕ})) c.copy.ensures) (omega arith) (omega arith);
  puts_shorts = put_part c.args.shorts.now _ c.args.list.now.shorts.now c.args.begin c.args.at _ (copied_whole _ _ _ (omega (arith, length-take {A = ℕ}, length-drop {A = ℕ})) c.copy-2.ensures) (omega arith) (omega arith);
}
