-- `put::put_line` meets its contract: the line is copied to the part of the text that is as long.
use Prim.Native.Nat.{ℕ}
use native.Mathlib.Omega.{arith}
use lib.ListN.{length-take, length-drop}
use Rattle.lists.proofs.CopyLaws.{copied_whole}
use Rattle.text_writing.proofs.PutLaws.{put_part}
use Rattle.text_writing.proofs.put.put_line.Goals as goal

pub returns : goal.returns
returns c = put_part c.args.line.now c.args.text.now c.copy.new.target c.args.at _ (omega arith) (copied_whole _ _ _ (omega (arith, length-take {A = ℕ}, length-drop {A = ℕ})) c.copy.ensures)
