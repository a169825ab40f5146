-- `put::put_number` meets its contract. The loop's invariant: the digits from index `i` on are put, and those before it are the digits of `rest`.
use Rattle.text_writing.proofs.PutLaws.{DigitsPut}
use Rattle.text_writing.proofs.put.put_number.Given as goal

abbrev pub invariant-loop-i : goal.invariant-loop-i
invariant-loop-i l = DigitsPut l.n l.initial.text l.at l.text l.i l.rest
