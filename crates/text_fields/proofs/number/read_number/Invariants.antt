-- `number::read_number` meets its contract. The loop's invariant: the bytes passed are digits of the field, at most ten, and `n` is their number.
use Rattle.text_fields.proofs.FieldLaws.{NumberTo}
use Rattle.text_fields.proofs.number.read_number.Given as goal

abbrev pub invariant-loop-i : goal.invariant-loop-i
invariant-loop-i l = NumberTo l.end l.text l.i l.n
