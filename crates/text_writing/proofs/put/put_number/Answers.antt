-- `put::put_number` meets its contract. The loop's invariant: the digits from index `i` on are put, and those before it are the digits of `rest`.
use Prim.Native.Nat.{◌+◌, ◌-◌, ◌<◌}
use native.Mathlib.Omega.{arith}
use lib.ListN.{length}
use Rattle.text_rules.specs.Numbers.{decimal}
use Rattle.text_rules.proofs.LengthLaws.{length-number}
use Rattle.text_writing.proofs.PutLaws.{digits_start, digits_more, digits-end}
use Rattle.text_writing.proofs.put.put_number.Goals as goal

pub loop-i-init : goal.loop-i-init
loop-i-init c = digits_start c.args.n c.args.text.now c.args.at c.digits_of-digits.result c.digits_of-digits.ensures

pub overflow_add-text-in-loop-i : goal.overflow_add-text-in-loop-i
overflow_add-text-in-loop-i c =
    let room : c.args.at + length (decimal c.args.n) < length c.args.text.now = omega (arith, length-number c.args.n c.args.end) in
    omega (arith, room)

pub bounds-text-at : goal.bounds-text-at
bounds-text-at c =
    let room : c.args.at + length (decimal c.args.n) < length c.args.text.now = omega (arith, length-number c.args.n c.args.end) in
    omega (arith, room)

pub loop-i-preserved : goal.loop-i-preserved
loop-i-preserved c =
    let room : c.args.at + length (decimal c.args.n) < length c.args.text.now = omega (arith, length-number c.args.n c.args.end) in
    digits_more c.args.n c.args.text.now c.args.at c.loop-i.text c.loop-i.i c.loop-i.rest (c.loop-i.i - 1) (omega arith) (omega (arith, room)) c.loop-i.invariant

pub overflow_add-text-2 : goal.overflow_add-text-2
overflow_add-text-2 c =
    let room : c.args.at + length (decimal c.args.n) < length c.args.text.now = omega (arith, length-number c.args.n c.args.end) in
    omega (arith, room, c.digits_of-digits.ensures)

pub bounds-text-at-2 : goal.bounds-text-at-2
bounds-text-at-2 c =
    let room : c.args.at + length (decimal c.args.n) < length c.args.text.now = omega (arith, length-number c.args.n c.args.end) in
    omega (arith, room, c.digits_of-digits.ensures)

pub overflow_add-result : goal.overflow_add-result
overflow_add-result c =
    let room : c.args.at + length (decimal c.args.n) < length c.args.text.now = omega (arith, length-number c.args.n c.args.end) in
    omega (arith, room, c.digits_of-digits.ensures)

pub overflow_add-result-2 : goal.overflow_add-result-2
overflow_add-result-2 c =
    let room : c.args.at + length (decimal c.args.n) < length c.args.text.now = omega (arith, length-number c.args.n c.args.end) in
    omega (arith, room, c.digits_of-digits.ensures)

pub returns : goal.returns
returns c =
    let room : c.args.at + length (decimal c.args.n) < length c.args.text.now = omega (arith, length-number c.args.n c.args.end) in
    digits-end c.args.n c.args.end c.args.text.now c.args.at c.loop-i.text c.loop-i.i c.loop-i.rest c.digits_of-digits.result (omega arith) c.digits_of-digits.ensures (room) c.loop-i.invariant
