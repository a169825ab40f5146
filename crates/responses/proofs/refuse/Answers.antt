-- `refuse` meets its contract: the note that is written is what is printed for the refusal.
use mathlib.Core.Path.{refl}
use Rattle.series.specs.Answers.{number_of}
use Rattle.series.specs.Ascii.{ascii}
use Rattle.responses.specs.Printed.{refused_lines}
use Rattle.responses.proofs.ResponseLaws.{note_is, print_short, print_all}
use Rattle.responses.proofs.refuse.Goals as goal

pub returns-in_default : goal.returns-in_default
unfolding ascii
returns-in_default c =
    let n = number_of c.args.refusal in
    print_short n (refused_lines n) c.args.output.now _ c.too_short.result _ (rw (c.from-number.ensures, note_is) at c.in_default.ensures) c.too_short.ensures

pub returns : goal.returns
unfolding ascii
returns c =
    let n = number_of c.args.refusal in
    print_all n (refused_lines n) c.args.output.now _ _ _ (rw (c.from-number.ensures, note_is) at c.in-Ok.ensures) refl
