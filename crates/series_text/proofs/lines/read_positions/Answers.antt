-- `lines::read_positions` meets its contract. The loop's invariant: the rows read stand first in the three lists, and the text goes on with the rest.
use Prim.Native.Nat.{ℕ, ◌≤◌}
use mathlib.Core.Bool.{Bool}
use mathlib.Core.List.{[], ◌∷◌}
use mathlib.Core.Path.{◌≡◌, sym, ◌∙◌}
use native.Mathlib.Omega.{arith}
use lib.ListN.{length, take, length-set}
use lib.Seq.{length-take-le}
use Rattle.std.specs.Prelude.{Ok, Err}
use Rattle.std.proofs.lemmas.Grind.{common_steps}
use Rattle.series.specs.Sums.{listed}
use Rattle.series.specs.declared.Refusal.{Refusal}
use Rattle.text_rules.specs.Fields.{Text}
use Rattle.text_rules.specs.Rows.{rows_of}
use Rattle.text_rules.specs.Text.{MOST_LINES}
use Rattle.text_rules.proofs.ColumnLaws.{rows-set}
use Rattle.series_text.specs.Parts.{LinesRead}
use Rattle.series_text.specs.declared.lines.Lists.{Lists}
use Rattle.series_text.proofs.LineLaws.{RowsTo, none_left, some_left, rows_start, rows_end, rows_over, rows_malformed, rows_more, positions-refused, positions_all}
use Rattle.series_text.proofs.lines.read_positions.Goals as goal

pub loop-n-init : goal.loop-n-init
unfolding rows_of listed
loop-n-init c = (omega arith, omega arith, omega arith, rows_start)

-- n lines are read, and the text ends
ended : {c : Bool} {s rest : Text} (l : Lists) (n : ℕ) → n ≤ MOST_LINES → (length l.codes ≡ MOST_LINES) × (length l.accounts ≡ MOST_LINES) × (length l.numbers ≡ MOST_LINES) × RowsTo MOST_LINES c s (rows_of (take n l.codes ∷ take n l.accounts ∷ take n l.numbers ∷ [])) rest n
    → rest ≡ [] → LinesRead c s l.codes l.accounts l.numbers (Ok n)
ended l n le so e =
    let codes = length-take-le n l.codes (omega arith) in
    let accounts = length-take-le n l.accounts (omega arith) in
    let numbers = length-take-le n l.numbers (omega arith) in
    record {
      means = λ f t. positions_all _ f t _ (accounts ∙ sym codes) (numbers ∙ sym codes) (rows_end so.3 e);
      within = (omega arith, omega arith, omega arith, omega arith);
    }

pub returns-then-is_empty : goal.returns-then-is_empty
returns-then-is_empty c = ended c.loop-n.lists c.loop-n.n (omega arith) c.loop-n.invariant (none_left _ _ c.is_empty.ensures c.if-is_empty.true)

pub returns-in_err-position : goal.returns-in_err-position
returns-in_err-position c =
    let is : c.from_residual.result ≡ Err Refusal.Malformed = grind (arith, common_steps) in
    let bad = (rw c.in_err-position.ensures.ok_part at c.read_position.ensures).means in
    rw is (record { means = λ f t. positions-refused _ f t _ (rows_malformed c.loop-n.invariant.3 (some_left _ _ c.is_empty.ensures c.if-is_empty.false) (omega arith) bad); within = tt })

pub loop-n-preserved : goal.loop-n-preserved
loop-n-preserved c =
    let l = c.loop-n.lists in
    let read = rw c.in_ok-position.ensures.ok_part at c.read_position.ensures in
    let more = rows_more c.loop-n.invariant.3 (some_left _ _ c.is_empty.ensures c.if-is_empty.false) (omega arith) read.means in (
      length-set l.codes c.loop-n.n _ ∙ c.loop-n.invariant.0,
      length-set l.accounts c.loop-n.n _ ∙ c.loop-n.invariant.1,
      length-set l.numbers c.loop-n.n _ ∙ c.loop-n.invariant.2,
      rw (← rows-set l.codes l.accounts l.numbers c.loop-n.n c.in_ok-position.position.found (omega arith) (omega arith) (omega arith) read.three) at more,
    )

pub returns-then-not-is_empty : goal.returns-then-not-is_empty
returns-then-not-is_empty c = record { means = λ f t. positions-refused _ f t _ (rows_over c.loop-n.invariant.3 (some_left _ _ c.is_empty-2.ensures c.if-not-is_empty.true) (omega arith)); within = tt }

pub returns : goal.returns
returns c =
    let all : c.loop-n.n ≡ MOST_LINES = omega arith in
    rw all at (ended c.loop-n.lists c.loop-n.n (omega arith) c.loop-n.invariant (none_left _ _ c.is_empty-2.ensures c.if-not-is_empty.false))
