-- A list that is judged alone.
use Prim.Native.Nat.{ℕ}
use mathlib.Core.Path.{◌≡◌, sym, ap, ◌∙◌}
use mathlib.Core.List.{List, [], ◌++◌}
use native.Mathlib.Nat.{le_refl}
use lib.ListN.{length}
use borrow.Author.Tests.{le-ltb}
use Rattle.series.specs.Results.{Result, ◌>>=◌}
use Rattle.series.specs.Places.{total}
use Rattle.series.specs.Series.{ordered_by}
use Rattle.series.specs.Refusals.{Row, ◌⟶◌∣◌, first, length_rows, room_rows, position_rows, list_rows, list_verdict, list_verdict_for}
use Rattle.series.specs.declared.Method.{Method}
use Rattle.series.proofs.AcceptedLaws.{list_verdict_lem}
use Rattle.series.proofs.RowLaws.{first-append}

-- a list is judged with an output of its own length
pub judged_list : (m : Method) (codes accounts shorts : List ℕ) (v : Result ℕ) → v ≡ list_verdict_for m (ordered_by m codes accounts) accounts shorts (length shorts) → v ≡ list_verdict m codes accounts shorts
unfolding list_rows room_rows first
judged_list m codes accounts shorts v e =
    let order : List ℕ = ordered_by m codes accounts in
    let positions : List Row = position_rows m [] 0 0 order accounts shorts in
    e
    ∙ first-append (length_rows order accounts shorts) (room_rows shorts (length shorts) ++ positions) (total shorts)
    ∙ ap (λ b. first (length_rows order accounts shorts) (total shorts) >>= first (b ⟶ 4 ∣ positions)) (le-ltb (length shorts) (length shorts) (le_refl (length shorts)))
    ∙ sym (first-append (length_rows order accounts shorts) positions (total shorts))
    ∙ sym (list_verdict_lem m codes accounts shorts)
