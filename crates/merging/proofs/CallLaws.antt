-- What the call comes to, as its functions find it.
use Prim.Native.Nat.{ℕ, ◌+◌, ◌≤◌}
use mathlib.Core.Path.{◌≡◌, refl, sym, ap, ap₂, ◌∙◌}
use mathlib.Core.List.{List}
use lib.ListN.{length}
use borrow.Author.Tests.{ltb-false}
use Rattle.series.specs.Results.{Result, refused, value, ◌>>=◌}
use Rattle.series.specs.Outputs.{lent}
use Rattle.series.specs.Places.{total}
use Rattle.series.specs.Refusals.{NoneApplies}
use Rattle.series.proofs.AcceptedLaws.{or-false}
use Rattle.series.proofs.ResultLaws.{never, value_is, Stepped, stepped}
use Rattle.series.proofs.RowLaws.{value_passed, passed_value}
use Rattle.merging.specs.Merging.{Position, PositionList, Handed, positions, shorts_of, judged_alone, merged_rows, judged_merged, merge_into, handed, ListsMerged, Merges, merged_of}
use Rattle.merging.specs.Walks.{judged_both, Bounded, BothBounded}
use Rattle.merging.proofs.MergeLaws.{merged-total}
use Rattle.merging.proofs.JudgeLaws.{faultless}
use Rattle.merging.proofs.WalkLaws.{paired-shorts}

-- ---- lists that are judged

module _ (one two : PositionList) where
  -- the total of the merged list
  pub whole-total : Bounded one → Bounded two → total (shorts_of (merged_of one two)) ≡ total one.shorts + total two.shorts
  whole-total b d =
      merged-total (positions one) (positions two)
      ∙ ap₂ ◌+◌ (ap total (paired-shorts one.accounts one.shorts b.even)) (ap total (paired-shorts two.accounts two.shorts d.even))

  -- where there is a merged list to be written it is this one, and fits both outputs
  pub record Passed (accountsRoom shortsRoom : ℕ) : Type 0 where
    pub comes_to_is : judged_merged one two accountsRoom shortsRoom ≡ value (merged_of one two)
    pub accounts_fit : length (merged_of one two) ≤ accountsRoom
    pub shorts_fit : length (merged_of one two) ≤ shortsRoom

  pub passed : (accountsRoom shortsRoom : ℕ) (ms : List Position) → judged_merged one two accountsRoom shortsRoom ≡ value ms → Passed accountsRoom shortsRoom
  unfolding judged_merged merged_rows NoneApplies
  passed accountsRoom shortsRoom ms e =
      let none = value_passed (merged_rows (merged_of one two) accountsRoom shortsRoom) (merged_of one two) ms e in
      let room = or-false _ _ none.1.1.0 in
      record {
        comes_to_is = passed_value (merged_rows (merged_of one two) accountsRoom shortsRoom) (merged_of one two) none;
        accounts_fit = ltb-false _ _ room.0;
        shorts_fit = ltb-false _ _ room.1;
      }

-- a call that hands something back came to a list
pub handed-from : (r : Result (List Position)) (h : Handed) → handed r ≡ value h → Stepped (List Position) Handed r (λ ps. value (record { positions = length ps; total = total (shorts_of ps) })) h
unfolding handed
handed-from r h e = stepped r (λ ps. value (record { positions = length ps; total = total (shorts_of ps) })) h e

-- a refusal keeps both outputs
pub refused_kept : (r : Result (List Position)) (n : ℕ) (accounts shorts : List ℕ) → handed r ≡ refused n → ListsMerged r (lent accounts accounts) (lent shorts shorts)
unfolding handed
refused_kept (refused m) n accounts shorts e = record { writes_accounts = refl; writes_shorts = refl }
refused_kept (value ps) n accounts shorts e = absurd (never n _ (sym e))

-- and so does a call that comes to one
pub merges_refused : (r : Result (List Position)) (n : ℕ) (accounts shorts : List ℕ) → r ≡ refused n → Merges r (refused n) (lent accounts accounts) (lent shorts shorts)
unfolding handed
merges_refused r n accounts shorts e = record { answered = ap handed (sym e); written = refused_kept r n accounts shorts (ap handed e) }

-- ---- the whole call

module _ (one two : PositionList) (accountsRoom shortsRoom : ℕ) where
  -- a refusal of one of the lists is the call's
  pub call_refused : (n : ℕ) → judged_both one two ≡ refused n → merge_into one two accountsRoom shortsRoom ≡ refused n
  unfolding judged_both merge_into
  call_refused n e = by_first (judged_alone one) (judged_alone two) e
    where
      number_is : {m : ℕ} → ◌≡◌ {A = Result ℕ} (refused m) (refused n) → m ≡ n
      number_is k = cc

      by_first : (v w : Result ℕ) → (v >>= (λ T. w >>= (λ U. value (T + U)))) ≡ refused n → (v >>= (λ T. w >>= (λ U. judged_merged one two accountsRoom shortsRoom))) ≡ refused n
      by_first (refused m) w k = ap refused (number_is k)
      by_first (value T) (refused m) k = ap refused (number_is k)
      by_first (value T) (value U) k = absurd (never n _ (sym k))

  -- else it comes to what the merged list does
  pub call_judged : (T : ℕ) → judged_both one two ≡ value T → merge_into one two accountsRoom shortsRoom ≡ judged_merged one two accountsRoom shortsRoom
  unfolding judged_both merge_into
  call_judged T e = by_both (judged_alone one) (judged_alone two) e
    where
      by_both : (v w : Result ℕ) → (v >>= (λ T. w >>= (λ U. value (T + U)))) ≡ value T → (v >>= (λ T. w >>= (λ U. judged_merged one two accountsRoom shortsRoom))) ≡ judged_merged one two accountsRoom shortsRoom
      by_both (refused m) w k = absurd (never m T k)
      by_both (value t) (refused m) k = absurd (never m T k)
      by_both (value t) (value u) k = refl

-- two lists that meet no refusal, and the sum of their totals
pub both_bounded : (one two : PositionList) (T : ℕ) → judged_both one two ≡ value T → BothBounded one two T
unfolding judged_both
both_bounded one two T e =
    let s = stepped (judged_alone one) (λ t. judged_alone two >>= (λ u. value (t + u))) T e in
    let t = stepped (judged_alone two) (λ u. value (s.from + u)) T s.on in
    let f = faultless one s.from s.step in
    let g = faultless two t.from t.step in
    record { bounded_one = f.bounded; bounded_two = g.bounded; sum = sym (value_is t.on) ∙ ap₂ ◌+◌ f.sum g.sum }
