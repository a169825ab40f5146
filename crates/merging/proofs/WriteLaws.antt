-- Writing the merged list: what a turn of the loop writes, and what is left of both lists after it.
use Prim.Native.Nat.{ℕ, ◌+◌, ◌-◌, ◌≤◌, ◌<◌}
use mathlib.Core.Path.{◌≡◌, refl, sym, ap, ap₂, ◌∙◌}
use mathlib.Core.Logic.{◌⊎◌, inl, inr, ⊎_elim}
use mathlib.Core.List.{List, map, ◌++◌, map-append}
use native.Mathlib.Omega.{arith}
use native.Mathlib.Nat.{zero-add}
use lib.ListN.{length, get_or, set, take, drop, length-drop, length-map, get_or-map}
use lib.Seq.{sets, length-sets}
use Rattle.std.proofs.lemmas.List.{append_assoc, drop-drop, take_all}
use borrow.Rule.Slice.PartMut.{put_mid}
use Rattle.std.proofs.lemmas.List.Edits.{sets-eq}
use Rattle.series.specs.Results.{value}
use Rattle.series.specs.Outputs.{onto, Lent, lent}
use Rattle.series.specs.Series.{MOST_CONTRACTS}
use Rattle.series.proofs.SumLaws.{total_term}
use Rattle.merging.specs.Merging.{Position, PositionList, positions, accounts_of, shorts_of, added, ListsMerged, merged_of}
use Rattle.merging.specs.Walks.{Fitting, FittingFrom, PutFrom}
use Rattle.merging.proofs.MergeLaws.{merged-length}
use Rattle.merging.proofs.WalkLaws.{none, Walked, account-at, accounts-long, shorts-at, Step, step_first, step_second, step_both, more, walked_at, walked_next, walked_end, walked_count, Written, written-length, written_next, written_all, paired-accounts, paired-shorts, map-drop}

-- the outputs keep their lengths
pub put_length : (l : PositionList) (begin at : ℕ) (accounts shorts : Lent (List ℕ)) → PutFrom l begin at accounts shorts → (length accounts.new ≡ length accounts.old) × (length shorts.new ≡ length shorts.old)
put_length l begin at accounts shorts p = (ap length p.puts_accounts ∙ length-sets accounts.old at (drop begin l.accounts), ap length p.puts_shorts ∙ length-sets shorts.old at (drop begin l.shorts))

-- n positions of the merged list are written
pub record Writing (one two : PositionList) (accounts₀ shorts₀ accounts shorts : List ℕ) (i j n : ℕ) : Type 0 where
  pub walked : Walked (positions one) (positions two) i j n
  pub accounts_written : Written accounts₀ 0 (accounts_of (merged_of one two)) n accounts
  pub shorts_written : Written shorts₀ 0 (shorts_of (merged_of one two)) n shorts

-- what is left of a list from an index on is put where it is copied to
pub put_part : (old new us : List ℕ) (begin at k : ℕ) → new ≡ take (length us - begin) (drop begin us) → k ≡ length us - begin → at + (length us - begin) ≤ length old → put_mid at k old new ≡ sets old at (drop begin us)
put_part old new us begin at k copied left room =
    let vs : List ℕ = drop begin us in
    let past : k ≡ length vs = omega (arith, length-drop begin us) in
    let whole : new ≡ vs = copied ∙ take_all (length us - begin) vs (omega arith) in
    rw (whole, past, drop-drop) (sym (append_assoc (take at old) vs (drop (at + length vs) old)) ∙ sym (sets-eq vs old at (omega arith)))

module _ {one two : PositionList} {accounts₀ shorts₀ : List ℕ} (fit : Fitting one two accounts₀ shorts₀) {accounts shorts : List ℕ} {i j n : ℕ} (w : Writing one two accounts₀ shorts₀ accounts shorts i j n) where
  ones : accounts_of (positions one) ≡ one.accounts
  ones = paired-accounts one.accounts one.shorts fit.bounded_one.even

  twos : accounts_of (positions two) ≡ two.accounts
  twos = paired-accounts two.accounts two.shorts fit.bounded_two.even

  one-shorts : shorts_of (positions one) ≡ one.shorts
  one-shorts = paired-shorts one.accounts one.shorts fit.bounded_one.even

  two_shorts : shorts_of (positions two) ≡ two.shorts
  two_shorts = paired-shorts two.accounts two.shorts fit.bounded_two.even

  -- both indexes are on their lists
  pub on-lists : (i ≤ length one.accounts) × (j ≤ length two.accounts)
  on-lists = (omega (arith, w.walked.on_first, accounts-long (positions one) one.accounts ones), omega (arith, w.walked.on_second, accounts-long (positions two) two.accounts twos))

  accounts-same : length accounts ≡ length accounts₀
  accounts-same = written-length accounts₀ 0 (accounts_of (merged_of one two)) n accounts w.accounts_written

  shorts-same : length shorts ≡ length shorts₀
  shorts-same = written-length shorts₀ 0 (shorts_of (merged_of one two)) n shorts w.shorts_written

  pub both-same : (length accounts ≡ length accounts₀) × (length shorts ≡ length shorts₀)
  both-same = (accounts-same, shorts-same)

  -- ---- a turn

  module _ (h : i < length one.accounts) (k : j < length two.accounts) where
    abbrev p : Position
    p = get_or (positions one) i none

    abbrev q : Position
    q = get_or (positions two) j none

    first_has : i < length (positions one)
    first_has = omega (arith, accounts-long (positions one) one.accounts ones)

    second_has : j < length (positions two)
    second_has = omega (arith, accounts-long (positions two) two.accounts twos)

    -- the next position of each list
    first_is : (get_or one.accounts i 0 ≡ p.account) × (get_or one.shorts i 0 ≡ p.shorts)
    first_is = (account-at (positions one) one.accounts i ones, shorts-at (positions one) one.shorts i one-shorts)

    second_is : (get_or two.accounts j 0 ≡ q.account) × (get_or two.shorts j 0 ≡ q.shorts)
    second_is = (account-at (positions two) two.accounts j twos, shorts-at (positions two) two.shorts j two_shorts)

    -- the merged list has a position more, and both outputs have room for it
    pub has_room : (n < length accounts) × (n < length shorts)
    has_room =
        let more = (merged-length (drop i (positions one)) (drop j (positions two))).first in
        let left = length-drop i (positions one) in
        let counted = w.walked.counted in
        (omega (arith, first_has, accounts-same, fit.accounts_room), omega (arith, first_has, shorts-same, fit.shorts_room))

    -- a turn that steps past the position m writes it
    writes_step : (k l : ℕ) (m : Position) → Step (positions one) (positions two) i j k l m → (u v : ℕ) → u ≡ m.account → v ≡ m.shorts → Writing one two accounts₀ shorts₀ (set accounts n u) (set shorts n v) k l (n + 1)
    writes_step k l m s u v eu ev =
        let ms : List Position = merged_of one two in
        let lt = more (positions one) (positions two) i j n w.walked k l m s in
        let at = walked_at (positions one) (positions two) i j n w.walked k l m s in
        record {
          walked = walked_next (positions one) (positions two) i j n w.walked k l m s;
          accounts_written = written accounts₀ accounts (accounts_of ms) u w.accounts_written (omega (arith, length-map ms (λ x. x.account))) (eu ∙ sym (get_or-map (λ x. x.account) ms n none ∙ ap (λ x. x.account) at));
          shorts_written = written shorts₀ shorts (shorts_of ms) v w.shorts_written (omega (arith, length-map ms (λ x. x.shorts))) (ev ∙ sym (get_or-map (λ x. x.shorts) ms n none ∙ ap (λ x. x.shorts) at));
        }
      where
        written : (old new vs : List ℕ) (v : ℕ) → Written old 0 vs n new → n < length vs → v ≡ get_or vs n 0 → Written old 0 vs (n + 1) (set new n v)
        written old new vs v done lt e = ap (λ k. set new k v) (sym (zero-add n)) ∙ written_next old 0 vs n new v done lt e

    pub writes-first : get_or one.accounts i 0 < get_or two.accounts j 0 → Writing one two accounts₀ shorts₀ (set accounts n (get_or one.accounts i 0)) (set shorts n (get_or one.shorts i 0)) (i + 1) j (n + 1)
    writes-first lt = writes_step (i + 1) j p (step_first (positions one) (positions two) i j first_has second_has (omega (arith, first_is, second_is))) _ _ first_is.0 first_is.1

    pub writes-second : get_or two.accounts j 0 < get_or one.accounts i 0 → Writing one two accounts₀ shorts₀ (set accounts n (get_or two.accounts j 0)) (set shorts n (get_or two.shorts j 0)) i (j + 1) (n + 1)
    writes-second lt = writes_step i (j + 1) q (step_second (positions one) (positions two) i j first_has second_has (omega (arith, first_is, second_is))) _ _ second_is.0 second_is.1

    pub writes-both : get_or one.accounts i 0 ≡ get_or two.accounts j 0
        → Writing one two accounts₀ shorts₀ (set accounts n (get_or one.accounts i 0)) (set shorts n (get_or one.shorts i 0 + get_or two.shorts j 0)) (i + 1) (j + 1) (n + 1)
    writes-both is =
        writes_step (i + 1) (j + 1) (added p q) (step_both (positions one) (positions two) i j first_has second_has (omega (arith, first_is, second_is))) _ _ first_is.0 (ap₂ ◌+◌ first_is.1 second_is.1)

    -- the sum of both positions' shorts is small
    pub sum-small : get_or one.shorts i 0 + get_or two.shorts j 0 ≤ MOST_CONTRACTS + MOST_CONTRACTS
    sum-small =
        let b = fit.bounded_one in
        let d = fit.bounded_two in
        omega (arith, total_term one.shorts i (omega (arith, b.even)), total_term two.shorts j (omega (arith, d.even)), b.small, d.small)

  -- ---- one list is passed

  module _ (end : (length one.accounts ≤ i) ⊎ (length two.accounts ≤ j)) where
    ended : (length (positions one) ≤ i) ⊎ (length (positions two) ≤ j)
    ended =
        let long = accounts-long (positions one) one.accounts ones in
        let long2 = accounts-long (positions two) two.accounts twos in
        ⊎_elim (λ h. inl (omega arith)) (λ h. inr (omega arith)) end

    -- so many positions the merged list has
    pub all_counted : n + (length one.accounts - i) + (length two.accounts - j) ≡ length (merged_of one two)
    all_counted =
        ap₂ (λ k l. n + (k - i) + (l - j)) (sym (accounts-long (positions one) one.accounts ones)) (sym (accounts-long (positions two) two.accounts twos))
        ∙ walked_count (positions one) (positions two) i j n w.walked ended

    pub first_fits : FittingFrom one i n accounts shorts
    first_fits =
        let count = all_counted in
        record {
          even = fit.bounded_one.even;
          within = on-lists.0;
          accounts_room = omega (arith, accounts-same, fit.accounts_room);
          shorts_room = omega (arith, shorts-same, fit.shorts_room);
        }

    module _ (accounts₁ shorts₁ : List ℕ) (put : PutFrom one i n (lent accounts accounts₁) (lent shorts shorts₁)) where
      pub second_fits : FittingFrom two j (n + (length one.accounts - i)) accounts₁ shorts₁
      second_fits =
          let count = all_counted in
          record {
            even = fit.bounded_two.even;
            within = on-lists.1;
            accounts_room = omega (arith, put_length one i n (lent accounts accounts₁) (lent shorts shorts₁) put, accounts-same, fit.accounts_room);
            shorts_room = omega (arith, put_length one i n (lent accounts accounts₁) (lent shorts shorts₁) put, shorts-same, fit.shorts_room);
          }

      pub all_written : (accounts₂ shorts₂ : List ℕ) → PutFrom two j (n + (length one.accounts - i)) (lent accounts₁ accounts₂) (lent shorts₁ shorts₂)
          → ListsMerged (value (merged_of one two)) (lent accounts₀ accounts₂) (lent shorts₀ shorts₂)
      all_written accounts₂ shorts₂ put2 =
          record {
            writes_accounts = complete (λ p. p.account) accounts₀ accounts accounts₁ accounts₂ one.accounts two.accounts ones twos refl fit.accounts_room w.accounts_written put.puts_accounts put2.puts_accounts;
            writes_shorts = complete (λ p. p.shorts) shorts₀ shorts shorts₁ shorts₂ one.shorts two.shorts one-shorts two_shorts fit.bounded_one.even fit.shorts_room w.shorts_written put.puts_shorts put2.puts_shorts;
          }
        where
          complete : (f : Position → ℕ) (old new new₁ new₂ us vs : List ℕ) → map f (positions one) ≡ us → map f (positions two) ≡ vs → length one.accounts ≡ length us → length (merged_of one two) ≤ length old
              → Written old 0 (map f (merged_of one two)) n new → new₁ ≡ sets new n (drop i us) → new₂ ≡ sets new₁ (n + (length one.accounts - i)) (drop j vs) → new₂ ≡ onto (map f (merged_of one two)) old
          complete f old new new₁ new₂ us vs eu ev long room done e₁ e₂ =
              let ms : List Position = merged_of one two in
              let left : drop n (map f ms) ≡ drop i us ++ drop j vs =
              sym (map-drop f n ms)
              ∙ ap (map f) (walked_end (positions one) (positions two) i j n w.walked ended)
              ∙ map-append f (drop i (positions one)) (drop j (positions two))
              ∙ ap₂ ◌++◌ (map-drop f i (positions one) ∙ ap (drop i) eu) (map-drop f j (positions two) ∙ ap (drop j) ev)
              in
              let many : length (map f ms) ≡ length ms = length-map ms f in
              let count = all_counted in
              written_all old (map f ms) (drop i us) (drop j vs) n new₂ (omega arith) left (omega arith)
              (e₂ ∙ ap₂ (λ l k. sets l k (drop j vs)) (e₁ ∙ ap (λ l. sets l n (drop i us)) done) (ap (n +◌) (ap (λ k. k - i) long ∙ sym (length-drop i us))))
