-- The merged list as a list of a series: what judging it finds.
use Prim.Native.Nat.{ℕ, ◌+◌, ◌≤◌}
use mathlib.Core.Path.{◌≡◌, refl, sym, ap, ap₂, ◌∙◌}
use mathlib.Core.List.{List, [], ◌∷◌}
use native.Mathlib.Omega.{arith}
use native.Mathlib.Decide.{dec_lt}
use native.Mathlib.Nat.{zero-add}
use lib.Dec.{eqb, ltb, leb}
use lib.ListN.{length, length-map}
use borrow.Author.Tests.{lt-ltb, le-ltb, lt-leb, leb-false, eqb-false, eq-eqb, ne_eqb}
use Rattle.series.specs.Results.{value}
use Rattle.series.specs.Places.{total}
use Rattle.series.specs.Series.{MOST_POSITIONS, MOST_CONTRACTS, ordered_by}
use Rattle.series.specs.Refusals.{◌⟶◌∣◌, first, NoneApplies, length_rows, account_refused, position_rows, list_verdict, list_verdict_for}
use Rattle.series.specs.declared.Method.{Method}
use Rattle.series.proofs.AcceptedLaws.{or-false, positive, list_verdict_lem}
use Rattle.series.proofs.CodeLaws.{codes_are_accounts}
use Rattle.list_judging.proofs.ListLaws.{judged_list}
use Rattle.merging.specs.Merging.{Position, PositionList, list_of, paired, positions, accounts_of, shorts_of, judged_alone, merged_of}
use Rattle.merging.proofs.MergeLaws.{Between, merged-length, Rises, merged_rises}
use Rattle.merging.proofs.JudgeLaws.{faultless}
use Rattle.merging.proofs.WalkLaws.{accounts-long, paired-accounts}
use Rattle.merging.proofs.CallLaws.{whole-total}

-- ---- every method judges a list that rises by account alike

-- under P, L and R whatever the codes, and under W where every code is its account
pub judged_alike : (m : Method) (codes : List ℕ) (l : PositionList) → ordered_by m codes l.accounts ≡ l.accounts → list_verdict m codes l.accounts l.shorts ≡ judged_alone l
judged_alike m codes l e =
    let n : ℕ = length l.shorts in
    sym (judged_list m codes l.accounts l.shorts (list_verdict_for m (ordered_by m codes l.accounts) l.accounts l.shorts n) refl)
    ∙ ap (λ order. list_verdict_for m order l.accounts l.shorts n) e
    ∙ codes_are_accounts m Method.ProRata l.accounts l.shorts n
    ∙ judged_list Method.ProRata l.accounts l.accounts l.shorts _ refl

-- ---- rising positions and the rows

-- positions that no row turns away rise
pub passed_rises : (earlier : List ℕ) (b sum : ℕ) (accounts shorts : List ℕ) → length accounts ≡ length shorts → NoneApplies (position_rows Method.ProRata earlier b sum accounts accounts shorts) → Rises b (paired accounts shorts)
unfolding position_rows NoneApplies Rises paired
passed_rises earlier b sum [] hs e none = tt
passed_rises earlier b sum (a ∷ rest) [] e none = absurd (omega arith)
passed_rises earlier b sum (a ∷ rest) (h ∷ hs) e none =
    (leb-false a b (or-false (eqb a 0) (leb a b) none.0).1, (positive (eqb-false h 0 none.1.1.0), passed_rises (a ∷ earlier) a (sum + h) rest hs (omega arith) none.1.1.1.1))

-- so the positions of a list without a fault rise
pub faultless_rises : (l : PositionList) (T : ℕ) → judged_alone l ≡ value T → Rises 0 (positions l)
faultless_rises l T e = let f = faultless l T e in passed_rises [] 0 0 l.accounts l.shorts f.bounded.even f.passed

-- rising positions meet no row but 7, and that where they hold too many contracts with the sum before them
rises_judged : (X : ℕ) (ps : List Position) (earlier : List ℕ) (b sum : ℕ) → Rises b ps → sum ≤ MOST_CONTRACTS
    → first (position_rows Method.ProRata earlier b sum (accounts_of ps) (accounts_of ps) (shorts_of ps)) X ≡ first (ltb MOST_CONTRACTS (sum + total (shorts_of ps)) ⟶ 7 ∣ []) X
unfolding position_rows account_refused Rises first total
rises_judged X [] earlier b sum r most = rw (le-ltb MOST_CONTRACTS (sum + 0) (omega arith)) refl
rises_judged X (p ∷ ps) earlier b sum r most =
    let some : p.account ≡ 0 → ⊥ = λ e. omega (arith, r.0) in
    let held : p.shorts ≡ 0 → ⊥ = λ e. omega (arith, r.1.0) in
    let T : ℕ = total (shorts_of ps) in
    rw (ne_eqb p.account 0 some, lt-leb p.account b r.0, ne_eqb p.shorts 0 held)
    (elim (dec_lt MOST_CONTRACTS (sum + p.shorts)) [
      | yes l ↦ rw (lt-ltb MOST_CONTRACTS (sum + p.shorts) l, lt-ltb MOST_CONTRACTS (sum + (p.shorts + T)) (omega arith)) refl
      | no g ↦
          let sums : sum + p.shorts + T ≡ sum + (p.shorts + T) = omega arith in
          rw (le-ltb MOST_CONTRACTS (sum + p.shorts) (omega arith))
          (rises_judged X ps (p.account ∷ earlier) p.account (sum + p.shorts) r.1.1 (omega arith) ∙ ap (λ n. first (ltb MOST_CONTRACTS n ⟶ 7 ∣ []) X) sums)
    ])

-- ---- the merged list of two lists without a fault

-- as a list that a call takes
abbrev pub merged_list : PositionList → PositionList → PositionList
merged_list one two = list_of (accounts_of (merged_of one two)) (shorts_of (merged_of one two))

module _ (one two : PositionList) (T U : ℕ) (first_is : judged_alone one ≡ value T) (second_is : judged_alone two ≡ value U) where
  -- it rises, and no shorts are 0
  pub whole_rises : Rises 0 (merged_of one two)
  whole_rises = merged_rises (positions one) (positions two) 0 (faultless_rises one T first_is) (faultless_rises two U second_is)

  -- so many positions it has
  pub whole_length : Between (length one.accounts) (length two.accounts) (length (merged_of one two))
  whole_length =
      let b = (faultless one T first_is).bounded in
      let d = (faultless two U second_is).bounded in
      let long = accounts-long (positions one) one.accounts (paired-accounts one.accounts one.shorts b.even) in
      let long2 = accounts-long (positions two) two.accounts (paired-accounts two.accounts two.shorts d.even) in
      let w = merged-length (positions one) (positions two) in
      record { first = omega (arith, w.first); second = omega (arith, w.second); most = omega (arith, w.most) }

  -- T is the sum of both
  pub whole_sum : total (shorts_of (merged_of one two)) ≡ T + U
  whole_sum = let f = faultless one T first_is in let g = faultless two U second_is in whole-total one two f.bounded g.bounded ∙ ap₂ ◌+◌ (sym f.sum) (sym g.sum)

  -- of the list's refusals it can meet 2 and 7 alone
  pub whole_judged : judged_alone (merged_list one two) ≡ first (ltb MOST_POSITIONS (length (merged_of one two)) ⟶ 2 ∣ ltb MOST_CONTRACTS (T + U) ⟶ 7 ∣ []) (T + U)
  unfolding first length_rows
  whole_judged =
      let ms : List Position = merged_of one two in
      let accounts : List ℕ = accounts_of ms in
      let shorts : List ℕ = shorts_of ms in
      let long : length accounts ≡ length shorts = length-map ms (λ p. p.account) ∙ sym (length-map ms (λ p. p.shorts)) in
      let some : length shorts ≡ 0 → ⊥ = λ e. omega (arith, length-map ms (λ p. p.shorts), whole_length.first, (faultless one T first_is).some, (faultless one T first_is).bounded.even) in
      list_verdict_lem Method.ProRata accounts accounts shorts
      ∙ rw (eq-eqb (length accounts) (length shorts) long, ne_eqb (length shorts) 0 some, rises_judged (total shorts) ms [] 0 0 whole_rises (omega arith), zero-add (total shorts), whole_sum, length-map ms (λ p. p.shorts)) refl

  -- where neither applies, no list's refusal is met, under any method that goes by accounts
  pub whole_accepted : length (merged_of one two) ≤ MOST_POSITIONS → T + U ≤ MOST_CONTRACTS → (m : Method) (codes : List ℕ) → ordered_by m codes (accounts_of (merged_of one two)) ≡ accounts_of (merged_of one two)
      → list_verdict m codes (accounts_of (merged_of one two)) (shorts_of (merged_of one two)) ≡ value (T + U)
  unfolding first
  whole_accepted few small m codes e =
      judged_alike m codes (merged_list one two) e ∙ whole_judged ∙ rw (le-ltb MOST_POSITIONS (length (merged_of one two)) few, le-ltb MOST_CONTRACTS (T + U) small) refl
