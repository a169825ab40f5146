-- The jobs may be done in any order. The laws:
--   one-after-other                  stretches of which one ends before the other begins have no element in common
--   exchange                         two jobs that are apart may change places
--   output-any-order                 jobs of which every two are apart leave the same output in any order
--   records-any-order                each record is the same in any order
--   laid-output, laid-records        both for jobs that passed 22
use mathlib.Core.Path.{◌≡◌, refl, sym, subst, ◌∙◌, ap}
use mathlib.Core.Bool.{false}
use mathlib.Core.Logic.Or
use mathlib.Core.HLevel.{⊥_prop, Π_prop}
use mathlib.Core.List.{List, [], ◌∷◌, Mem, not-mem-nil, mem-cons_self, mem-cons_of_mem, eq-or-mem_of_mem-cons}
use mathlib.Core.List.Permᴰ
use mathlib.Core.List.{Permᴰ}
use mathlib.Core.List.Pairwise
use mathlib.Core.List.{Pairwise, rel_of_Pairwise-cons}
use Prim.Native.Nat.{ℕ, zero, suc, ◌+◌, ◌-◌, ◌≤◌, ◌<◌}
use native.Mathlib.Nat.{le_of_suc-le-suc}
use native.Mathlib.Bridge.{le_prop}
use native.Mathlib.Omega.{arith}
use native.Mathlib.Decide.{dec_lt}
use lib.ListN.{length, get_or}
use lib.Seq.{ext_get_or}
use Rattle.jobs.specs.declared.Job.{Job}
use Rattle.jobs.specs.Jobs.{ending, stretch, misplaced, job_output, output_after, output_after_all, records_after}
use Rattle.jobs.specs.Turns.{no_job}
use Rattle.jobs.proofs.AloneLaws.{Lies, Apart, EachApart, AllWithin, output-length, job_outside, job_inside, job_aside, done_alone, records_alone, all_within, each_apart}

-- the same records in another order: one kept at the front, the first two exchanged, one order after another
abbrev pub Reordered : List Job → List Job → Type 0
Reordered = Permᴰ

-- ---- two jobs

-- one ends before the other begins
pub one_after_other : (j k : Job) → ending j ≤ k.first → Apart j k
one_after_other j k h i x y = omega (arith, x.1, y.0)

-- either way round
other_way : (j k : Job) → Apart j k → Apart k j
other_way j k apart i x y = apart i y x

-- whether an element lies in a stretch
lies? : (i : ℕ) (j : Job) → Dec (Lies i j)
lies? i j =
    elim (dec_lt i j.first) [
      | yes l ↦ no (λ p. omega (arith, p.0))
      | no l ↦ elim (dec_lt i (ending j)) [
        | yes m ↦ yes (omega arith, m)
        | no m ↦ no (λ p. m p.1)
      ]
    ]

module _ (accounts shorts : List ℕ) where
  -- in the stretch of j, what a job that is apart from it does before or after makes no difference
  same-inside : (j k : Job) (old : List ℕ) → ending j ≤ length old → ending k ≤ length old → Apart j k → (i : ℕ) → Lies i j
      → get_or (output_after accounts shorts k (output_after accounts shorts j old)) i 0 ≡ get_or (output_after accounts shorts j (output_after accounts shorts k old)) i 0
  same-inside j k old fj fk apart i lies =
      let by-j : List ℕ = output_after accounts shorts j old in
      let by-k : List ℕ = output_after accounts shorts k old in
      let both : List ℕ = output_after accounts shorts j by-k in
      let n : ℕ = i - j.first in
      let at : j.first + n ≡ i = omega (arith, lies.0) in
      let few : n < j.positions = omega (arith, lies.0, lies.1) in
      job_outside accounts shorts k by-j (omega (arith, output-length accounts shorts j old)) i (apart i lies)
      ∙ ap (λ x. get_or by-j x 0) (sym at)
      ∙ job_inside accounts shorts j old fj n few
      ∙ ap (λ xs. get_or (job_output j (stretch j accounts) (stretch j shorts) xs) n 0) (sym (job_aside accounts shorts k old fk j fj apart))
      ∙ sym (job_inside accounts shorts j by-k (omega (arith, output-length accounts shorts k old)) n few)
      ∙ ap (λ x. get_or both x 0) at

  -- two jobs that are apart may change places
  pub exchange : (j k : Job) (old : List ℕ) → ending j ≤ length old → ending k ≤ length old → Apart j k → output_after accounts shorts k (output_after accounts shorts j old) ≡ output_after accounts shorts j (output_after accounts shorts k old)
  exchange j k old fj fk apart = ext_get_or 0 j_first k_first (lengths k j ∙ sym (lengths j k)) (λ i _. each i)
    where
      -- j and then k
      j_first : List ℕ
      j_first = output_after accounts shorts k (output_after accounts shorts j old)

      -- k and then j
      k_first : List ℕ
      k_first = output_after accounts shorts j (output_after accounts shorts k old)

      -- both keep the length
      lengths : (x y : Job) → length (output_after accounts shorts x (output_after accounts shorts y old)) ≡ length old
      lengths x y = output-length accounts shorts x (output_after accounts shorts y old) ∙ output-length accounts shorts y old

      -- an element in neither stretch is kept
      neither : (x y : Job) → ending x ≤ length old → ending y ≤ length old → (i : ℕ) → (Lies i x → ⊥) → (Lies i y → ⊥) → get_or (output_after accounts shorts x (output_after accounts shorts y old)) i 0 ≡ get_or old i 0
      neither x y fx fy i ox oy = job_outside accounts shorts x (output_after accounts shorts y old) (omega (arith, output-length accounts shorts y old)) i ox ∙ job_outside accounts shorts y old fy i oy

      -- element by element
      each : (i : ℕ) → get_or j_first i 0 ≡ get_or k_first i 0
      each i =
          elim (lies? i j) [
            | yes x ↦ same-inside j k old fj fk apart i x
            | no x ↦ elim (lies? i k) [
              | yes y ↦ sym (same-inside k j old fk fj (other_way j k apart) i y)
              | no y ↦ neither k j fk fj i y x ∙ sym (neither j k fj fk i x y)
            ]
          ]

-- ---- members of a list, and its elements by their place

-- an element is a member
member_at : (js : List Job) (k : ℕ) → k < length js → Mem (get_or js k no_job) js
member_at [] k h = absurd (omega arith)
member_at (j ∷ js) zero h = mem-cons_self
member_at (j ∷ js) (suc k) h = mem-cons_of_mem j (member_at js k (le_of_suc-le-suc h))

-- what holds of every element holds of every member
of_members : (P : Job → Type 0) → ((j : Job) → IsProp (P j)) → (js : List Job) → ((k : ℕ) → k < length js → P (get_or js k no_job)) → (j : Job) → Mem j js → P j
of_members P prop [] h j m = absurd (not-mem-nil m)
of_members P prop (i ∷ js) h j m =
    Or.elim (prop j) (eq-or-mem_of_mem-cons m) (λ e. subst P (sym e) (h 0 (omega arith))) (of_members P prop js (λ k l. h (suc k) (omega arith)) j)

-- to be apart is a proposition
apart_prop : (j k : Job) → IsProp (Apart j k)
apart_prop j k = Π_prop (λ i. Π_prop (λ x. Π_prop (λ y. ⊥_prop)))

-- every two are apart, by members
pairwise_apart : (js : List Job) → EachApart js → Pairwise Apart js
pairwise_apart [] apart = Pairwise.nil
pairwise_apart (j ∷ js) apart =
    Pairwise.cons (of_members (Apart j) (apart_prop j) js (λ k l. apart 0 (suc k) (omega arith) (omega arith)))
    (pairwise_apart js (λ i k l m. apart (suc i) (suc k) (omega arith) (omega arith)))

-- every member ends within n elements
members_within : (js : List Job) (n : ℕ) → AllWithin js n → (j : Job) → Mem j js → ending j ≤ n
members_within js n = of_members (λ j. ending j ≤ n) (λ j. le_prop) js

module _ (accounts shorts : List ℕ) where
  -- ---- many jobs

  -- by the steps of the reordering
  reorder : {js js' : List Job} → Reordered js js' → (old : List ℕ) → Pairwise Apart js → ((j : Job) → Mem j js → ending j ≤ length old) → output_after_all accounts shorts js old ≡ output_after_all accounts shorts js' old
  unfolding output_after_all
  reorder Permᴰ.nil old p w = refl
  reorder (Permᴰ.cons {a = a} {b = b} {l₁ = l₁} e d) old p w =
      ap (λ x. output_after_all accounts shorts l₁ (output_after accounts shorts x old)) e
      ∙ reorder d (output_after accounts shorts b old) (Pairwise.of_cons p) (λ j m. rw (output-length accounts shorts b old) (w j (mem-cons_of_mem a m)))
  reorder (Permᴰ.swap {a = a} {b = b} {l = l} e₁ e₂) old p w =
      ap (output_after_all accounts shorts l)
      (exchange accounts shorts a b old (w a mem-cons_self) (w b (mem-cons_of_mem a mem-cons_self)) (rel_of_Pairwise-cons p mem-cons_self) ∙ rw (e₁, e₂))
  reorder (Permᴰ.trans d₁ d₂) old p w = reorder d₁ old p w ∙ reorder d₂ old (Permᴰ.pairwise apart_prop other_way d₁ p) (λ j m. w j (Permᴰ.mem (Permᴰ.symm d₁) m))

  module _ {js js' : List Job} (same : Reordered js js') (old : List ℕ) (w : AllWithin js (length old)) where
    -- jobs of which every two are apart leave the same output in any order
    pub output_any_order : EachApart js → output_after_all accounts shorts js' old ≡ output_after_all accounts shorts js old
    output_any_order apart = sym (reorder same old (pairwise_apart js apart) (members_within js (length old) w))

    -- each record is the same in any order
    pub records_any_order : Reordered (records_after accounts shorts js old) (records_after accounts shorts js' old)
    records_any_order =
        rw (records_alone accounts shorts js old w, records_alone accounts shorts js' old (λ k l. members_within js (length old) w (get_or js' k no_job) (Permᴰ.mem (Permᴰ.symm same) (member_at js' k l))))
        (Permᴰ.map (done_alone accounts shorts) same)

-- ---- jobs that passed 22, in lists that passed 4

module _ (accounts shorts : List ℕ) {js js' : List Job} (same : Reordered js js') (old : List ℕ) (room : length shorts ≤ length old) (laid : misplaced js 0 (length shorts) ≡ false) where
  -- they leave the same output in any order
  pub laid_output : output_after_all accounts shorts js' old ≡ output_after_all accounts shorts js old
  laid_output = output_any_order accounts shorts same old (all_within accounts shorts js old room laid) (each_apart accounts shorts js old room laid)

  -- and the same records
  pub laid_records : Reordered (records_after accounts shorts js old) (records_after accounts shorts js' old)
  laid_records = records_any_order accounts shorts same old (all_within accounts shorts js old room laid)
