-- Laws of every accepted day: nothing is lost, no one is both long and short after the final trading day, and an ordinary day's limit is never below that day's.
use Prim.Native.Nat.{ℕ, ◌+◌, ◌≤◌}
use mathlib.Core.Path.{◌≡◌, refl, sym, ap, ◌∙◌}
use mathlib.Core.Bool.{false, cond}
use mathlib.Core.Logic.{◌⊎◌, inl, inr}
use native.Mathlib.Omega.{arith}
use native.Mathlib.Decide.{dec_le}
use borrow.Author.Tests.{ltb-false}
use lib.Dec.{ltb}
use Rattle.series.specs.Results.{refused, value}
use Rattle.series.specs.Series.{MOST_CONTRACTS}
use Rattle.series.specs.Refusals.{first, NoneApplies}
use Rattle.series.proofs.RowLaws.{value_passed, value_same}
use Rattle.activity_rules.specs.Activity.{both, ordinary_day, final_day, after_day, market_maker_limit, any_above, investor_counts, closes_above_short, investor_rows, investor_day}
use Rattle.activity_rules.specs.declared.Day.{Day}
use Rattle.activity_rules.specs.declared.Investor.{Investor}
use Rattle.activity_rules.specs.declared.MarketMaker.{MarketMaker}
use Rattle.activity_rules.specs.declared.AfterDay.{AfterDay}
use Rattle.activity_rules.proofs.CountLaws.{counted, none_above}
use Rattle.activity_rules.proofs.DayLaws.{processed}

-- what holds where an investor meets no refusal and gets a
pub record AcceptedDay (d : Day) (i : Investor) (a : AfterDay) : Type 0 where
  pub gets : after_day d i ≡ a
  pub counts : any_above (investor_counts i) ≡ false
  pub seventeen : closes_above_short i ≡ false
  pub closing : i.purchases.closing.0 ≤ i.short.0 + i.sales.opening.0
  pub within : i.exercised.0 ≤ (after_day d i).limit.0

-- no row of the three applies
pub accepted : (d : Day) (i : Investor) (a : AfterDay) → investor_day d i ≡ value a → AcceptedDay d i a
unfolding investor_day investor_rows NoneApplies
accepted d i a e =
    let none = value_passed (investor_rows d i) (after_day d i) a e in
    record {
      gets = value_same (investor_rows d i) (after_day d i) a e;
      counts = none.0;
      seventeen = none.1.0;
      closing = ltb-false (i.short.0 + i.sales.opening.0) i.purchases.closing.0 none.1.0;
      within = ltb-false (after_day d i).limit.0 i.exercised.0 none.1.1.0;
    }

-- long after the day, opening short, all sales and the exercised are as many as short after the day, opening long and all purchases
abbrev pub Kept : Investor → AfterDay → Type 0
Kept i a = a.long.0 + (i.short.0 + both i.sales) + i.exercised.0 ≡ a.short.0 + (i.long.0 + both i.purchases)

-- nothing is lost, on either kind of day
pub nothing_lost : (d : Day) (i : Investor) (a : AfterDay) → investor_day d i ≡ value a → Kept i a
unfolding after_day ordinary_day final_day
nothing_lost d i a e = let f = accepted d i a e in rw f.gets at (kept d f.closing f.within)
  where
    kept : (d : Day) → i.purchases.closing.0 ≤ i.short.0 + i.sales.opening.0 → i.exercised.0 ≤ (after_day d i).limit.0 → Kept i (after_day d i)
    kept Day.Ordinary c w = omega arith
    kept Day.Final c w = omega arith

-- so both kinds of day leave the same balance of long and short
pub same_balance : (i : Investor) (o f : AfterDay) → investor_day Day.Ordinary i ≡ value o → investor_day Day.Final i ≡ value f → o.long.0 + f.short.0 ≡ f.long.0 + o.short.0
same_balance i o f e g = omega (arith, nothing_lost Day.Ordinary i o e, nothing_lost Day.Final i f g)

-- after the final trading day no one is both long and short
pub one_side : (i : Investor) (a : AfterDay) → investor_day Day.Final i ≡ value a → (a.long.0 ≡ 0) ⊎ (a.short.0 ≡ 0)
unfolding after_day final_day
one_side i a e =
    let gets = (accepted Day.Final i a e).gets in
    elim (dec_le (i.long.0 + both i.purchases) (i.short.0 + both i.sales))
    [ yes l ↦ inl (omega (arith, ap (λ x. x.long.0) gets)) | no g ↦ inr (omega (arith, ap (λ x. x.short.0) gets)) ]

-- an ordinary day's limit is never below the final trading day's
pub ordinary_limit_not_below : (d : Day) (i : Investor) (a : AfterDay) → investor_day d i ≡ value a → (after_day Day.Final i).limit.0 ≤ (after_day Day.Ordinary i).limit.0
unfolding after_day ordinary_day final_day
ordinary_limit_not_below d i a e = let c = (accepted d i a e).closing in omega arith

-- nor is a market-maker's, whatever his counts
pub maker_limit_not_below : (m : MarketMaker) → market_maker_limit Day.Final m ≤ market_maker_limit Day.Ordinary m
unfolding market_maker_limit
maker_limit_not_below m = omega arith

-- what is accepted on the final trading day is accepted on an ordinary one
pub accepted_on_ordinary : (i : Investor) (a : AfterDay) → investor_day Day.Final i ≡ value a → investor_day Day.Ordinary i ≡ value (after_day Day.Ordinary i)
accepted_on_ordinary i a e =
    let f = accepted Day.Final i a e in
    let within : i.exercised.0 ≤ (after_day Day.Ordinary i).limit.0 = omega (arith, f.within, ordinary_limit_not_below Day.Final i a e) in
    sym (processed Day.Ordinary i _ refl f.counts _ refl f.seventeen (after_day Day.Ordinary i) refl within)

-- the same day with n contracts to exercise
unfoldable pub exercising : ℕ → Investor → Investor
exercising n i = record { long = i.long; short = i.short; purchases = i.purchases; sales = i.sales; exercised = record { 0 = n } }

-- the limit does not depend on what is exercised
same_limit : (d : Day) (i : Investor) (n : ℕ) → (after_day d (exercising n i)).limit.0 ≡ (after_day d i).limit.0
unfolding after_day ordinary_day final_day exercising
same_limit Day.Ordinary i n = refl
same_limit Day.Final i n = refl

-- the limit is what he may exercise: of counts up to 10,000,000, those up to the limit are accepted, and larger ones are 18
pub limit_is_most : (d : Day) (i : Investor) (a : AfterDay) → investor_day d i ≡ value a → (n : ℕ) → n ≤ MOST_CONTRACTS
    → investor_day d (exercising n i) ≡ cond (ltb a.limit.0 n) (refused 18) (value (after_day d (exercising n i)))
unfolding investor_day investor_rows first exercising
limit_is_most d i a e n small =
    let f = accepted d i a e in
    let c = counted (investor_counts i) f.counts in
    let none = none_above (investor_counts (exercising n i)) (c.0, (c.1.0, (c.1.1.0, (c.1.1.1.0, (c.1.1.1.1.0, (c.1.1.1.1.1.0, (small, tt))))))) in
    let most : (after_day d (exercising n i)).limit.0 ≡ a.limit.0 = same_limit d i n ∙ ap (λ x. x.limit.0) f.gets in
    rw (none, f.seventeen, most)
