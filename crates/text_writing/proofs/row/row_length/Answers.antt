-- `row::row_length` meets its contract: what `sum` comes to of the digits of the numbers, at most ten each.
use Prim.Native.Nat.{◌^◌}
use mathlib.Core.Path.{◌≡◌}
use native.Mathlib.Omega.{arith}
use lib.ListN.{length}
use Rattle.std.specs.List.{sum_by}
use Rattle.std.proofs.Common.{rules, tests}
use Rattle.std.proofs.lemmas.Iterator.{YieldsList-from_slice, YieldsList-from_map}
use Rattle.std.proofs.lemmas.Iterator.Adapters.{fits_from_length, at_most_from_yields_List}
use Rattle.std.proofs.lemmas.Iterator.Consumers.{sum_by_from_yields_List}
use Rattle.text_rules.specs.Numbers.{decimal}
use Rattle.text_rules.proofs.DecimalLaws.{digits-few}
use Rattle.text_rules.proofs.LengthLaws.{length-parted}
use Rattle.text_writing.proofs.TableLaws.{row_digits, digits_within}
use Rattle.text_writing.proofs.row.row_length.Goals as goal
use Rattle.text_writing.proofs.row.row_length.Goals.{After-sum-digits}

pub sum-digits-requires-clause-fits : goal.sum-digits-requires-clause-fits
sum-digits-requires-clause-fits c =
    fits_from_length _ _ 1024 (2 ^ 64) (at_most_from_yields_List (YieldsList-from_slice c.args.row.now cc) c.requires) c.map.ensures.closure (omega arith) (λ x r q k. let told : (q ≡ record {}) × (r ≡ length (decimal x.now)) = search (rules, tests) in (told.0, omega (arith, told.1, digits-few x.now)))

-- the digits of the row
digits : (c : After-sum-digits) → c.sum-digits.result ≡ sum_by (λ n. length (decimal n)) c.args.row.now
digits c = sum_by_from_yields_List (λ n. length (decimal n)) c.args.row.now _ _ c.sum-digits.ensures.ran (YieldsList-from_map _ (λ n. length (decimal n)) (YieldsList-from_slice c.args.row.now cc) c.map.ensures.closure (λ x r q k. search (rules, tests)))

pub overflow_add-result : goal.overflow_add-result
overflow_add-result c = omega (arith, digits (goal.at.overflow_add-result c).After-sum-digits, digits_within c.args.row.now, c.requires)

pub returns : goal.returns
returns c =
    let e = digits (goal.at.returns c).After-sum-digits in
    record {
      long = λ part end. omega (arith, e, row_digits c.args.row.now, length-parted part end c.args.row.now);
      few = omega (arith, e, digits_within c.args.row.now);
    }
