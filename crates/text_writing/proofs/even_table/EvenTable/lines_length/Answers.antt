-- `EvenTable::lines_length` meets its contract: what `sum` comes to of the columns, at most 11 bytes of each for each line.
use Prim.Native.Nat.{◌≤◌}
use mathlib.Core.Path.{◌≡◌, sym, ap, ◌∙◌}
use native.Mathlib.Omega.{arith}
use lib.ListN.{length}
use Rattle.std.proofs.Common.{rules, tests}
use Rattle.std.specs.List.{sum_by}
use Rattle.std.proofs.lemmas.Iterator.{YieldsList-from_slice, YieldsList-from_map}
use Rattle.std.proofs.lemmas.Iterator.Adapters.{serves_from_places}
use Rattle.std.proofs.lemmas.Iterator.Consumers.{sum_by_from_yields_List, fits_by_from_yields_list}
use Rattle.text_rules.specs.Fields.{COMMA, NEWLINE}
use Rattle.text_rules.specs.Rows.{write_row}
use Rattle.text_writing.specs.Parts.{RowLength}
use Rattle.text_writing.specs.Columns.{columns_of}
use Rattle.text_writing.proofs.TableLaws.{column_long, lines_by_columns, columns_sum, columns_within}
use Rattle.text_writing.proofs.even_table.EvenTable.lines_length.Goals as goal
use Rattle.text_writing.proofs.even_table.EvenTable.lines_length.Goals.{After-sum}

pub sum-requires-clause-can : goal.sum-requires-clause-can
sum-requires-clause-can c = (tt, serves_from_places (YieldsList-from_slice c.args.self.now.table.columns.now cc) (λ x q R. search (rules, tests)) (λ x k lt e. let long = column_long c.args.self.now.table.columns.now k x.now c.args.self.now.even lt in let few : length x.now.now ≤ 1024 = omega (arith, long, ap (λ b. length b.now) e, c.args.self.now.even.few) in search (rules, few)))

pub sum-requires-clause-fits : goal.sum-requires-clause-fits
sum-requires-clause-fits c = fits_by_from_yields_list (λ b. length (write_row b.now)) c.args.self.now.table.columns.now c.map.result _ (YieldsList-from_map _ (λ b. length (write_row b.now)) (YieldsList-from_slice c.args.self.now.table.columns.now cc) c.map.ensures.closure (λ x r q k. let told : (q ≡ record {}) × RowLength x.now.now r = search rules in (told.0, told.1.long COMMA NEWLINE)))
    (omega (arith, columns_sum c.args.self.now.table.columns.now, columns_within c.args.self.now.table.columns.now c.args.self.now.even, c.args.self.now.table.few))

-- the length of the columns
summed : (c : After-sum) → c.sum.result ≡ sum_by (λ b. length (write_row b.now)) c.args.self.now.table.columns.now
summed c = sum_by_from_yields_List (λ b. length (write_row b.now)) c.args.self.now.table.columns.now _ _ c.sum.ensures.ran (YieldsList-from_map _ (λ b. length (write_row b.now)) (YieldsList-from_slice c.args.self.now.table.columns.now cc) c.map.ensures.closure (λ x r q k. let told : (q ≡ record {}) × RowLength x.now.now r = search rules in (told.0, told.1.long COMMA NEWLINE)))

pub returns-clause-value : goal.returns-clause-value
returns-clause-value c = summed (goal.at.returns-clause-value c).After-sum ∙ columns_sum c.args.self.now.table.columns.now ∙ sym (lines_by_columns (columns_of c.args.self.now.table) c.args.self.now.even)

pub returns-clause-upper_bound : goal.returns-clause-upper_bound
returns-clause-upper_bound c = omega (arith, summed (goal.at.returns-clause-upper_bound c).After-sum, columns_sum c.args.self.now.table.columns.now, columns_within c.args.self.now.table.columns.now c.args.self.now.even, c.args.self.now.table.few)
