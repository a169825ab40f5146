-- `columns::terms_columns` meets its contract.
use borrow.Author.Tests.{eq-eqb, ne_eqb}
use Rattle.series.specs.Series.{DEFAULT_INCREMENT}
use Rattle.text_rules.specs.Text.{terms_columns}
use Rattle.text_words.proofs.columns.terms_columns.Goals as goal

pub returns-then-terms-eq-DEFAULT_INCREMENT : goal.returns-then-terms-eq-DEFAULT_INCREMENT
unfolding terms_columns
returns-then-terms-eq-DEFAULT_INCREMENT c = rw (eq-eqb _ DEFAULT_INCREMENT c.if-terms-eq-DEFAULT_INCREMENT.true)

pub returns-else-terms-eq-DEFAULT_INCREMENT : goal.returns-else-terms-eq-DEFAULT_INCREMENT
unfolding terms_columns
returns-else-terms-eq-DEFAULT_INCREMENT c = rw (ne_eqb _ DEFAULT_INCREMENT c.if-terms-eq-DEFAULT_INCREMENT.false)
