-- `names::read_terms_names` meets its contract: line 1 without the increment, else with it.
use Rattle.series.specs.Ascii.{ascii}
use Rattle.text_rules.specs.Names.{terms_line, read_names}
use Rattle.text_words.proofs.names.read_terms_names.Goals as goal

pub returns : goal.returns
unfolding terms_line read_names ascii
returns c = c.read_either.ensures
