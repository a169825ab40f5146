-- `names::read_position_names` meets its contract: the code column or none, and then the rest of line 3.
use Rattle.series.specs.Ascii.{ascii}
use Rattle.text_rules.specs.Names.{code_name}
use Rattle.text_words.proofs.NameLaws.{after_code, without_code}
use Rattle.text_words.proofs.names.read_position_names.Goals as goal

pub returns-in-Some : goal.returns-in-Some
unfolding code_name ascii
returns-in-Some c = after_code _ c.in-Some.ensures c.read_account_name.ensures

pub returns-in-None : goal.returns-in-None
unfolding code_name ascii
returns-in-None c = without_code _ c.in-None.ensures c.read_account_name-in-None.ensures
