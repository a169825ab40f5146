-- `names::read_form_name` meets its contract: the name of shorts, else that of last numbers.
use Rattle.series.specs.Ascii.{ascii}
use Rattle.text_rules.specs.Names.{form_name, read_names}
use Rattle.text_words.proofs.names.read_form_name.Goals as goal

pub returns : goal.returns
unfolding form_name read_names ascii
returns c = c.read_either.ensures
