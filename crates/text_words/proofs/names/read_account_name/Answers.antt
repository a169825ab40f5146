-- `names::read_account_name` meets its contract: the account column, and then the form's word.
use Rattle.series.specs.Ascii.{ascii}
use Rattle.text_rules.specs.Names.{account_name, form_name, account_line}
use Rattle.text_words.proofs.NameLaws.{after_word, without_word}
use Rattle.text_words.proofs.names.read_account_name.Goals as goal

pub returns-in_err-rest : goal.returns-in_err-rest
unfolding account_line account_name ascii
returns-in_err-rest c = rw c.from_residual.ensures (without_word account_name (λ x. form_name x.form) _ _ c.in_err-rest.ensures)

pub returns : goal.returns
unfolding account_line account_name ascii
returns c = after_word account_name (λ x. form_name x.form) _ _ c.in_ok-rest.ensures c.read_form_name.ensures
