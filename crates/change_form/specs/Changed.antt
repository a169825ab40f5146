-- What the program prints for a text: its change, or the number of a refusal.
use Rattle.series.specs.Results.{Result, refused, value}
use Rattle.text_rules.specs.Fields.{Text}
use Rattle.text_rules.specs.Calls.{MOST_CHANGED, change_into}
use Rattle.responses.specs.Printed.{refused_lines}

-- the changed text, or for a refusal the line `refused` and a line with the number
unfoldable pub lines_of : Result Text → Text
lines_of (value t) = t
lines_of (refused n) = refused_lines n

-- what is printed for a text, whose change always fits 31,830 bytes
unfoldable pub changed_lines : Text → Text
changed_lines s = lines_of (change_into s MOST_CHANGED)
