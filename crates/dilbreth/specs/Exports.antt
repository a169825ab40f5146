-- The exported calls: each answers 0 or the number of a refusal, and hands its values back behind its arguments, which a refusal keeps.
use Rattle.std.specs.Prelude.{ℕ, ◌≡◌, List, ltb, length}
use Rattle.series.specs.Results.{Result, value, ◌>>=◌, refuse, after, status}
use Rattle.series.specs.Outputs.{onto, Lent}
use Rattle.series.specs.Places.{total as sum}
use Rattle.series.specs.Series.{terms_of}
use Rattle.series.specs.Answers.{Allocation, handed_back}
use Rattle.series.specs.Call.{answer, output}
use Rattle.forms.specs.Forms.{Listing, series_in, in_form}
use Rattle.merging.specs.Merging.{Position, shorts_of, ListsMerged}
use Rattle.answer_numbers.specs.Numbers.{form_by, form_number}
use Rattle.text_rules.specs.Fields.{Text}
use Rattle.text_rules.specs.Letters.{letter, method_by}
use Rattle.text_rules.specs.Calls.{ListsRead, write_into, length_of}
use Rattle.responses.specs.Printed.{printed}

-- the listing whose method comes as its letter, with S, the draw and the increment, and whose form as its number; any other letter is 14 before all other refusals
unfoldable pub listing_by : ℕ → ℕ → ℕ → ℕ → ℕ → List ℕ → List ℕ → List ℕ → Result Listing
listing_by l S draw I f codes accounts numbers = do
  m ← method_by l
  value (record { form = form_by f; terms = terms_of m S draw I; codes = codes; accounts = accounts; numbers = numbers })

-- the allocating call's answer, with an output of length room
unfoldable pub called : Result Listing → ℕ → Result Allocation
called r room = do
  l ← r
  in_form l.form (answer (series_in l) room)

-- the allocating call on a listing s: its answer r, its output from old to new, T and the further number, 0 where there is none
pub record Allocates (s : Result Listing) (r : ℕ) (old new : List ℕ) (total further : Lent ℕ) : Type 0 where
  pub answers : r ≡ status (called s (length old))
  pub writes : new ≡ after s (λ l. output (series_in l) old) old
  pub hands_total : total.new ≡ after (called s (length old)) (λ a. a.total) total.old
  pub hands_further : further.new ≡ after (called s (length old)) (λ a. handed_back a.further) further.old

-- a call that reads a listing s: its answer r, and what it hands back: the letter of the method, S, the draw, the increment, the number of the form, its three lists and the number of positions
pub record Reads (s : Result Listing) (r : ℕ) (letters exercised draw increment form : Lent ℕ) (codes accounts numbers : Lent (List ℕ)) (positions : Lent ℕ) : Type 0 where
  pub answers : r ≡ status s
  pub hands_letter : letters.new ≡ after s (λ t. letter t.terms.method) letters.old
  pub hands_exercised : exercised.new ≡ after s (λ t. t.terms.exercised.0) exercised.old
  pub hands_draw : draw.new ≡ after s (λ t. t.terms.draw) draw.old
  pub hands_increment : increment.new ≡ after s (λ t. t.terms.increment.0) increment.old
  pub hands_form : form.new ≡ after s (λ t. form_number t.form) form.old
  pub lists : ListsRead s codes accounts numbers
  pub hands_positions : positions.new ≡ after s (λ t. length t.accounts) positions.old

-- a merging call that comes to m: its answer r, both of its lists, and what it hands back: the number of positions and T
pub record HandsMerged (m : Result (List Position)) (r : ℕ) (accounts shorts : Lent (List ℕ)) (positions total : Lent ℕ) : Type 0 where
  pub answers : r ≡ status m
  pub lists : ListsMerged m accounts shorts
  pub hands_positions : positions.new ≡ after m (λ ps. length ps) positions.old
  pub hands_total : total.new ≡ after m (λ ps. sum (shorts_of ps)) total.old

-- the text of such a listing, written to an output of length room
unfoldable pub written_by : Result Listing → ℕ → Result Text
written_by r room = do
  l ← r
  write_into l room

-- what the program prints for the text s, to an output of length room: 4 where it is shorter
unfoldable pub printed_into : Text → ℕ → Result Text
printed_into s room = refuse (ltb room (length (printed s))) 4 (printed s)

-- a call that comes to the number d: its answer r, and the number that it hands back
pub record Hands (d : Result ℕ) (r : ℕ) (number : Lent ℕ) : Type 0 where
  pub answers : r ≡ status d
  pub hands_number : number.new ≡ after d (λ n. n) number.old

-- a call that writes the text s: its answer r, the length of the text, and its output from old to new
pub record Writes (s : Result Text) (r : ℕ) (old new : Text) (written : Lent ℕ) : Type 0 where
  pub hands_length : Hands (length_of s) r written
  pub writes : new ≡ after s (λ t. onto t old) old
