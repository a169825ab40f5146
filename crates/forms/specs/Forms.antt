-- Document 02's last numbers instead of counts: a list in either form, its series, its refusals, its change.
use Rattle.std.specs.Prelude.{ℕ, ◌+◌, ◌-◌, ◌≡◌, ◌||◌, cond, List, [], ◌∷◌, eqb, ltb, leb, length, Ok, MatchResult, IsErrAnd, Result as Result·}
use Rattle.series.specs.Results.{Result, refused, value, ◌>>=◌}
use Rattle.series.specs.Series.{Series, MOST_CONTRACTS}
use Rattle.series.specs.Refusals.{Row, ◌⟶◌∣◌, account_refused, verdict, list_verdict}
use Rattle.series.specs.Answers.{Allocation, number_of}
use Rattle.series.specs.Call.{answer, output}
use Rattle.series.specs.Fair.{FairOutput}
use Rattle.series.specs.declared.Method.{Method}
use Rattle.series.specs.declared.Terms.{Terms}
use Rattle.series.specs.declared.Refusal.{Refusal}
use Rattle.forms.specs.declared.Form.{Form}
use Rattle.forms.specs.declared.Listing.{Listing as Listing·}

-- a series as it is listed: in a form, and so with shorts or a last number for each position
pub record Listing : Type 0 where
  pub form : Form
  pub terms : Terms
  pub codes : List ℕ
  pub accounts : List ℕ
  pub numbers : List ℕ

-- the listing that a call is given
abbrev pub listing_of : Listing· → Listing
listing_of l = record { form = l.form; terms = l.terms; codes = l.codes.now; accounts = l.accounts.now; numbers = l.numbers.now }

-- a listing read in a form, whatever its own
abbrev pub read_as : Form → Listing → Listing
read_as f l = record { form = f; terms = l.terms; codes = l.codes; accounts = l.accounts; numbers = l.numbers }

-- the differences of last numbers, the first one from the number before it; 0 where one is not above the one before
unfoldable pub differences : ℕ → List ℕ → List ℕ
differences before [] = []
differences before (n ∷ ns) = (n - before) ∷ differences n ns

-- the sums of shorts, one position after the other, from the sum before them on
unfoldable pub sums : ℕ → List ℕ → List ℕ
sums before [] = []
sums before (h ∷ hs) = (before + h) ∷ sums (before + h) hs

-- the shorts of a list: its numbers, or the differences of its last numbers from 0 on
abbrev pub shorts_by : Form → List ℕ → List ℕ
shorts_by Form.Shorts ns = ns
shorts_by Form.LastNumbers ns = differences 0 ns

-- the series of a listing with these shorts
abbrev pub series_with : Listing → List ℕ → Series
series_with l shorts = record { terms = l.terms; codes = l.codes; accounts = l.accounts; shorts = shorts }

-- the series of a listing
abbrev pub series_in : Listing → Series
series_in l = series_with l (shorts_by l.form l.numbers)

-- the number of a refusal in a form: with last numbers 20 stands in the place of 6
abbrev pub number_in : Form → ℕ → ℕ
number_in Form.Shorts n = n
number_in Form.LastNumbers n = cond (eqb n 6) 20 n

-- what a call comes to in a form
abbrev pub in_form : {A : Type 0} → Form → Result A → Result A
in_form f (refused n) = refused (number_in f n)
in_form f (value a) = value a

-- the answer b is what the answer a to a call on the shorts comes to in a form
abbrev pub InForm : {A : Type 0} → Form → Result· A Refusal → Result· A Refusal → Type 0
InForm f a b = MatchResult a (λ x. b ≡ Ok x) (λ r. IsErrAnd b (λ q. number_of q ≡ number_in f (number_of r)))

-- judging a call: its series is judged
unfoldable pub verdict_in : Listing → ℕ → Result ℕ
verdict_in l room = in_form l.form (verdict (series_in l) room)

-- judging a list alone: its shorts are judged
unfoldable pub list_verdict_in : Form → Method → List ℕ → List ℕ → List ℕ → Result ℕ
list_verdict_in f m codes accounts numbers = in_form f (list_verdict m codes accounts (shorts_by f numbers))

-- document 02's rows for each position in turn, by its last number: 20 for one not above the one before (0 before the first), 7 for one above 10,000,000.
-- What a list of last numbers meets is the first of these (`by_last_numbers` in LastRows)
unfoldable pub last_rows : Method → List ℕ → ℕ → ℕ → List ℕ → List ℕ → List ℕ → List Row
last_rows m earlier before last [] rest ns = []
last_rows m earlier before last (k ∷ ks) [] ns = []
last_rows m earlier before last (k ∷ ks) (a ∷ rest) [] = []
last_rows m earlier before last (k ∷ ks) (a ∷ rest) (n ∷ ns) =
    (eqb k 0 || leb k before) ⟶ 5 ∣
    account_refused m earlier a ⟶ 19 ∣
    leb n last ⟶ 20 ∣
    ltb MOST_CONTRACTS n ⟶ 7 ∣
    last_rows m (a ∷ earlier) k n ks rest ns

-- the last of the numbers, which is T; 0 where there is none
unfoldable pub last_of : ℕ → List ℕ → ℕ
last_of before [] = before
last_of before (n ∷ ns) = last_of n ns

-- the allocating call on a listing answers a, and its output goes from old to new: as the call on its series does, with 20 in the place of 6 where it has last numbers
pub record ListingCall (l : Listing) (a : Result Allocation) (old new : List ℕ) : Type 0 where
  pub answered : a ≡ in_form l.form (answer (series_in l) (length old))
  pub written : new ≡ output (series_in l) old
  pub fair : FairOutput a (series_in l) new

-- the other form
abbrev pub other_form : Form → Form
other_form Form.Shorts = Form.LastNumbers
other_form Form.LastNumbers = Form.Shorts

-- the numbers of a list in the other form
abbrev pub other_numbers : Form → List ℕ → List ℕ
other_numbers Form.Shorts ns = sums 0 ns
other_numbers Form.LastNumbers ns = differences 0 ns

-- the listing in the other form
abbrev pub in_other : Listing → Listing
in_other l = record { form = other_form l.form; terms = l.terms; codes = l.codes; accounts = l.accounts; numbers = other_numbers l.form l.numbers }

-- the change of a listing: the list is judged, S and the draw are not; then the other form
unfoldable pub changed : Listing → Result Listing
changed l = do
  T ← list_verdict_in l.form l.terms.method l.codes l.accounts l.numbers
  value (in_other l)
