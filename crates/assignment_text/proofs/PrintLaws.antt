-- What is printed, from what the parts of the call answered.
use Prim.Native.Nat.{ℕ, ◌≤◌}
use mathlib.Core.Path.{◌≡◌, refl, sym, ap, ◌∙◌}
use mathlib.Core.Bool.{true}
use mathlib.Core.List.{List, [], ◌∷◌, ◌++◌, append-nil}
use native.Mathlib.Omega.{arith}
use borrow.Author.Tests.{eq-eqb, le-ltb}
use lib.Dec.{eqb}
use lib.ListN.{length, drop}
use lib.Seq.{drop-length}
use Rattle.series.specs.Ascii.{ascii}
use Rattle.series.specs.Results.{Result, refused, value, ◌>>=◌, status}
use Rattle.series.specs.Outputs.{onto}
use Rattle.series.specs.Sums.{listed}
use Rattle.series.specs.Places.{total}
use Rattle.series.specs.Series.{Series, MOST_CONTRACTS, method}
use Rattle.series.specs.RemainderDraw.{first_range, second_range}
use Rattle.series.specs.Answers.{Allocation}
use Rattle.series.specs.Refusals.{verdict}
use Rattle.series.specs.Call.{assigned, further, answer, output}
use Rattle.series.specs.Fair.{AllocatingCall}
use Rattle.series.specs.declared.Method.{Method}
use Rattle.series.specs.declared.Terms.{Terms}
use Rattle.series.proofs.ResultLaws.{never, value_is}
use Rattle.series.proofs.SumLaws.{length-listed}
use Rattle.series.proofs.AcceptedLaws.{accepted_facts, verdict_accepted}
use Rattle.series.proofs.Demand3.{length-assigned}
use Rattle.forms.specs.Forms.{Listing, series_in, number_in, in_form}
use Rattle.forms.specs.declared.Form.{Form}
use Rattle.text_rules.specs.Fields.{Text}
use Rattle.text_rules.specs.Text.{MOST_LINES, read_text}
use Rattle.text_writing.specs.Tables.{tables_into}
use Rattle.text_rules.specs.Calls.{evenly, line_count, head_and_lines, lines_into, table_into}
use Rattle.responses.specs.Printed.{refused_lines, assigned_lines, range_columns, range_lines, ranges_by, series_or_refusal, text_or_refusal, lines_for, printed}
use Rattle.responses.specs.Responses.{Responds, RespondsFor}
use Rattle.responses.specs.declared.Response.{Response}
use Rattle.responses.proofs.ResponseLaws.{text_into}
use Rattle.assignment_text.specs.Lists.{Lists}

-- ---- writing a text

pub table_is : (accounts amounts : List ℕ) (room : ℕ) → length accounts ≡ length amounts → length accounts ≤ MOST_LINES → table_into (ascii "account,assigned\n") accounts amounts room ≡ text_into (assigned_lines accounts amounts) room
unfolding table_into lines_into head_and_lines evenly line_count assigned_lines
table_is accounts amounts room same few =
    rw (eq-eqb (length accounts) (length accounts) refl, eq-eqb (length amounts) (length accounts) (sym same), le-ltb MOST_LINES (length accounts) few)

-- the amounts and the ranges
pub tables_are : (accounts shorts amounts : List ℕ) (room : ℕ) → Lists accounts shorts amounts
    → tables_into (ascii "account,assigned\n") (accounts ∷ amounts ∷ []) (ascii "account,first,last,first2,last2\n") (range_columns accounts shorts) room ≡ text_into (assigned_lines accounts amounts ++ range_lines accounts shorts) room
unfolding tables_into head_and_lines evenly line_count assigned_lines range_lines range_columns
tables_are accounts shorts amounts room l =
    let n : ℕ = length accounts in
    let even : (f : ℕ → ℕ) → eqb (length (listed f (length shorts))) n ≡ true = λ f. eq-eqb _ n (length-listed f (length shorts) ∙ sym l.same) in
    rw (
      eq-eqb n n refl,
      eq-eqb (length amounts) n (l.beside ∙ sym l.same),
      even (λ i. (first_range shorts i).first),
      even (λ i. (first_range shorts i).last),
      even (λ i. (second_range shorts i).first),
      even (λ i. (second_range shorts i).last),
      le-ltb MOST_LINES n (omega (arith, l.same, l.few)),
    )

-- no ranges under W, P and L
pub none_ranged : (m : Method) → (m ≡ Method.RemainderDraw → ⊥) → (accounts shorts : List ℕ) → ranges_by m accounts shorts ≡ []
unfolding ranges_by
none_ranged Method.Wheel k accounts shorts = refl
none_ranged Method.ProRata k accounts shorts = refl
none_ranged Method.Lottery k accounts shorts = refl
none_ranged Method.RemainderDraw k accounts shorts = absurd (k refl)

-- ---- the allocating call

module _ (s : Series) where
  -- what the call hands back
  abbrev allocation : ℕ → Allocation
  allocation T = record { method = method s; total = T; further = further s.terms s.shorts }

  refused_is : (f : Form) (v : Result ℕ) (n : ℕ) → ◌≡◌ {A = Result Allocation} (refused n) (v >>= (λ T. value (allocation T))) → (in_form f v >>= (λ T. value s)) ≡ refused (number_in f n)
  refused_is f (value T) n e = absurd (never n _ e)
  refused_is f (refused k) n e = let same : k ≡ n = cc in ap (λ i. refused (number_in f i)) same

  is_value : (v : Result ℕ) (x : Allocation) → value x ≡ (v >>= (λ T. value (allocation T))) → v ≡ value x.total
  is_value (value T) x e = let is : allocation T ≡ x = value_is (sym e) in ap value (ap (λ (y : Allocation). y.total) is)
  is_value (refused k) x e = absurd (never k x (sym e))

-- the call answered with a refusal
pub turned_away_lem : (f : Form) {s : Series} {r : Response} {old new : Text} {amounts amounts' : List ℕ} {n v : ℕ} → length amounts ≡ length s.shorts → AllocatingCall s (refused n) amounts amounts' → v ≡ number_in f n
    → Responds r (refused_lines v) v old new → RespondsFor r (series_or_refusal f s) old new
unfolding answer series_or_refusal lines_for
turned_away_lem f {s} {n = n} l call is p = rw (refused_is s f (verdict s (length s.shorts)) n (rw l at call.answered), ← is) p

-- the call answered with an allocation
module _ {s : Series} {x : Allocation} {amounts amounts' : List ℕ} (l : length amounts ≡ length s.shorts) (call : AllocatingCall s (value x) amounts amounts') where
  accepted : verdict s (length s.shorts) ≡ value x.total
  unfolding answer
  accepted = is_value s (verdict s (length s.shorts)) x (rw l at call.answered)

  -- the list was judged
  pub few_contracts : total s.shorts ≤ MOST_CONTRACTS
  few_contracts = (accepted_facts s _ (verdict_accepted s _ _ accepted)).total_most

  -- the output holds the amounts alone
  amounts_are : amounts' ≡ assigned s.terms s.shorts
  unfolding output onto
  amounts_are =
      let none : drop (length (assigned s.terms s.shorts)) amounts ≡ [] = rw (length-assigned s.terms s.shorts, ← l) (drop-length amounts) in
      call.written ∙ rw (l, accepted, none) (append-nil (assigned s.terms s.shorts))

  pub assigned_all : (f : Form) {r : Response} {old new : Text} → Responds r (assigned_lines s.accounts amounts' ++ ranges_by (method s) s.accounts s.shorts) 0 old new → RespondsFor r (series_or_refusal f s) old new
  unfolding series_or_refusal lines_for
  assigned_all f p = rw accepted (rw amounts_are at p)

-- the same for equal shorts
pub shorts_as : (f : Form) (t : Terms) (codes accounts hs hs' : List ℕ) (r : Response) (old new : Text) → hs ≡ hs'
    → RespondsFor r (series_or_refusal f (record { terms = t; codes = codes; accounts = accounts; shorts = hs })) old new
    → RespondsFor r (series_or_refusal f (record { terms = t; codes = codes; accounts = accounts; shorts = hs' })) old new
shorts_as f t codes accounts hs hs' r old new e p = rw (← e) p

-- ---- the whole call

pub text-refused : (s : Text) (r : Response) (old new : Text) (n : ℕ) → read_text s ≡ refused n → Responds r (refused_lines n) n old new → Responds r (printed s) (status (text_or_refusal s)) old new
unfolding printed text_or_refusal lines_for
text-refused s r old new n e p = rw e p

pub text_read : (s : Text) (r : Response) (old new : Text) (l : Listing) → read_text s ≡ value l → RespondsFor r (series_or_refusal l.form (series_in l)) old new → Responds r (printed s) (status (text_or_refusal s)) old new
unfolding printed text_or_refusal
text_read s r old new l e p = rw e p
