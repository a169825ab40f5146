-- What is printed for any text: at least a line, and at most 70,705 bytes.
use Prim.Native.Nat.{ℕ, ◌^◌, ◌≤◌, ◌<◌}
use mathlib.Core.Path.{◌≡◌, refl, subst}
use mathlib.Core.List.{List, [], ◌∷◌, ◌++◌}
use native.Mathlib.Omega.{arith}
use borrow.Author.Tests.{le-ltb}
use lib.ListN.{length, get_or, drop, length-append}
use lib.Seq.{take_at}
use Rattle.series.specs.Ascii.{ascii}
use Rattle.series.specs.Results.{Result, refused, value}
use Rattle.series.specs.Outputs.{onto, onto_room}
use Rattle.series.specs.Sums.{listed}
use Rattle.series.specs.Places.{total}
use Rattle.series.specs.Series.{Series, MOST_CONTRACTS, method}
use Rattle.series.specs.RemainderDraw.{first_range, second_range}
use Rattle.series.specs.Refusals.{verdict}
use Rattle.series.specs.Call.{assigned}
use Rattle.series.specs.declared.Method.{Method}
use Rattle.series.proofs.AcceptedLaws.{accepted_facts, verdict_accepted}
use Rattle.series.proofs.RangeLaws.{ranges_within}
use Rattle.series.proofs.SumLaws.{get_d_listed}
use Rattle.series.proofs.ResultLaws.{stepped, value_is}
use Rattle.forms.specs.Forms.{Listing, series_in, in_form}
use Rattle.forms.proofs.FormLaws.{value_in}
use Rattle.text_rules.specs.Fields.{Text}
use Rattle.text_rules.specs.Rows.{write_row, write_rows, row_of, rows_of, write_parted}
use Rattle.text_rules.specs.Text.{MOST_LINES, read_text}
use Rattle.text_rules.specs.Calls.{line_count}
use Rattle.text_rules.proofs.DecimalLaws.{digits-few, digits-within}
use Rattle.text_rules.proofs.RowLaws.{row_few}
use Rattle.text_rules.proofs.LengthLaws.{length-row, lines_most, rows-room}
use Rattle.responses.specs.Printed.{refused_lines, assigned_lines, range_columns, range_lines, ranges_by, series_or_refusal, text_or_refusal, lines_for, printed, MOST_PRINTED}
use Rattle.responses.specs.Responses.{response_of, print_into, Responds, Whole}
use Rattle.responses.specs.declared.Response.{Response}
use Rattle.text_rules.proofs.ReadingLaws.{few_positions}

-- so many bytes are at least one and at most what can be printed
pub record Printable (n : ℕ) : Type 0 where
  pub some : 0 < n
  pub most : n ≤ MOST_PRINTED

-- a refusal has at most 19 bytes
pub refused-room : (n : ℕ) → length (refused_lines n) ≤ 19
unfolding refused_lines ascii
refused-room n = omega (arith, length-append (ascii "refused\n") (write_row (n ∷ [])), row_few (n ∷ []))

refused_printable : (n : ℕ) → Printable (length (refused_lines n))
unfolding refused_lines ascii
refused_printable n = record { some = omega arith; most = omega (arith, refused-room n) }

assigned-room : (accounts amounts : List ℕ) → length accounts ≤ MOST_LINES → length (assigned_lines accounts amounts) ≤ 22545
unfolding assigned_lines ascii line_count
assigned-room accounts amounts few =
    let cs : List (List ℕ) = accounts ∷ amounts ∷ [] in
    omega (arith, length-append (ascii "account,assigned\n") (write_rows (rows_of cs)), rows-room cs)

-- the account's line among the ranges: ten digits, and eight for each number up to 20,000,001
range_row : (a f l g m : ℕ) → f < 10 ^ 8 → l < 10 ^ 8 → g < 10 ^ 8 → m < 10 ^ 8 → length (write_row (a ∷ f ∷ l ∷ g ∷ m ∷ [])) ≤ 47
unfolding write_parted
range_row a f l g m hf hl hg hm =
    omega (
      arith,
      length-row a (f ∷ l ∷ g ∷ m ∷ []),
      length-row f (l ∷ g ∷ m ∷ []),
      length-row l (g ∷ m ∷ []),
      length-row g (m ∷ []),
      length-row m [],
      digits-few a,
      digits-within 7 f hf,
      digits-within 7 l hl,
      digits-within 7 g hg,
      digits-within 7 m hm,
    )

range_room : (accounts shorts : List ℕ) → length accounts ≡ length shorts → length accounts ≤ MOST_LINES → total shorts ≤ MOST_CONTRACTS → length (range_lines accounts shorts) ≤ 48160
unfolding range_lines range_columns rows_of second_range ascii
range_room accounts shorts same few small =
    omega (arith, length-append (ascii "account,first,last,first2,last2\n") (write_rows (rows_of (range_columns accounts shorts))), lines_most (row_of (range_columns accounts shorts)) 47 (length accounts) each)
  where
    -- a number of the column f is f i
    at : (f : ℕ → ℕ) (i : ℕ) → i < length accounts → get_or (listed f (length shorts)) i 0 ≡ f i
    at f i h = get_d_listed f (length shorts) i (omega (arith, same))

    each : (i : ℕ) → i < length accounts → length (write_row (row_of (range_columns accounts shorts) i)) ≤ 47
    each i h =
        let within = ranges_within shorts i (omega (arith, same)) in
        range_row (get_or accounts i 0) _ _ _ _
        (omega (arith, at (λ j. (first_range shorts j).first) i h, within.0))
        (omega (arith, at (λ j. (first_range shorts j).last) i h, within.1))
        (omega (arith, at (λ j. (second_range shorts j).first) i h, within.0))
        (omega (arith, at (λ j. (second_range shorts j).last) i h, within.1))

-- the list fits a text, and was judged
record Small (t : Series) : Type 0 where
  same : length t.accounts ≡ length t.shorts
  few : length t.accounts ≤ MOST_LINES
  contracts : total t.shorts ≤ MOST_CONTRACTS

ranges_room : (t : Series) → Small t → length (ranges_by (method t) t.accounts t.shorts) ≤ 48160
unfolding ranges_by
ranges_room t s = by_cases (method t)
  where
    by_cases : (m : Method) → length (ranges_by m t.accounts t.shorts) ≤ 48160
    by_cases Method.Wheel = omega arith
    by_cases Method.ProRata = omega arith
    by_cases Method.Lottery = omega arith
    by_cases Method.RemainderDraw = range_room t.accounts t.shorts s.same s.few s.contracts

assigned_printable : (t : Series) → Small t → Printable (length (assigned_lines t.accounts (assigned t.terms t.shorts) ++ ranges_by (method t) t.accounts t.shorts))
unfolding assigned_lines ascii
assigned_printable t s =
    let both = length-append (assigned_lines t.accounts (assigned t.terms t.shorts)) (ranges_by (method t) t.accounts t.shorts) in
    record { some = omega arith; most = omega (arith, both, assigned-room t.accounts (assigned t.terms t.shorts) s.few, ranges_room t s) }

lines_printable : (r : Result Series) → ((t : Series) → r ≡ value t → Small t) → Printable (length (lines_for r))
unfolding lines_for
lines_printable (refused n) small = refused_printable n
lines_printable (value t) small = assigned_printable t (small t refl)

-- the series of a text has at most 1,024 positions
small_in_text : (s : Text) (t : Series) → text_or_refusal s ≡ value t → Small t
unfolding text_or_refusal series_or_refusal
small_in_text s t e =
    let read = stepped (read_text s) _ t e in
    let l : Listing = read.from in
    let v : Result ℕ = verdict (series_in l) (length (series_in l).shorts) in
    let judged = stepped (in_form l.form v) _ t read.on in
    let is : series_in l ≡ t = value_is judged.on in
    let facts = accepted_facts (series_in l) _ (verdict_accepted (series_in l) _ _ (value_in l.form v judged.from judged.step)) in
    subst Small is (record { same = facts.lengths; few = (few_positions s l read.step).few; contracts = facts.total_most })

pub printed-room : (s : Text) → Printable (length (printed s))
unfolding printed
printed-room s = lines_printable (text_or_refusal s) (small_in_text s)

-- what is printed stands whole in an output with room for it
pub responds_whole : (t : Text) (r : Response) (v : ℕ) (old new : Text) → length t ≤ length old → Responds r t v old new → Whole (response_of r) t v new
unfolding print_into onto_room onto
responds_whole t r v old new room p =
    let fits = le-ltb (length old) (length t) room in
    let output : new ≡ t ++ drop (length t) old = rw fits at p.output in
    record { handed = rw fits at p.hands; text = rw output (take_at t (drop (length t) old) (length t) refl) }

pub printed-whole : (s : Text) (r : Response) (v : ℕ) (old new : Text) → MOST_PRINTED ≤ length old → Responds r (printed s) v old new → Whole (response_of r) (printed s) v new
printed-whole s r v old new room p = responds_whole (printed s) r v old new (omega (arith, (printed-room s).most)) p
