-- The letters, the numbers of a form and of a day, and the room for what is printed, proved of the definitions by computation.
use Prim.Native.Nat.{ℕ}
use Prim.Native.Char.{code}
use mathlib.Core.Path.{◌≡◌, refl}
use mathlib.Core.List.{[], ◌∷◌, map}
use Rattle.series.specs.Ascii.{ascii}
use Rattle.series.specs.Results.{Result, refused, value, status}
use Rattle.series.specs.Series.{terms_of}
use Rattle.series.specs.declared.Method.{Method}
use Rattle.forms.specs.Forms.{Listing}
use Rattle.forms.specs.declared.Form.{Form}
use Rattle.answer_numbers.specs.Numbers.{form_by}
use Rattle.activity_rules.specs.declared.Day.{Day}
use Rattle.text_rules.specs.Numbers.{decimal_in, decimal}
use Rattle.text_rules.specs.Fields.{end_before, write_number}
use Rattle.text_rules.specs.Rows.{write_parted}
use Rattle.text_rules.specs.Names.{terms_line, after_line, names_or, read_names}
use Rattle.text_rules.specs.Letters.{letter, method_among, method_by}
use Rattle.text_rules.specs.Text.{read_head, read_text}
use Rattle.responses.specs.Printed.{refused_lines, text_or_refusal, lines_for, printed}
use Rattle.dilbreth.specs.Exports.{listing_by, called, written_by, printed_into}
use Rattle.dilbreth.specs.Days.{day_by}

-- a listing of one position by a letter and the number of a form
abbrev listed : ℕ → ℕ → Result Listing
listed l f = listing_by l 4 5 6 f (1 ∷ []) (2 ∷ []) (3 ∷ [])

-- the same, of a method and a form
abbrev listing : Method → Form → Result Listing
listing m f = value (record { form = f; terms = terms_of m 4 5 6; codes = 1 ∷ []; accounts = 2 ∷ []; numbers = 3 ∷ [] })

-- each letter, and any other; 0 is the form of shorts, any other number that of last numbers
pub letters_and_forms : map (λ l. listed l 0) (ascii "WPLRwX") ≡ listing Method.Wheel Form.Shorts ∷ listing Method.ProRata Form.Shorts ∷ listing Method.Lottery Form.Shorts ∷ listing Method.RemainderDraw Form.Shorts ∷ refused 14 ∷ refused 14 ∷ []
unfolding ascii letter method_among method_by form_by listing_by
letters_and_forms = refl

pub forms_by_number : map (listed (code "L")) (0 ∷ 1 ∷ 2 ∷ 4294967295 ∷ []) ≡ map (listing Method.Lottery) (Form.Shorts ∷ Form.LastNumbers ∷ Form.LastNumbers ∷ Form.LastNumbers ∷ [])
unfolding letter method_among method_by form_by listing_by
forms_by_number = refl

-- 14 before lists that differ in length and an output without room, in writing and in the allocating call
pub letter-first : (status (written_by (listing_by (code "X") 0 0 0 0 (1 ∷ []) [] []) 0) ≡ 14) × (status (called (listing_by (code "X") 0 0 0 0 (1 ∷ []) [] []) 0) ≡ 14)
unfolding letter method_among method_by listing_by written_by called
letter-first = (refl, refl)

-- no text at all prints 11 bytes: with room for them, for one more, for one less and for none
pub printed-room : map (printed_into []) (11 ∷ 12 ∷ 10 ∷ 0 ∷ []) ≡ value (ascii "refused\n12\n") ∷ value (ascii "refused\n12\n") ∷ refused 4 ∷ refused 4 ∷ []
unfolding ascii decimal_in decimal end_before write_number write_parted terms_line after_line names_or read_names read_head read_text refused_lines text_or_refusal lines_for printed printed_into
printed-room = refl

pub days_by_number : map day_by (0 ∷ 1 ∷ 2 ∷ 4294967295 ∷ []) ≡ Day.Ordinary ∷ Day.Final ∷ Day.Final ∷ Day.Final ∷ []
unfolding day_by
days_by_number = refl
