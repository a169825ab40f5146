-- Document 01's case M in full, what is printed for refusals for numbers with leading zeros and for last numbers, proved of the definitions by computation.
use Prim.Native.Nat.{ℕ}
use Prim.Native.String.{String}
use mathlib.Core.Path.{◌≡◌, refl}
use mathlib.Core.List.{List, [], ◌∷◌, map}
use Rattle.series.specs.Ascii.{ascii}
use Rattle.series.specs.Results.{Result}
use Rattle.series.specs.Series.{Series}
use Rattle.series.specs.RemainderDraw.{first_range, second_range}
use Rattle.series.specs.Refusals.{verdict}
use Rattle.series.proofs.Starred.{called_on}
use Rattle.forms.specs.Forms.{differences}
use Rattle.text_rules.specs.Numbers.{digit, digits, spelled, amount_from, amount, numeral, number, decimal_in, decimal}
use Rattle.text_rules.specs.Fields.{Text, Read, ends, field, past, field_by, end_before, read_fields, write_number}
use Rattle.text_rules.specs.Rows.{numbers, read_row, read_rows, write_rows, rows_of, column, write_parted}
use Rattle.text_rules.specs.Names.{terms_line, code_name, account_name, form_name, account_line, positions_line, after_line, names_or, read_names}
use Rattle.text_rules.specs.Letters.{letter, method_among, method_by, method_of}
use Rattle.text_rules.specs.Text.{read_terms, read_head, read_positions, read_text}
use Rattle.responses.specs.Printed.{refused_lines, assigned_lines, range_columns, range_lines, ranges_by, series_or_refusal, text_or_refusal, lines_for, printed}
use Rattle.responses.specs.Responses.{print_into}

-- a text, and what is printed for it
pub record Case : Type 0 where
  pub input : Text
  pub output : Text

abbrev prints : String → String → Case
prints s t = record { input = ascii s; output = ascii t }

pub cases : List Case
cases =
    -- case M
    prints "method,exercised,draw\nL,13,4855\naccount,short\n1,5\n2,8\n3,2\n4,10\n5,11\n" "account,assigned\n1,0\n2,0\n3,0\n4,8\n5,5\n" ∷
    -- a refused text: nothing at all, an unknown method, the last line without byte 10
    prints "" "refused\n12\n" ∷
    prints "method,exercised,draw\nX,13,4855\naccount,short\n1,5\n" "refused\n14\n" ∷
    prints "method,exercised,draw\nL,13,4855\naccount,short\n1,5\n2,8" "refused\n13\n" ∷
    -- a refused series: no positions, accounts that fall, S above T, draw 0 with S below T, also of one position under W
    prints "method,exercised,draw\nL,13,4855\naccount,short\n" "refused\n3\n" ∷
    prints "method,exercised,draw\nL,13,4855\naccount,short\n2,8\n1,5\n" "refused\n5\n" ∷
    prints "method,exercised,draw\nL,14,4855\naccount,short\n1,5\n2,8\n" "refused\n9\n" ∷
    prints "method,exercised,draw\nL,12,0\naccount,short\n1,5\n2,8\n" "refused\n10\n" ∷
    prints "method,exercised,draw\nW,4,0\naccount,short\n1,5\n" "refused\n10\n" ∷
    -- S equal to T without a draw, and one position under L without a draw
    prints "method,exercised,draw\nL,13,0\naccount,short\n1,5\n2,8\n" "account,assigned\n1,5\n2,8\n" ∷
    prints "method,exercised,draw\nW,13,0\naccount,short\n1,5\n2,8\n" "account,assigned\n1,5\n2,8\n" ∷
    prints "method,exercised,draw\nL,4,0\naccount,short\n1,5\n" "account,assigned\n1,4\n" ∷
    -- leading zeros: case M again; accounts that rise as numbers, and not as digits
    prints "method,exercised,draw\nL,0013,0000004855\naccount,short\n0001,5\n0002,08\n003,2\n04,10\n5,011\n" "account,assigned\n1,0\n2,0\n3,0\n4,8\n5,5\n" ∷
    prints "method,exercised,draw\nL,13,0\naccount,short\n9,5\n0010,8\n" "account,assigned\n9,5\n10,8\n" ∷
    -- two spellings of one account; accounts that fall as numbers, and not as digits; eleven digits
    prints "method,exercised,draw\nL,12,4855\naccount,short\n1,5\n01,8\n" "refused\n5\n" ∷
    prints "method,exercised,draw\nW,12,1\naccount,short\n0000000007,5\n7,8\n" "refused\n5\n" ∷
    prints "method,exercised,draw\nP,12,0\naccount,short\n0002,5\n1,8\n" "refused\n5\n" ∷
    prints "method,exercised,draw\nL,12,4855\naccount,short\n00000000001,5\n2,8\n" "refused\n13\n" ∷
    -- codes: under W accounts are printed in code order, under P and L they must rise; codes that are the accounts
    prints "method,exercised,draw\nW,13,0\ncode,account,short\n1,700,5\n3,500,8\n" "account,assigned\n700,5\n500,8\n" ∷
    prints "method,exercised,draw\nP,13,0\ncode,account,short\n1,700,5\n3,500,8\n" "refused\n5\n" ∷
    prints "method,exercised,draw\nL,13,0\ncode,account,short\n1,700,5\n3,500,8\n" "refused\n5\n" ∷
    prints "method,exercised,draw\nL,13,4855\ncode,account,short\n1,1,5\n2,2,8\n3,3,2\n4,4,10\n5,5,11\n" "account,assigned\n1,0\n2,0\n3,0\n4,8\n5,5\n" ∷
    -- a code that falls, an account twice, two numbers in a line, any code under L
    prints "method,exercised,draw\nW,13,0\ncode,account,short\n3,500,5\n1,700,8\n" "refused\n5\n" ∷
    prints "method,exercised,draw\nW,13,0\ncode,account,short\n1,700,5\n3,700,8\n" "refused\n19\n" ∷
    prints "method,exercised,draw\nW,13,0\ncode,account,short\n1,700,5\n700,8\n" "refused\n13\n" ∷
    prints "method,exercised,draw\nL,13,0\ncode,account,short\n3,500,5\n0,700,8\n" "account,assigned\n500,5\n700,8\n" ∷
    -- the exhibit of source document 004, customers A to J as accounts 1 to 10
    prints "method,exercised,draw\nR,50,395\naccount,short\n1,1\n2,50\n3,100\n4,2\n5,1\n6,1\n7,1000\n8,1\n9,10\n10,20\n"
    "account,assigned\n1,0\n2,0\n3,0\n4,0\n5,0\n6,0\n7,50\n8,0\n9,0\n10,0\naccount,first,last,first2,last2\n1,1,1,1187,1187\n2,2,51,1188,1237\n3,52,151,1238,1337\n4,152,153,1338,1339\n5,154,154,1340,1340\n6,155,155,1341,1341\n7,156,1155,1342,2341\n8,1156,1156,2342,2342\n9,1157,1166,2343,2352\n10,1167,1186,2353,2372\n" ∷
    -- R where no draw is needed, S equal to T and one position, has its ranges too; a refusal under R has none
    prints "method,exercised,draw\nR,13,0\naccount,short\n1,5\n2,8\n" "account,assigned\n1,5\n2,8\naccount,first,last,first2,last2\n1,1,5,14,18\n2,6,13,19,26\n" ∷
    prints "method,exercised,draw\nR,4,4294967295\naccount,short\n7,5\n" "account,assigned\n7,4\naccount,first,last,first2,last2\n7,1,5,6,10\n" ∷
    prints "method,exercised,draw\nR,14,0\naccount,short\n1,5\n2,8\n" "refused\n9\n" ∷
    prints "method,exercised,draw\nR,0,0\naccount,short\n1,5\n" "refused\n8\n" ∷
    -- case M from the same starting place by R
    prints "method,exercised,draw\nR,13,17\naccount,short\n1,5\n2,8\n3,2\n4,10\n5,11\n" "account,assigned\n1,0\n2,0\n3,0\n4,8\n5,5\naccount,first,last,first2,last2\n1,1,5,37,41\n2,6,13,42,49\n3,14,15,50,51\n4,16,25,52,61\n5,26,36,62,72\n" ∷
    -- last numbers: case M by FINRA's table, also under R, a wheel list with codes; 20 for equal ones and for 0, 6 in the other form, 7
    prints "method,exercised,draw\nL,13,4855\naccount,last\n1,5\n2,13\n3,15\n4,25\n5,36\n" "account,assigned\n1,0\n2,0\n3,0\n4,8\n5,5\n" ∷
    prints "method,exercised,draw\nR,13,17\naccount,last\n1,5\n2,13\n3,15\n4,25\n5,36\n" "account,assigned\n1,0\n2,0\n3,0\n4,8\n5,5\naccount,first,last,first2,last2\n1,1,5,37,41\n2,6,13,42,49\n3,14,15,50,51\n4,16,25,52,61\n5,26,36,62,72\n" ∷
    prints "method,exercised,draw\nW,13,0\ncode,account,last\n1,700,5\n3,500,13\n" "account,assigned\n700,5\n500,8\n" ∷
    prints "method,exercised,draw\nL,13,4855\naccount,last\n1,5\n2,5\n" "refused\n20\n" ∷
    prints "method,exercised,draw\nL,13,4855\naccount,last\n1,0\n2,5\n" "refused\n20\n" ∷
    prints "method,exercised,draw\nL,13,4855\naccount,short\n1,0\n2,5\n" "refused\n6\n" ∷
    prints "method,exercised,draw\nL,13,4855\naccount,last\n1,5\n2,10000001\n" "refused\n7\n" ∷
    prints "method,exercised,draw\nL,13,4855\naccount,last\n" "refused\n3\n" ∷
    -- the increment: A by tens, with leading zeros, and by 25, which is A without it; 23 for 0, also where S equals T; 24; P looks at none; its column without a value
    prints "method,exercised,draw,increment\nW,175,1,10\naccount,short\n1,60\n2,200\n3,95\n" "account,assigned\n1,31\n2,103\n3,41\n" ∷
    prints "method,exercised,draw,increment\nW,175,1,0010\naccount,last\n1,60\n2,260\n3,355\n" "account,assigned\n1,31\n2,103\n3,41\n" ∷
    prints "method,exercised,draw,increment\nW,175,1,25\naccount,short\n1,60\n2,200\n3,95\n" "account,assigned\n1,35\n2,97\n3,43\n" ∷
    prints "method,exercised,draw\nW,175,1\naccount,short\n1,60\n2,200\n3,95\n" "account,assigned\n1,35\n2,97\n3,43\n" ∷
    prints "method,exercised,draw,increment\nW,175,1,0\naccount,short\n1,60\n2,200\n3,95\n" "refused\n23\n" ∷
    prints "method,exercised,draw,increment\nW,355,1,0\naccount,short\n1,60\n2,200\n3,95\n" "refused\n23\n" ∷
    prints "method,exercised,draw,increment\nW,1000001,1,1\naccount,short\n1,10000000\n" "refused\n24\n" ∷
    prints "method,exercised,draw,increment\nP,13,0,0\naccount,short\n1,5\n2,8\n" "account,assigned\n1,5\n2,8\n" ∷
    prints "method,exercised,draw,increment\nW,175,1\naccount,short\n1,60\n2,200\n3,95\n" "refused\n13\n" ∷
    []

-- the lines `unfolding` name every definition that printing computes with: the call (by `called_on`) and the ranges, the rows and names lines of a text, and what is printed
calling : Series → ℕ → Result ℕ
unfolding called_on first_range second_range
calling s room = verdict s room

reading : ℕ → Text → Result (Read (List ℕ))
unfolding digit digits spelled amount_from amount numeral number decimal_in decimal ends field past field_by end_before read_fields write_number numbers read_row read_rows write_parted write_rows rows_of column terms_line code_name account_name form_name account_line positions_line after_line names_or read_names
reading k s = read_row k s

printing : Text → Text
unfolding calling reading letter method_among method_by method_of read_terms read_head read_positions read_text refused_lines assigned_lines range_columns range_lines ranges_by series_or_refusal text_or_refusal lines_for printed ascii differences
printing s = printed s

pub known : map (λ c. printed c.input) cases ≡ map (λ c. c.output) cases
unfolding cases printing
known = refl

-- ---- the room for what is printed

-- lines of 11 bytes that tell 12: with room for them, for one more, for one less and for none
pub printed-to-room : map (print_into (ascii "refused\n12\n") 12) (11 ∷ 12 ∷ 10 ∷ 0 ∷ []) ≡ record { written = 11; refusal = 12 } ∷ record { written = 11; refusal = 12 } ∷ record { written = 0; refusal = 4 } ∷ record { written = 0; refusal = 4 } ∷ []
unfolding ascii print_into
printed-to-room = refl
