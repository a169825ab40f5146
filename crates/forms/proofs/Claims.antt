-- Document 02's last numbers: known lists in both forms, proved of the definitions by computation.
use Prim.Native.Nat.{ℕ, suc}
use mathlib.Core.Path.{◌≡◌, refl}
use mathlib.Core.List.{List, [], ◌∷◌, map}
use lib.ListN.{length}
use Rattle.series.specs.Results.{Result, refused, value}
use Rattle.series.specs.Sums.{listed}
use Rattle.series.specs.Series.{DEFAULT_INCREMENT, terms_of}
use Rattle.series.specs.Refusals.{without, list_verdict}
use Rattle.series.specs.declared.Method.{Method}
use Rattle.series.specs.declared.Method.TheVariants.{Wheel, ProRata, Lottery, RemainderDraw}
use Rattle.series.proofs.Starred.{Called, called_on, allocated, turned_away}
use Rattle.forms.specs.Forms.{Listing, differences, sums, series_in, in_form, verdict_in, list_verdict_in, changed}
use Rattle.forms.specs.declared.Form.{Form}
use Rattle.forms.specs.declared.Form.TheVariants.{Shorts, LastNumbers}

-- a listing by its form, method, codes, accounts and numbers, S and the draw
abbrev lists : Form → Method → List ℕ → List ℕ → List ℕ → ℕ → ℕ → Listing
lists f m codes accounts ns S draw = record { form = f; terms = terms_of m S draw DEFAULT_INCREMENT; codes = codes; accounts = accounts; numbers = ns }

-- with codes and accounts 1, 2, ..
unfoldable pub numbered : Form → Method → List ℕ → ℕ → ℕ → Listing
unfolding listed
numbered f m ns S draw = lists f m (listed suc (length ns)) (listed suc (length ns)) ns S draw

-- case M in both forms
abbrev M_shorts : List ℕ
M_shorts = 5 ∷ 8 ∷ 2 ∷ 10 ∷ 11 ∷ []

abbrev M_lasts : List ℕ
M_lasts = 5 ∷ 13 ∷ 15 ∷ 25 ∷ 36 ∷ []

pub listings : List Listing
listings =
    -- case M, and the same list under the other methods
    numbered Shorts Lottery M_shorts 13 4855 ∷
    numbered LastNumbers Lottery M_lasts 13 4855 ∷
    numbered Shorts Wheel M_shorts 35 36 ∷
    numbered LastNumbers Wheel M_lasts 35 36 ∷
    numbered Shorts ProRata M_shorts 36 0 ∷
    numbered LastNumbers ProRata M_lasts 36 0 ∷
    numbered LastNumbers RemainderDraw M_lasts 13 17 ∷
    -- equal last numbers, one that falls, and 0 in the first position and in a later one
    numbered LastNumbers Lottery (5 ∷ 5 ∷ []) 1 1 ∷
    numbered LastNumbers Lottery (5 ∷ 4 ∷ 9 ∷ []) 1 1 ∷
    numbered LastNumbers Lottery (0 ∷ 5 ∷ []) 1 1 ∷
    numbered LastNumbers Lottery (5 ∷ 0 ∷ []) 1 1 ∷
    -- shorts of 0 are 6, and no shorts are 20
    numbered Shorts Lottery (5 ∷ 0 ∷ []) 1 1 ∷
    numbered Shorts Lottery (5 ∷ 5 ∷ []) 1 1 ∷
    -- 10,000,000 contracts and one more, in the first position and in a later one, and the largest number
    numbered LastNumbers ProRata (10000000 ∷ []) 1 0 ∷
    numbered LastNumbers ProRata (10000001 ∷ []) 1 0 ∷
    numbered LastNumbers ProRata (9999999 ∷ 10000000 ∷ []) 1 0 ∷
    numbered LastNumbers ProRata (9999999 ∷ 10000001 ∷ []) 1 0 ∷
    numbered LastNumbers ProRata (5 ∷ 4294967295 ∷ 3 ∷ []) 1 0 ∷
    -- an empty list
    numbered LastNumbers Lottery [] 1 1 ∷
    -- under W with codes 5, then 19, then 20, then 7
    lists LastNumbers Wheel (10 ∷ 10 ∷ []) (500 ∷ 500 ∷ []) (60 ∷ 60 ∷ []) 1 1 ∷
    lists LastNumbers Wheel (10 ∷ 20 ∷ []) (500 ∷ 500 ∷ []) (60 ∷ 60 ∷ []) 1 1 ∷
    lists LastNumbers Wheel (10 ∷ 20 ∷ []) (700 ∷ 500 ∷ []) (60 ∷ 60 ∷ []) 1 1 ∷
    lists LastNumbers Wheel (10 ∷ 20 ∷ []) (700 ∷ 500 ∷ []) (60 ∷ 10000001 ∷ []) 1 1 ∷
    -- the lengths before all else; S and the draw after the list
    lists LastNumbers Lottery [] (1 ∷ []) (5 ∷ 5 ∷ []) 1 1 ∷
    numbered LastNumbers Lottery M_lasts 0 1 ∷
    numbered LastNumbers Lottery M_lasts 37 1 ∷
    numbered LastNumbers Lottery M_lasts 13 0 ∷
    []

-- the call on a listing
pub called_in : Listing → Called
unfolding called_on differences
called_in l = let c = called_on (series_in l) in record { answered = in_form l.form c.answered; written = c.written }

pub calls_known : map called_in listings ≡
    allocated Lottery 36 18 (0 ∷ 0 ∷ 0 ∷ 8 ∷ 5 ∷ []) ∷
    allocated Lottery 36 18 (0 ∷ 0 ∷ 0 ∷ 8 ∷ 5 ∷ []) ∷
    allocated Wheel 36 2 (5 ∷ 8 ∷ 2 ∷ 10 ∷ 10 ∷ []) ∷
    allocated Wheel 36 2 (5 ∷ 8 ∷ 2 ∷ 10 ∷ 10 ∷ []) ∷
    allocated ProRata 36 0 M_shorts ∷
    allocated ProRata 36 0 M_shorts ∷
    allocated RemainderDraw 36 18 (0 ∷ 0 ∷ 0 ∷ 8 ∷ 5 ∷ []) ∷
    turned_away 2 20 ∷
    turned_away 3 20 ∷
    turned_away 2 20 ∷
    turned_away 2 20 ∷
    turned_away 2 6 ∷
    allocated Lottery 10 1 (1 ∷ 0 ∷ []) ∷
    allocated ProRata 10000000 0 (1 ∷ []) ∷
    turned_away 1 7 ∷
    allocated ProRata 10000000 1 (1 ∷ 0 ∷ []) ∷
    turned_away 2 7 ∷
    turned_away 3 7 ∷
    turned_away 0 3 ∷
    turned_away 2 5 ∷
    turned_away 2 19 ∷
    turned_away 2 20 ∷
    turned_away 2 7 ∷
    turned_away 2 1 ∷
    turned_away 5 8 ∷
    turned_away 5 9 ∷
    turned_away 5 10 ∷
    []
unfolding called_in numbered listings
calls_known = refl

-- the same lists judged alone
pub judged_in : Listing → Result ℕ
unfolding called_in without list_verdict list_verdict_in
judged_in l = list_verdict_in l.form l.terms.method l.codes l.accounts l.numbers

pub lists_known : map judged_in listings ≡
    value 36 ∷
    value 36 ∷
    value 36 ∷
    value 36 ∷
    value 36 ∷
    value 36 ∷
    value 36 ∷
    refused 20 ∷
    refused 20 ∷
    refused 20 ∷
    refused 20 ∷
    refused 6 ∷
    value 10 ∷
    value 10000000 ∷
    refused 7 ∷
    value 10000000 ∷
    refused 7 ∷
    refused 7 ∷
    refused 3 ∷
    refused 5 ∷
    refused 19 ∷
    refused 20 ∷
    refused 7 ∷
    refused 1 ∷
    value 36 ∷
    value 36 ∷
    value 36 ∷
    []
unfolding judged_in numbered listings
lists_known = refl

-- case M and its change, there and back, with any S and draw
pub change_known : (changed (numbered Shorts Lottery M_shorts 13 4855) ≡ value (numbered LastNumbers Lottery M_lasts 13 4855))
    × (changed (numbered LastNumbers Lottery M_lasts 0 0) ≡ value (numbered Shorts Lottery M_shorts 0 0))
    × (changed (numbered LastNumbers Lottery (5 ∷ 5 ∷ []) 1 1) ≡ refused 20)
    × (changed (numbered Shorts Lottery (5 ∷ 0 ∷ []) 1 1) ≡ refused 6)
unfolding judged_in numbered sums changed verdict_in
change_known = (refl, refl, refl, refl)
