-- Document 02's identification codes: known calls, proved of the definitions by computation.
use Prim.Native.Nat.{ℕ}
use mathlib.Core.Path.{◌≡◌, refl}
use mathlib.Core.List.{List, [], ◌∷◌, map}
use Rattle.series.specs.Results.{Result, refused, value}
use Rattle.series.specs.Series.{Series, DEFAULT_INCREMENT, terms_of, method}
use Rattle.series.specs.Refusals.{without, list_verdict}
use Rattle.series.specs.declared.Method.{Method}
use Rattle.series.specs.declared.Method.TheVariants.{Wheel, ProRata, Lottery}
use Rattle.series.proofs.Starred.{called_on, allocated, turned_away}

-- a series by its codes, accounts and shorts
abbrev coded : Method → List ℕ → List ℕ → List ℕ → ℕ → ℕ → Series
coded m codes accounts shorts S draw =
    record {
      terms = terms_of m S draw DEFAULT_INCREMENT;
      codes = codes;
      accounts = accounts;
      shorts = shorts;
    }

abbrev A_shorts : List ℕ
A_shorts = 60 ∷ 200 ∷ 95 ∷ []

pub calls : List Series
calls =
    -- a sub-account with a late code and a low account number: under W it stands where its code falls, under P and L it is 5
    coded Wheel (10 ∷ 20 ∷ 30 ∷ []) (500 ∷ 700 ∷ 100 ∷ []) A_shorts 175 1 ∷
    coded ProRata (10 ∷ 20 ∷ 30 ∷ []) (500 ∷ 700 ∷ 100 ∷ []) A_shorts 175 1 ∷
    coded Lottery (10 ∷ 20 ∷ 30 ∷ []) (500 ∷ 700 ∷ 100 ∷ []) A_shorts 175 1 ∷
    -- under W an account twice, far apart and beside itself, and account 0
    coded Wheel (10 ∷ 20 ∷ 30 ∷ []) (500 ∷ 700 ∷ 500 ∷ []) A_shorts 175 1 ∷
    coded Wheel (10 ∷ 20 ∷ 30 ∷ []) (700 ∷ 500 ∷ 500 ∷ []) A_shorts 175 1 ∷
    coded Wheel (10 ∷ 20 ∷ 30 ∷ []) (500 ∷ 0 ∷ 100 ∷ []) A_shorts 175 1 ∷
    -- before 6 and 7 of its position, after 6 of an earlier one, and after 5
    coded Wheel (10 ∷ 20 ∷ []) (500 ∷ 500 ∷ []) (60 ∷ 0 ∷ []) 1 1 ∷
    coded Wheel (10 ∷ 20 ∷ []) (500 ∷ 500 ∷ []) (60 ∷ 10000000 ∷ []) 1 1 ∷
    coded Wheel (10 ∷ 20 ∷ []) (500 ∷ 500 ∷ []) (0 ∷ 60 ∷ []) 1 1 ∷
    coded Wheel (10 ∷ 10 ∷ []) (500 ∷ 500 ∷ []) (60 ∷ 60 ∷ []) 1 1 ∷
    -- code 0, and codes that fall
    coded Wheel (0 ∷ 20 ∷ []) (500 ∷ 700 ∷ []) (60 ∷ 60 ∷ []) 1 1 ∷
    coded Wheel (20 ∷ 10 ∷ []) (500 ∷ 700 ∷ []) (60 ∷ 60 ∷ []) 1 1 ∷
    -- under P and L no code is looked at
    coded ProRata (20 ∷ 0 ∷ 20 ∷ []) (1 ∷ 2 ∷ 3 ∷ []) (5 ∷ 3 ∷ 2 ∷ []) 4 0 ∷
    coded Lottery (20 ∷ 0 ∷ 20 ∷ []) (1 ∷ 2 ∷ 3 ∷ []) (1 ∷ 1 ∷ 1 ∷ []) 1 3334 ∷
    -- codes of another length, fewer and more
    coded Wheel (10 ∷ 20 ∷ []) (1 ∷ 2 ∷ 3 ∷ []) A_shorts 175 1 ∷
    coded Wheel (10 ∷ 20 ∷ 30 ∷ 40 ∷ []) (1 ∷ 2 ∷ 3 ∷ []) A_shorts 175 1 ∷
    coded ProRata [] (1 ∷ 2 ∷ 3 ∷ []) (5 ∷ 3 ∷ 2 ∷ []) 4 0 ∷
    coded Lottery (10 ∷ 20 ∷ 30 ∷ 40 ∷ []) (1 ∷ 2 ∷ 3 ∷ []) (1 ∷ 1 ∷ 1 ∷ []) 1 3334 ∷
    []

pub calls_known : map called_on calls ≡
    allocated Wheel 355 7 (35 ∷ 97 ∷ 43 ∷ []) ∷
    turned_away 3 5 ∷
    turned_away 3 5 ∷
    turned_away 3 19 ∷
    turned_away 3 19 ∷
    turned_away 3 19 ∷
    turned_away 2 19 ∷
    turned_away 2 19 ∷
    turned_away 2 6 ∷
    turned_away 2 5 ∷
    turned_away 2 5 ∷
    turned_away 2 5 ∷
    allocated ProRata 10 1 (2 ∷ 1 ∷ 1 ∷ []) ∷
    allocated Lottery 3 2 (0 ∷ 1 ∷ 0 ∷ []) ∷
    turned_away 3 1 ∷
    turned_away 3 1 ∷
    allocated ProRata 10 1 (2 ∷ 1 ∷ 1 ∷ []) ∷
    allocated Lottery 3 2 (0 ∷ 1 ∷ 0 ∷ []) ∷
    []
unfolding called_on calls
calls_known = refl

-- the same lists judged alone
pub judged_alone : Series → Result ℕ
unfolding called_on without list_verdict
judged_alone s = list_verdict (method s) s.codes s.accounts s.shorts

pub lists_known : map judged_alone calls ≡
    value 355 ∷
    refused 5 ∷
    refused 5 ∷
    refused 19 ∷
    refused 19 ∷
    refused 19 ∷
    refused 19 ∷
    refused 19 ∷
    refused 6 ∷
    refused 5 ∷
    refused 5 ∷
    refused 5 ∷
    value 10 ∷
    value 3 ∷
    refused 1 ∷
    refused 1 ∷
    value 10 ∷
    value 3 ∷
    []
unfolding judged_alone calls
lists_known = refl
