-- Laws of reading a text: what it hands back and leaves, from what its parts answered.
use Prim.Native.Nat.{ℕ, ◌≤◌, ◌<◌}
use mathlib.Core.Path.{◌≡◌, ◌∙◌}
use mathlib.Core.Bool.{true, ◌||◌, or-true}
use mathlib.Core.List.{List, ◌++◌}
use borrow.Author.Tests.{lt-ltb, le-ltb}
use lib.Dec.{ltb}
use lib.ListN.{length, take, drop}
use lib.Seq.{length-take-le}
use Rattle.series.specs.Results.{refused, value, refuse}
use Rattle.series.specs.Outputs.{onto, Lent}
use Rattle.text_rules.specs.Fields.{Text, Read}
use Rattle.text_rules.specs.Text.{Head, read_head, read_positions, read_text}
use Rattle.text_rules.specs.Calls.{read_into, handed, ReadingCall}

-- a list that stays as it was
abbrev kept : List ℕ → Lent (List ℕ)
kept l = record { old = l; new = l }

-- the position lines of u are read: n positions, which stand first in three lists
pub record PositionsRead (h : Head) (u : Text) (codes accounts numbers : List ℕ) (n : ℕ) : Type 0 where
  pub reads : value (record { form = h.form; terms = h.terms; codes = take n codes; accounts = take n accounts; numbers = take n numbers }) ≡ read_positions h u
  pub in_codes : n ≤ length codes
  pub in_accounts : n ≤ length accounts
  pub in_numbers : n ≤ length numbers

module _ (s : Text) (cs xs ys : List ℕ) where
  leaves_refused : (n : ℕ) → read_into s (length cs) (length xs) (length ys) ≡ refused n → ReadingCall s (refused n) (kept cs) (kept xs) (kept ys)
  unfolding handed
  leaves_refused n e = record { answered = rw e; written = record { codes = rw e; accounts = rw e; numbers = rw e } }

  -- a fault in lines 1 to 3
  pub head_refused : {n : ℕ} → refused n ≡ read_head s → ReadingCall s (refused n) (kept cs) (kept xs) (kept ys)
  unfolding read_into read_text
  head_refused {n} e = leaves_refused n (rw (← e))

  module _ {h : Read Head} (hh : value h ≡ read_head s) where
    -- a fault in a position line
    pub positions_fault : {n : ℕ} → refused n ≡ read_positions h.found h.rest → ReadingCall s (refused n) (kept cs) (kept xs) (kept ys)
    unfolding read_into read_text
    positions_fault {n} e = leaves_refused n (rw (← hh, ← e))

    module _ {codes accounts numbers : List ℕ} {n : ℕ} (p : PositionsRead h.found h.rest codes accounts numbers n) where
      -- the text is read, and then the lists are judged
      text_read : read_into s (length cs) (length xs) (length ys)
          ≡ refuse (ltb (length cs) n || (ltb (length xs) n || ltb (length ys) n)) 4 (record { form = h.found.form; terms = h.found.terms; codes = take n codes; accounts = take n accounts; numbers = take n numbers })
      unfolding read_into read_text
      text_read = rw (← hh, ← p.reads, length-take-le n accounts p.in_accounts)

      read_short : (ltb (length cs) n || (ltb (length xs) n || ltb (length ys) n)) ≡ true → ReadingCall s (refused 4) (kept cs) (kept xs) (kept ys)
      read_short over = leaves_refused 4 (text_read ∙ rw over)

      -- the first list is too short
      pub codes-short : length cs < n → ReadingCall s (refused 4) (kept cs) (kept xs) (kept ys)
      codes-short lt = read_short (rw (lt-ltb (length cs) n lt))

      -- the second list is too short
      pub accounts-short : length xs < n → ReadingCall s (refused 4) (kept cs) (kept xs) (kept ys)
      accounts-short lt = read_short (rw (lt-ltb (length xs) n lt) (or-true (ltb (length cs) n)))

      -- the third list is too short
      pub numbers-short : length ys < n → ReadingCall s (refused 4) (kept cs) (kept xs) (kept ys)
      numbers-short lt = read_short (rw (lt-ltb (length ys) n lt, or-true (ltb (length xs) n)) (or-true (ltb (length cs) n)))

      -- the lists are filled
      pub read_all : n ≤ length cs → n ≤ length xs → n ≤ length ys → {cs' xs' ys' : List ℕ} → cs' ≡ take n codes ++ drop n cs → xs' ≡ take n accounts ++ drop n xs → ys' ≡ take n numbers ++ drop n ys
          → ReadingCall s (value (record { form = h.found.form; terms = h.found.terms; positions = n })) (record { old = cs; new = cs' }) (record { old = xs; new = xs' }) (record { old = ys; new = ys' })
      unfolding handed onto
      read_all lc lx ly ec ex ey =
          let z : read_into s (length cs) (length xs) (length ys) ≡ value (record { form = h.found.form; terms = h.found.terms; codes = take n codes; accounts = take n accounts; numbers = take n numbers })
          = text_read ∙ rw (le-ltb (length cs) n lc, le-ltb (length xs) n lx, le-ltb (length ys) n ly) in
          record {
            answered = rw (z, length-take-le n accounts p.in_accounts);
            written = record {
              codes = ec ∙ rw (z, length-take-le n codes p.in_codes);
              accounts = ex ∙ rw (z, length-take-le n accounts p.in_accounts);
              numbers = ey ∙ rw (z, length-take-le n numbers p.in_numbers);
            };
          }
