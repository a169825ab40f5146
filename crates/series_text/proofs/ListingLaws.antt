-- What the programs' calls know of a listing that `read` has handed back in three lists of 1,024 numbers.
use Prim.Native.Nat.{ℕ, ◌≤◌}
use mathlib.Core.Path.{◌≡◌}
use mathlib.Core.List.{List}
use native.Mathlib.Omega.{arith}
use lib.ListN.{length, take}
use Rattle.std.specs.Prelude.{Ok}
use Rattle.series.specs.Results.{value}
use Rattle.series.specs.Outputs.{Lent}
use Rattle.series.specs.declared.Terms.{Terms}
use Rattle.forms.specs.declared.Form.{Form}
use Rattle.text_rules.specs.Fields.{Text}
use Rattle.text_rules.specs.Text.{MOST_LINES, read_text}
use Rattle.text_rules.specs.Calls.{ReadingCall}
use Rattle.text_rules.proofs.ReadingLaws.{read_listing}
use Rattle.series_text.specs.Answers.{reading_of}
use Rattle.series_text.specs.declared.ReadSeries.{ReadSeries}

-- its n positions stand first in the three lists, which have room for them
pub record ListingRead (s : Text) (codes accounts numbers : List ℕ) (f : Form) (t : Terms) (n : ℕ) : Type 0 where
  pub few : n ≤ MOST_LINES
  pub in_codes : n ≤ length codes
  pub in_accounts : n ≤ length accounts
  pub in_numbers : n ≤ length numbers
  pub reads : read_text s ≡ value (record { form = f; terms = t; codes = take n codes; accounts = take n accounts; numbers = take n numbers })

-- lists that keep their length of 1,024
pub record Room (codes accounts numbers : Lent (List ℕ)) : Type 0 where
  pub codes_room : MOST_LINES ≤ length codes.old
  pub accounts_room : MOST_LINES ≤ length accounts.old
  pub numbers_room : MOST_LINES ≤ length numbers.old
  pub codes_kept : length codes.new ≡ length codes.old
  pub accounts_kept : length accounts.new ≡ length accounts.old
  pub numbers_kept : length numbers.new ≡ length numbers.old

pub listing_read : {s : Text} {codes accounts numbers : Lent (List ℕ)} {r : ReadSeries}
    → Room codes accounts numbers → ReadingCall s (reading_of (Ok r)) codes accounts numbers
    → ListingRead s codes.new accounts.new numbers.new r.form r.terms r.positions
listing_read {s = s} {codes = codes} {accounts = accounts} {numbers = numbers} {r = r} room call =
    let read = read_listing s codes accounts numbers room.codes_room room.accounts_room room.numbers_room r.form r.terms r.positions call in
    record {
      few = read.0;
      in_codes = omega (arith, read.0, room.codes_room, room.codes_kept);
      in_accounts = omega (arith, read.0, room.accounts_room, room.accounts_kept);
      in_numbers = omega (arith, read.0, room.numbers_room, room.numbers_kept);
      reads = read.1;
    }
