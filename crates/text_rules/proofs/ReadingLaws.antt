-- What reading gives where the lent lists have room for 1,024 positions.
use Prim.Native.Nat.{ℕ, ◌≤◌}
use mathlib.Core.Path.{◌≡◌, refl, sym, ap, ◌∙◌}
use mathlib.Core.List.{List}
use native.Mathlib.Omega.{arith}
use borrow.Author.Tests.{le-ltb}
use lib.ListN.{length, take}
use lib.Seq.{take_at}
use Rattle.series.specs.Results.{Result, refused, value}
use Rattle.series.specs.Outputs.{onto, Lent}
use Rattle.series.specs.declared.Terms.{Terms}
use Rattle.series.proofs.ResultLaws.{never, value_is}
use Rattle.forms.specs.Forms.{Listing}
use Rattle.forms.specs.declared.Form.{Form}
use Rattle.text_rules.specs.Fields.{Text}
use Rattle.text_rules.specs.Text.{MOST_LINES, read_text}
use Rattle.text_rules.specs.Lists.{Columns}
use Rattle.text_rules.specs.Calls.{Handed, read_into, handed, read_lent, ReadingCall}
use Rattle.text_rules.proofs.ShortestText.{text_is}

-- the lists of a listing that was read: of one length, and at most 1,024 positions
pub few_positions : (s : Text) (t : Listing) → read_text s ≡ value t → Columns t.codes t.accounts t.numbers
few_positions s t e = (text_is s t e).spells.lists

-- three lent lists, each with room for 1,024 positions
module _ (s : Text) (codes accounts numbers : Lent (List ℕ)) (room-c : MOST_LINES ≤ length codes.old) (room-a : MOST_LINES ≤ length accounts.old) (room-n : MOST_LINES ≤ length numbers.old) where
  -- 4 is never met
  read_into_lem : (r : Result Listing) → read_text s ≡ r → read_lent s codes accounts numbers ≡ r
  unfolding read_into
  read_into_lem (refused n) e = rw e
  read_into_lem (value t) e =
      let few = (few_positions s t e).few in
      let N = length t.accounts in
      rw (e, le-ltb (length codes.old) N (omega arith), le-ltb (length accounts.old) N (omega arith), le-ltb (length numbers.old) N (omega arith))

  pub read_refused : (n : ℕ) → ReadingCall s (refused n) codes accounts numbers → read_text s ≡ refused n
  unfolding handed
  read_refused n call = go (read_text s) refl
    where
      go : (r : Result Listing) → read_text s ≡ r → read_text s ≡ refused n
      go (refused k) f =
          let is : ◌≡◌ {A = Result Handed} (refused n) (refused k) = call.answered ∙ ap handed (read_into_lem (refused k) f) in
          let same : k ≡ n = cc in
          f ∙ ap refused same
      go (value x) f = absurd (never n _ (call.answered ∙ ap handed (read_into_lem (value x) f)))

  -- the listing whose positions stand first in the three lists
  pub read_listing : (f : Form) (t : Terms) (n : ℕ) → ReadingCall s (value (record { form = f; terms = t; positions = n })) codes accounts numbers
      → (n ≤ MOST_LINES) × (read_text s ≡ value (record { form = f; terms = t; codes = take n codes.new; accounts = take n accounts.new; numbers = take n numbers.new }))
  unfolding handed onto
  read_listing g t n call = go (read_text s) refl
    where
      go : (r : Result Listing) → read_text s ≡ r → (n ≤ MOST_LINES) × (read_text s ≡ value (record { form = g; terms = t; codes = take n codes.new; accounts = take n accounts.new; numbers = take n numbers.new }))
      go (refused k) f = absurd (never k _ (sym (call.answered ∙ ap handed (read_into_lem (refused k) f))))
      go (value x) f =
          let both : ◌≡◌ {A = Handed} (record { form = g; terms = t; positions = n }) (record { form = x.form; terms = x.terms; positions = length x.accounts }) = value_is (call.answered ∙ ap handed (read_into_lem (value x) f)) in
          let form : g ≡ x.form = ap (λ (y : Handed). y.form) both in
          let terms : t ≡ x.terms = ap (λ (y : Handed). y.terms) both in
          let count : n ≡ length x.accounts = ap (λ (y : Handed). y.positions) both in
          let lists = few_positions s x f in
          let c : take n codes.new ≡ x.codes = rw (call.written.codes, read_into_lem (value x) f) (take_at x.codes _ n (lists.codes ∙ sym count)) in
          let a : take n accounts.new ≡ x.accounts = rw (call.written.accounts, read_into_lem (value x) f) (take_at x.accounts _ n (sym count)) in
          let h : take n numbers.new ≡ x.numbers = rw (call.written.numbers, read_into_lem (value x) f) (take_at x.numbers _ n (lists.numbers ∙ sym count)) in
          (omega (arith, lists.few, count), f ∙ ap value (sym (rw (c, a, h, terms, form))))
