-- What a call that writes answers and leaves, from what it comes to.
use Prim.Native.Nat.{ℕ}
use mathlib.Core.Path.{◌≡◌, refl}
use Rattle.series.specs.Results.{Result, refused}
use Rattle.text_rules.specs.Fields.{Text}
use Rattle.text_rules.specs.Calls.{length_of, WritingCall}

-- a refusal is answered, and writes nothing
pub refused-writes : (w : Result Text) (old : Text) (n : ℕ) → w ≡ refused n → WritingCall w (refused n) old old
unfolding length_of
refused-writes w old n e = rw e (record { answered = refl; written = refl })
