-- What reading came to: how many bytes, and which.
use Rattle.std.specs.Prelude.{ℕ, ◌≡◌, ◌<◌, ◌≤◌, List, length, take, Ok, Err, Option, Result}
use Rattle.std.specs.Io.KnownBytes.{Consumes, IsAtEnd}
use Rattle.console.specs.declared.ReadFailed.{ReadFailed}

-- the bytes that were read lie within the buffer
abbrev pub Within : Result ℕ ReadFailed → ℕ → Type 0
Within (Ok n) most = n ≤ most
Within (Err e) most = Unit

-- one read: its bytes stand at the front of the buffer and are those that the reader had before, and there are none only at the reader's end
abbrev pub ReadsSome : Result ℕ ReadFailed → List ℕ → Option (List ℕ) → Option (List ℕ) → Type 0
ReadsSome (Ok n) buffer old new = Consumes old new (take n buffer) × (n ≡ 0 → 0 < length buffer → IsAtEnd new)
ReadsSome (Err e) buffer old new = Unit

-- the whole of the input, or as much as the buffer holds: no byte is left out
abbrev pub ReadsAll : Result ℕ ReadFailed → List ℕ → Option (List ℕ) → Option (List ℕ) → Type 0
ReadsAll (Ok n) buffer old new = Consumes old new (take n buffer) × (n < length buffer → IsAtEnd new)
ReadsAll (Err e) buffer old new = Unit
