-- What the functions that put bytes promise.
use Rattle.std.specs.Prelude.{ℕ, ◌+◌, ◌*◌, ◌≤◌, ◌≡◌, List, ◌++◌, length, take, drop}
use Rattle.text_rules.specs.Rows.{write_parted}

-- the list old with vs in the place of what stood from index at on
unfoldable pub placed : List ℕ → ℕ → List ℕ → List ℕ
placed vs at old = take at old ++ vs ++ drop (at + length vs) old

-- the bytes vs are put at index at, and the next index is handed back
pub record Put (vs old : List ℕ) (at : ℕ) (new : List ℕ) (next : ℕ) : Type 0 where
  pub text : new ≡ placed vs at old
  pub after : next ≡ at + length vs

-- the length r of a row, whatever the bytes that part and end it: at most 11 for each number
pub record RowLength (row : List ℕ) (r : ℕ) : Type 0 where
  pub long : (part end : ℕ) → r ≡ length (write_parted part end row)
  pub few : r ≤ 11 * length row
