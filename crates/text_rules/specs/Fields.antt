-- Fields of a text: bytes up to a comma or byte 10.
use Rattle.std.specs.Prelude.{ℕ, zero, suc, Bool, ◌||◌, cond, List, [], ◌∷◌, ◌++◌, eqb, length, drop}
use Prim.Native.Char.{code}
use Rattle.series.specs.Results.{Result, refused, value, ◌>>=◌}
use Rattle.text_rules.specs.Numbers.{decimal}

abbrev pub Text : Type 0
Text = List ℕ

abbrev pub COMMA : ℕ
COMMA = code ","

-- byte 10, which ends a line
abbrev pub NEWLINE : ℕ
NEWLINE = 10

-- something read, and the text after it
pub record Read (A : Type 0) : Type 0 where
  pub found : A
  pub rest : Text

-- the byte ends a field: a comma or byte 10
unfoldable pub ends : ℕ → Bool
ends b = eqb b COMMA || eqb b NEWLINE

-- the first field: the bytes before the first one that ends it
unfoldable pub field : Text → Text
field [] = []
field (b ∷ s) = cond (ends b) [] (b ∷ field s)

-- the text after the byte c, else 13
unfoldable pub past : ℕ → Text → Result Text
past c [] = refused 13
past c (b ∷ s) = cond (eqb b c) (value s) (refused 13)

-- the first field, where the byte c ends it, else 13
unfoldable pub field_by : ℕ → Text → Result (Read Text)
field_by c s = do
  rest ← past c (drop (length (field s)) s)
  value (record { found = field s; rest = rest })

-- the byte that ends a field, after which k fields follow: `end` ends the last, `part` each other
unfoldable pub end_before : ℕ → ℕ → ℕ → ℕ
end_before part end zero = end
end_before part end (suc k) = part

-- a line of k fields, parted by commas and ended by byte 10, else 13
unfoldable pub read_fields : ℕ → Text → Result (Read (List Text))
read_fields zero s = value (record { found = []; rest = s })
read_fields (suc k) s = do
  f ← field_by (end_before COMMA NEWLINE k) s
  fs ← read_fields k f.rest
  value (record { found = f.found ∷ fs.found; rest = fs.rest })

-- a number written as a field that the byte c ends
unfoldable pub write_number : ℕ → ℕ → Text
write_number n c = decimal n ++ (c ∷ [])
