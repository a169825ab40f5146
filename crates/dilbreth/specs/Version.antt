-- The number of the exported calls; src/version.rt says where else it stands.
use Rattle.std.specs.Prelude.{ℕ}

abbrev pub VERSION : ℕ
VERSION = 10
