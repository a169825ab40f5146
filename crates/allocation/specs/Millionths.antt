-- Fixed-point numbers: what they stand for.
use Rattle.std.specs.Prelude.{ℕ, ◌+◌, ◌*◌}
use Rattle.series.specs.Wheel.{ONE}
use Rattle.allocation.specs.declared.millionths.Millionths.{Millionths}

-- how many millionths a number has: ONE for each contract, and the decimals
abbrev pub millionths : Millionths → ℕ
millionths m = m.contracts * ONE + m.decimals
