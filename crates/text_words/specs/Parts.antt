-- What the answer on a letter means.
use Rattle.std.specs.Prelude.{Option, Some, None}
use Rattle.series.specs.Results.{Result, refused, value}
use Rattle.series.specs.declared.Method.{Method}

-- a method
abbrev pub named_means : Option Method → Result Method
named_means (Some m) = value m
named_means None = refused 14
