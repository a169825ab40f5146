-- How the starting number and the remainder draw start.
use Rattle.std.specs.Prelude.{ℕ}
use Rattle.series.specs.Places.{OnWheel}
use Rattle.series.specs.Series.{by_method}
use Rattle.series.specs.Lottery.{starting_place}
use Rattle.series.specs.RemainderDraw.{remainder_place}
pub use Rattle.series.specs.Answers.{place_of as start_of}
use Rattle.series.specs.declared.Method.{Method}
use Rattle.starts.specs.declared.StartBy.{StartBy}

-- how the draw leads to a starting place under L or R; W and P do not ask
abbrev pub start_by : Method → StartBy
start_by m = by_method m StartBy.TenThousandths StartBy.TenThousandths StartBy.TenThousandths StartBy.Remainder

-- the method that goes by such a start: L or R
abbrev pub method_for : StartBy → Method
method_for StartBy.TenThousandths = Method.Lottery
method_for StartBy.Remainder = Method.RemainderDraw

-- the starting place that the draw leads to
abbrev pub place_by : StartBy → ℕ → ℕ → ℕ
place_by StartBy.TenThousandths T draw = starting_place T draw
place_by StartBy.Remainder T draw = remainder_place T draw

-- the draw leads to one: 1 to 10,000 under L, any under R
abbrev pub Leads : StartBy → ℕ → Type 0
Leads StartBy.TenThousandths draw = OnWheel 10000 draw
Leads StartBy.Remainder draw = Unit
