-- What the two ways to a starting place come to: a place on the wheel, and a method other than W.
use Prim.Native.Nat.{ℕ, ◌<◌}
use mathlib.Core.Path.{◌≡◌, refl}
use Rattle.series.specs.Places.{OnWheel}
use Rattle.series.specs.declared.Method.{Method}
use Rattle.series.proofs.CallLaws.{not_wheel, starting_on}
use Rattle.series.proofs.RemainderLaws.{remainder-on}
use Rattle.starts.specs.Starts.{method_for, place_by, Leads}
use Rattle.starts.specs.declared.StartBy.{StartBy}

-- a draw that leads to a starting place leads to a place on the wheel
pub place-on : (by : StartBy) (T draw : ℕ) → 0 < T → Leads by draw → OnWheel T (place_by by T draw)
place-on StartBy.TenThousandths T draw pos leads = starting_on T draw pos leads
place-on StartBy.Remainder T draw pos leads = remainder-on T draw pos

pub started_not_wheel : (by : StartBy) → method_for by ≡ Method.Wheel → ⊥
started_not_wheel StartBy.TenThousandths = not_wheel Method.Lottery refl
started_not_wheel StartBy.Remainder = not_wheel Method.RemainderDraw refl
