-- Flat code that is far from being too wide.
use Rattle.std.specs.Prelude.{◌≡◌, ◌<◌, ◌≤◌, ℕ, length, Some}
use Rattle.flow_code.specs.FlatCode.{FlatCode, point_at}
use Rattle.flow_code.specs.declared.point.Point.{Point}
use Rattle.flow_code.specs.declared.point.Site.{Site}

abbrev pub IsShort : Site → Type 0
IsShort site = length site.fields ≤ 500

-- none of the points below a number has a deep stack
abbrev pub AreLow : FlatCode → ℕ → Type 0
AreLow flat end =
    (at : ℕ) (point : Point)
    → at < end
    → point_at flat at ≡ Some point
    → length point.typed.stack ≤ 500
