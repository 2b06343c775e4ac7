-- How many local units flat code has at a point. It is this project's profile.
use Rattle.std.specs.Prelude.{◌≡◌, ◌≤◌, ℕ, length, Some}
use Rattle.flow_code.specs.FlatCode.{FlatCode, point_at}
use Rattle.flow_code.specs.declared.point.Point.{Point}

-- the local units at a point have numbers of 16 bits
abbrev pub HasFewLocals : FlatCode → ℕ → Type 0
HasFewLocals flat at =
    (point : Point) → point_at flat at ≡ Some point → length point.typed.locals ≤ 65536
