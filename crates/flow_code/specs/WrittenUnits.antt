-- The local units of written code and the depth of its stack, by the flat code. It is this project's profile.
use Rattle.std.specs.Prelude.{ℕ, ◌+◌, max, List, [], ◌∷◌, length}
use Rattle.class_model.specs.Descriptors.{parameter_units}
use Rattle.class_model.specs.Frames.{depth}
use Rattle.flow_code.specs.FlatCode.{FlatCode}
use Rattle.flow_code.specs.declared.point.Point.{Point}
use Rattle.flow_code.specs.declared.point.Site.{Site}

-- the units of the fields of its sites
abbrev pub field_units : List Site → ℕ
field_units [] = 0
field_units (site ∷ sites) = parameter_units site.fields + field_units sites

-- the most units of the stack before a point
abbrev pub greatest_depth : List Point → ℕ
greatest_depth [] = 0
greatest_depth (point ∷ points) = max (depth point.typed.stack) (greatest_depth points)

-- the local units of written code: those of the methods, those of the sites' fields, one for each site's object, and scratch units
abbrev pub written_units : FlatCode → ℕ
written_units flat =
    flat.locals + field_units flat.sites + length flat.sites + greatest_depth flat.points
