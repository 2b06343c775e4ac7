-- How deep the operand stack of flat code is taken to be.
use Rattle.std.specs.Prelude.{ℕ, ◌*◌, max, List, [], ◌∷◌, length}
use Rattle.flow_code.specs.FlatCode.{FlatCode}
use Rattle.flow_code.specs.declared.point.Point.{Point}

-- the most entries of the stack before a point
abbrev pub deepest : List Point → ℕ
deepest [] = 0
deepest (point ∷ points) = max (length point.typed.stack) (deepest points)

-- Units for the stack of each point, of which an entry takes two at most. What an instruction leaves has as many entries as the stack of
-- each point to which control goes, so no instruction leaves more.
abbrev pub stack_room : FlatCode → ℕ
stack_room flat = 2 * deepest flat.points
