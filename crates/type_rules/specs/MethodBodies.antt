-- The body of a method with code.
use Rattle.std.specs.Prelude.{◌+◌, true, length, map}
use Rattle.class_model.specs.declared.instr.Placed.{Placed}
use Rattle.member_link.specs.Bodies.{Body, BodyPoint, item_instr}
use Rattle.type_rules.specs.Handlers.{catches_at, caught_in}
use Rattle.member_link.specs.Scope.{Scope, instructions, row_scope}
use Rattle.type_rules.specs.Stated.{entry, stated_at}

-- an instruction at its offset
abbrev pub point_of : Scope → Placed → BodyPoint
point_of s placed = record {
  place = placed.at;
  next = placed.at + placed.len;
  scope = row_scope s;
  item = item_instr placed.instr;
  asks_access = true;
  catches = catches_at s placed.at s.part.handlers;
}

abbrev pub body_of : Scope → Body
body_of s = record {
  scope = row_scope s;
  entry = entry s;
  points = map (point_of s) (instructions s);
  end = length s.part.code;
  stated = stated_at s;
  table = map (caught_in s) s.part.handlers;
}
