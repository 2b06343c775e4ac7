-- Flat code as a body that frames may type. Each typed point counts as a stated frame.
use Rattle.std.specs.Prelude.{◌+◌, ℕ, zero, suc, false, List, [], ◌∷◌, ◌++◌, map, length, Option, Some, None, option_map}
use Rattle.class_model.specs.Methods.{entry_of, home_of}
use Rattle.class_model.specs.declared.frame.Frame.{Frame}
use Rattle.class_tree.specs.Headers.{Name, Classes}
use Rattle.class_tree.specs.Names.{throwable}
use Rattle.flow_code.specs.FlatCode.{FlatCode, point_at}
use Rattle.flow_code.specs.declared.handlers.FlatHandler.{FlatHandler}
use Rattle.flow_code.specs.declared.point.Point.{Point}
use Rattle.member_link.specs.Bodies.{Body, BodyCatch, BodyCaught, BodyPoint}
use Rattle.member_link.specs.Machine.Replaced.{map_numbered}
use Rattle.member_link.specs.Scope.{Scope}
use Rattle.same_runs.specs.Flats.{flat_item, host_scope, instr_scope}

-- a handler without a class catches each throwable
abbrev pub caught_class : Option Name → Option Name
caught_class None = Some throwable
caught_class (Some class) = Some class

abbrev pub body_catch : FlatHandler → BodyCatch
body_catch handler = record { to = handler.to; class = caught_class handler.catch_class }

-- Access to protected members was checked where the instruction stood before.
abbrev pub body_point : Classes → Scope → FlatCode → ℕ → Point → BodyPoint
body_point classes s flat number point = record {
  place = number;
  next = number + 1;
  scope = instr_scope classes s flat point.instr;
  item = flat_item point.instr;
  asks_access = false;
  catches = map body_catch point.handlers;
}

-- the handlers of points, from the number of the first on
abbrev pub handlers_from : ℕ → List Point → List BodyCaught
handlers_from number [] = []
handlers_from number (point ∷ points) =
    map (λ handler. record { start = number; class = caught_class handler.catch_class })
    point.handlers
    ++ handlers_from (suc number) points

-- the frames of its typed points
abbrev pub typed_points : FlatCode → List Frame
typed_points flat = map (λ point. point.typed) flat.points

-- the frame that a host begins with, which has all units of its flat code
abbrev pub flat_entry : Scope → FlatCode → Frame
flat_entry s flat =
    entry_of (home_of s.class) s.method (record s.part { max_locals = flat.locals })

-- The body of the flat code of a host.
abbrev pub body_of_flat : Classes → Scope → FlatCode → Body
body_of_flat classes s flat = record {
  scope = host_scope classes s flat;
  entry = flat_entry s flat;
  points = map_numbered (body_point classes s flat) zero flat.points;
  end = length flat.points;
  stated = λ at. option_map (λ point. point.typed) (point_at flat at);
  table = handlers_from zero flat.points;
}
