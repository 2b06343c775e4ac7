-- The flat code of a method by itself: its own instructions, with no callee in place of a call and no site.
use Rattle.std.specs.Prelude.{◌==◌, ℕ, List, [], ◌∷◌, map, length, Option, Some, None, if◌then◌else◌}
use Rattle.std.specs.List.{flat_map}
use Rattle.class_model.specs.PoolChecks.{class_at}
use Rattle.class_model.specs.declared.class_file.Handler.{Handler}
use Rattle.class_model.specs.declared.class_file.MethodAt.{MethodAt}
use Rattle.class_model.specs.declared.frame.Frame.{Frame}
use Rattle.class_model.specs.declared.frame.VType.{VType}
use Rattle.class_model.specs.declared.frame.VType.TheVariants.{Uninit}
use Rattle.class_model.specs.declared.instr.Placed.{Placed}
use Rattle.flow_code.specs.FlatCode.{FlatCode}
use Rattle.flow_code.specs.declared.handlers.FlatHandler.{FlatHandler}
use Rattle.flow_code.specs.declared.point.FlatInstr.TheVariants.{Of}
use Rattle.flow_code.specs.declared.point.Point.{Point}
use Rattle.member_link.specs.Machine.Codes.{covers}
use Rattle.member_link.specs.Machine.Programs.{number_of_first}
use Rattle.member_link.specs.Scope.{Scope, instructions}
use Rattle.member_link.specs.Targets.{with_targets}

-- ---- numbers of instructions

-- the number of the instruction at an offset; where none starts, how many there are
abbrev pub number_in : List Placed → ℕ → ℕ
number_in instrs at = or_behind (number_of_first (λ placed. placed.at == at) instrs) where
  or_behind : Option ℕ → ℕ
  or_behind None = length instrs
  or_behind (Some number) = number

abbrev pub number_at : Scope → ℕ → ℕ
number_at s at = number_in (instructions s) at

-- ---- frames

-- an uninitialised object is named by the number of its new
abbrev pub numbered_type : (ℕ → ℕ) → VType → VType
numbered_type number (Uninit at) = Uninit (number at)
numbered_type number type = type

abbrev pub numbered_frame : (ℕ → ℕ) → Frame → Frame
numbered_frame number frame = record {
  locals = map (numbered_type number) frame.locals;
  stack = map (numbered_type number) frame.stack;
}

-- ---- handlers

-- A handler catches what its catch type names, and everything where that is 0. It begins at the number of its offset.
abbrev pub handler_by : Scope → (ℕ → ℕ) → Handler → List FlatHandler
handler_by s number handler =
    if handler.catch_type == 0
    then record { to = number handler.at; catch_class = None } ∷ []
    else of_class (class_at s.class.pool handler.catch_type) where
      of_class : Option (List ℕ) → List FlatHandler
      of_class None = []
      of_class (Some name) =
          record { to = number handler.at; catch_class = Some name } ∷ []

abbrev pub handler_of : Scope → Handler → List FlatHandler
handler_of s handler = handler_by s (number_at s) handler

-- the handlers whose range has an offset, in table order
abbrev pub handlers_by : Scope → (ℕ → ℕ) → ℕ → List FlatHandler
handlers_by s number at =
    flat_map (λ handler. if covers handler at then handler_by s number handler else [])
    s.part.handlers

abbrev pub handlers_at : Scope → ℕ → List FlatHandler
handlers_at s at = handlers_by s (number_at s) at

-- ---- points

-- an instruction of a class of a number, with the frame before it
abbrev pub alone_point : Scope → ℕ → Placed → Frame → Point
alone_point s class placed frame = record {
  instr = Of class (with_targets (number_at s) placed.instr);
  typed = numbered_frame (number_at s) frame;
  handlers = handlers_at s placed.at;
}

abbrev pub alone_points : Scope → ℕ → List Placed → List Frame → List Point
alone_points s class (placed ∷ instrs) (frame ∷ frames) =
    alone_point s class placed frame ∷ alone_points s class instrs frames
alone_points s class instrs frames = []

-- The flat code of a method by itself, by the frames that type it.
abbrev pub flat_alone : Scope → MethodAt → List Frame → FlatCode
flat_alone s at frames = record {
  host = at;
  locals = s.part.max_locals;
  points = alone_points s at.class (instructions s) frames;
  sites = [];
}
