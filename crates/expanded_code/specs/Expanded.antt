-- Flat code in which callees stand in place of their calls. It is this project's profile.
--
-- In place of a call stand: a store for each argument, the last first; for a method of an object that is no initialiser a test of the
-- receiver for null; the callee's instructions, its locals in a block of units of its own; and for each return a narrowing and a goto behind.
use Rattle.member_link.specs.FieldConstructors.{field_types}
use Rattle.std.specs.Prelude.{◌==◌, ◌+◌, ℕ, not, ◌||◌, List, [], ◌∷◌, ◌++◌, Bool, pos, drop, length, map, reverse, take, replicate, Option, Some, None, if◌then◌else◌}
use Rattle.class_model.specs.Descriptors.{kind_of, parameters_of, units_of}
use Rattle.class_model.specs.Members.{has, STATIC}
use Rattle.class_model.specs.declared.descriptor.FieldType.{FieldType}
use Rattle.class_model.specs.declared.descriptor.FieldType.TheVariants.{Byte, Short, Char, Bool as Boolean}
use Rattle.class_model.specs.declared.descriptor.Kind.{Kind}
use Rattle.class_model.specs.declared.descriptor.Kind.TheVariants as kinds
use Rattle.class_model.specs.declared.frame.Frame.{Frame}
use Rattle.class_model.specs.declared.frame.VType.{VType}
use Rattle.class_model.specs.declared.frame.VType.TheVariants.{Int, Top, Uninit, UninitThis}
use Rattle.class_model.specs.declared.instr.Imm.TheVariants as imms
use Rattle.class_model.specs.declared.instr.Instr.{Instr}
use Rattle.class_model.specs.declared.instr.Instr.TheVariants.{Const, Goto, Iinc, Load, Pure, Return, Store}
use Rattle.class_model.specs.declared.instr.Placed.{Placed}
use Rattle.class_model.specs.declared.opcodes.TheConstants.{I2B, I2C, I2S, IAND}
use Rattle.class_tree.specs.Headers.{Headers}
use Rattle.expanded_code.specs.Alone.{handlers_by}
use Rattle.expanded_code.specs.Expansions.{Coded, Expansion, no_more, replaced, site, stays}
use Rattle.flow_code.specs.FlatCode.{FlatCode}
use Rattle.flow_code.specs.declared.handlers.FlatHandler.{FlatHandler}
use Rattle.flow_code.specs.declared.point.FlatInstr.TheVariants.{Of, NullTest}
use Rattle.flow_code.specs.declared.point.Point.{Point}
use Rattle.flow_code.specs.declared.point.Site.{Site}
use Rattle.member_link.specs.Rows.LocalRows.{stored}
use Rattle.member_link.specs.Rows.Operands.{lowest_of, under}
use Rattle.member_link.specs.Scope.{Scope, instructions, is_init, own_descriptor}
use Rattle.member_link.specs.Signatures.{result_of}
use Rattle.member_link.specs.Targets.{with_targets}

-- ---- arguments and results

-- an argument's kind, and the unit that it is stored in
pub record Argument : Type 0 where
  pub kind : Kind
  pub unit : ℕ

abbrev pub arguments_from : ℕ → List FieldType → List Argument
arguments_from unit [] = []
arguments_from unit (type ∷ types) =
    record { kind = kind_of type; unit = unit }
    ∷ arguments_from (unit + units_of (kind_of type)) types

-- the arguments of a method whose units begin at one, its receiver first
abbrev pub arguments : Scope → ℕ → List Argument
arguments s unit =
    if has s.method.flags STATIC then arguments_from unit (parameters_of (own_descriptor s))
    else (record { kind = kinds.Ref; unit = unit }
    ∷ arguments_from (unit + 1) (parameters_of (own_descriptor s)))

-- its receiver is tested for null
abbrev pub tests_receiver : Scope → Bool
tests_receiver s = not (has s.method.flags STATIC || is_init s)

-- an instruction that narrows a result to the method's declared type, and what is above the result then
pub record Narrowing : Type 0 where
  pub instr : Instr
  pub above : List VType

abbrev pub narrows : Instr → List Narrowing
narrows instr = record { instr = instr; above = [] } ∷ []

abbrev pub narrowing : Option FieldType → List Narrowing
narrowing (Some Byte) = narrows (Pure I2B)
narrowing (Some Short) = narrows (Pure I2S)
narrowing (Some Char) = narrows (Pure I2C)
narrowing (Some Boolean) =
    record { instr = Const (imms.Int (pos 1)); above = [] }
    ∷ record { instr = Pure IAND; above = Int ∷ [] }
    ∷ []
narrowing result = []

abbrev pub own_narrowing : Scope → List Narrowing
own_narrowing s = narrowing (result_of (own_descriptor s))

-- ---- how many points and units there are

-- the points before a callee's instructions
abbrev pub points_before : Scope → ℕ
points_before s =
    length (arguments s 0) + (if tests_receiver s then 1 else 0)

-- the points of an instruction of a callee: a return is narrowed and goes behind; of the host it stays
abbrev pub own_points : Option Scope → Instr → ℕ
own_points (Some s) (Return kind) = length (own_narrowing s) + 1
own_points callee instr = 1

-- the points of a method's instructions, which is the host or a callee
abbrev pub points_of : Option Scope → List Placed → Expansion → ℕ
points_of callee (placed ∷ instrs) (stays more) =
    own_points callee placed.instr + points_of callee instrs more
points_of callee (placed ∷ instrs) (site class more) =
    own_points callee placed.instr + points_of callee instrs more
points_of callee (placed ∷ instrs) (replaced g inner more) =
    points_before g.scope
    + points_of (Some g.scope) (instructions g.scope) inner
    + points_of callee instrs more
points_of callee instrs expansion = 0

-- the points of a call's replacement
abbrev pub points_of_callee : Coded → Expansion → ℕ
points_of_callee g inner =
    points_before g.scope + points_of (Some g.scope) (instructions g.scope) inner

-- the units of callees: a block each, in the order of their calls
abbrev pub units_in : Expansion → ℕ
units_in no_more = 0
units_in (stays more) = units_in more
units_in (site class more) = units_in more
units_in (replaced g inner more) = g.scope.part.max_locals + units_in inner + units_in more

-- The number of the point of the instruction at an offset, where the first has a number. Where none starts there, the number behind.
abbrev pub number_from : Option Scope → ℕ → List Placed → Expansion → ℕ → ℕ
number_from callee number (placed ∷ instrs) (stays more) at =
    if placed.at == at then number
    else number_from callee (number + own_points callee placed.instr) instrs more at
number_from callee number (placed ∷ instrs) (site class more) at =
    if placed.at == at then number
    else number_from callee (number + own_points callee placed.instr) instrs more at
number_from callee number (placed ∷ instrs) (replaced g inner more) at =
    if placed.at == at then number
    else number_from callee (number + points_of_callee g inner) instrs more at
number_from callee number instrs expansion at = number

-- ---- a method in its place

-- Where a method's instructions stand: the number of each point by its offset, the first of its local units, what its callers have (their
-- locals as at the call, and their stack under the arguments), the type of its uninitialised object, the handlers of each
-- offset, and of a callee the point behind its call.
pub record Setting : Type 0 where
  pub coded : Coded
  pub number : ℕ → ℕ
  pub unit : ℕ
  pub below : Frame
  pub this : VType
  pub handlers : ℕ → List FlatHandler
  pub behind : Option ℕ

abbrev pub class_of : Setting → ℕ
class_of t = t.coded.at.class

-- the callee, if it is one
abbrev pub callee_of : Setting → Option Scope
callee_of t = of_behind t.behind where
  of_behind : Option ℕ → Option Scope
  of_behind None = None
  of_behind (Some behind) = Some t.coded.scope

-- ---- types

abbrev pub set_type : Setting → VType → VType
set_type t (Uninit at) = Uninit (t.number at)
set_type t UninitThis = t.this
set_type t type = type

-- units in place of those from one on
abbrev pub overlaid : ℕ → List VType → List VType → List VType
overlaid unit own units = take unit units ++ own ++ drop (unit + length own) units

-- a frame of the method in its place
abbrev pub set_frame : Setting → Frame → Frame
set_frame t frame = record {
  locals = overlaid t.unit (map (set_type t) frame.locals) t.below.locals;
  stack = t.below.stack ++ map (set_type t) frame.stack;
}

-- ---- its own instructions

-- locals are units behind those of its callers
abbrev pub with_unit : ℕ → Instr → Instr
with_unit unit (Load kind local) = Load kind (unit + local)
with_unit unit (Store kind local) = Store kind (unit + local)
with_unit unit (Iinc local by) = Iinc (unit + local) by
with_unit unit instr = instr

abbrev pub set_instr : Setting → Instr → Instr
set_instr t instr = with_targets t.number (with_unit t.unit instr)

-- a point in the place of an instruction at an offset
abbrev pub point_in : Setting → ℕ → Frame → Instr → Point
point_in t at typed instr =
    record { instr = Of (class_of t) instr; typed = typed; handlers = t.handlers at }

-- in place of a return: the result is narrowed, and control goes to the point behind
abbrev pub return_points : Setting → ℕ → Frame → ℕ → List Point
return_points t at typed behind =
    map (λ n. point_in t at (record typed { stack = typed.stack ++ n.above }) n.instr)
    (own_narrowing t.coded.scope)
    ++ point_in t at typed (Goto behind)
    ∷ []

-- an instruction of a callee or of the host
abbrev pub instr_points : Setting → Placed → Frame → List Point
instr_points t placed frame = of_instr t.behind placed.instr where
  of_instr : Option ℕ → Instr → List Point
  of_instr (Some behind) (Return kind) =
      return_points t placed.at (set_frame t frame) behind
  of_instr behind instr =
      point_in t placed.at (set_frame t frame) (set_instr t instr) ∷ []

-- ---- a call that is replaced

-- the frame behind the store of an argument
abbrev pub frame_stored : Frame → Argument → Frame
frame_stored frame argument = record {
  locals = stored argument.unit (lowest_of 1 frame.stack) frame.locals;
  stack = under 1 frame.stack;
}

abbrev pub frame_behind_stores : Frame → List Argument → Frame
frame_behind_stores frame [] = frame
frame_behind_stores frame (argument ∷ others) =
    frame_behind_stores (frame_stored frame argument) others

abbrev pub store_points : Setting → ℕ → Frame → List Argument → List Point
store_points t at frame [] = []
store_points t at frame (argument ∷ others) =
    point_in t at frame (Store argument.kind argument.unit)
    ∷ store_points t at (frame_stored frame argument) others

-- the test of a receiver
abbrev pub test_points : Setting → ℕ → Frame → Scope → ℕ → List Point
test_points t at frame callee unit =
    if tests_receiver callee
    then record { instr = NullTest unit; typed = frame; handlers = t.handlers at } ∷ []
    else []

-- the points before a callee's instructions, its arguments stored from a unit on
abbrev pub points_of_entry : Setting → ℕ → Frame → Scope → ℕ → List Point
points_of_entry t at frame callee unit =
    store_points t at frame (reverse (arguments callee unit))
    ++ test_points t at (frame_behind_stores frame (reverse (arguments callee unit))) callee unit

-- Where a callee stands: behind a number of points, with its locals from a unit on, in place of a call at an offset. Its callers' locals are
-- as at the call.
abbrev pub callee_setting : Setting → ℕ → Frame → ℕ → ℕ → Coded → Expansion → Setting
callee_setting t at frame number unit g inner = record {
  coded = g;
  number = number_from (Some g.scope) (number + points_before g.scope)
      (instructions g.scope) inner;
  unit = unit;
  below = record {
    locals = frame.locals;
    stack = under (length (arguments g.scope unit)) frame.stack;
  };
  this = lowest_of (length (arguments g.scope unit)) frame.stack;
  handlers = λ within. t.handlers at;
  behind = Some (number + points_of_callee g inner);
}

-- ---- all instructions

-- The points of a method's instructions from a number on; the next callee's locals are units from one on.
abbrev pub points_from : Setting → ℕ → ℕ → List Placed → List Frame → Expansion → List Point
points_from t number unit (placed ∷ instrs) (frame ∷ frames) (stays more) =
    instr_points t placed frame
    ++ points_from t (number + own_points (callee_of t) placed.instr) unit instrs frames more
points_from t number unit (placed ∷ instrs) (frame ∷ frames) (site class more) =
    instr_points t placed frame
    ++ points_from t (number + own_points (callee_of t) placed.instr) unit instrs frames more
points_from t number unit (placed ∷ instrs) (frame ∷ frames) (replaced g inner more) =
    points_of_entry t placed.at (set_frame t frame) g.scope unit
    ++ points_from (callee_setting t placed.at (set_frame t frame) number unit g inner)
    (number + points_before g.scope)
    (unit + g.scope.part.max_locals)
    (instructions g.scope) g.frames inner
    ++ points_from t
    (number + points_of_callee g inner)
    (unit + g.scope.part.max_locals + units_in inner)
    instrs frames more
points_from t number unit instrs frames expansion = []

-- the candidate sites, by point
abbrev pub sites_from : Headers → Option Scope → ℕ → List Placed → Expansion → List Site
sites_from headers callee number (placed ∷ instrs) (stays more) =
    sites_from headers callee (number + own_points callee placed.instr) instrs more
sites_from headers callee number (placed ∷ instrs) (site class more) =
    record { at = number; class = class; fields = field_types headers class }
    ∷ sites_from headers callee (number + own_points callee placed.instr) instrs more
sites_from headers callee number (placed ∷ instrs) (replaced g inner more) =
    sites_from headers (Some g.scope) (number + points_before g.scope)
    (instructions g.scope) inner
    ++ sites_from headers callee (number + points_of_callee g inner) instrs more
sites_from headers callee number instrs expansion = []

-- ---- the host

abbrev pub host_setting : Coded → Expansion → Setting
host_setting host expansion = record {
  coded = host;
  number = number_from None 0 (instructions host.scope) expansion;
  unit = 0;
  below = record {
    locals = replicate (host.scope.part.max_locals + units_in expansion) Top;
    stack = [];
  };
  this = UninitThis;
  handlers = handlers_by host.scope
      (number_from None 0 (instructions host.scope) expansion);
  behind = None;
}

-- The flat code of a host.
abbrev pub expanded : Coded → Expansion → FlatCode
expanded host expansion = record {
  host = host.at;
  locals = host.scope.part.max_locals + units_in expansion;
  points = points_from (host_setting host expansion) 0 host.scope.part.max_locals
      (instructions host.scope) host.frames expansion;
  sites = sites_from host.scope.headers None 0 (instructions host.scope) expansion;
}
