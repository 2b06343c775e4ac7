-- Small flat codes with plans made by hand, and what is written from them, by the definition of written code.
use Rattle.std.specs.Prelude.{◌≡◌, ◌+◌, ℕ, zero, suc, Bool, true, false, List, [], ◌∷◌, ◌++◌, bytes_eq, length, map, Option, Some, None, if◌then◌else◌}
use Rattle.std.specs.List.{slice_get}
use Rattle.class_model.specs.Frames.{is_top}
use Rattle.class_model.specs.Instructions.{targets}
use Rattle.class_model.specs.Pool.{Constants}
use Rattle.class_model.specs.declared.class_file.ClassFile.{ClassFile}
use Rattle.class_model.specs.declared.frame.Frame.{Frame}
use Rattle.class_model.specs.declared.frame.VType.{VType}
use Rattle.class_model.specs.declared.instr.Instr.{Instr}
use Rattle.class_tree.specs.Headers.{Name}
use Rattle.code_bytes.specs.Forms.{instr_bytes}
use Rattle.flow_code.specs.FlatCode.{FlatCode}
use Rattle.flow_code.specs.WrittenUnits.{written_units}
use Rattle.flow_code.specs.declared.handlers.FlatHandler.{FlatHandler}
use Rattle.flow_code.specs.declared.point.FlatInstr.{FlatInstr}
use Rattle.flow_code.specs.declared.point.Point.{Point}
use Rattle.flow_code.specs.declared.point.Site.{Site}
use Rattle.making_code.specs.Items.{WItem}
use Rattle.member_link.specs.Machine.Programs.{Links, abstract_method}
use Rattle.plan_flow.specs.PlanScope.{PlanScope, pool_of}
use Rattle.plan_flow.specs.Written.Blocks.{blocks_of}
use Rattle.plan_flow.specs.Written.Finish.{Finished, finish}
use Rattle.plan_flow.specs.Written.Places.{Place, places_of}
use Rattle.plan_flow.specs.Written.Routes.{Route, RouteEdge, Routes}
use Rattle.plan_flow.specs.Written.WrittenCode.{Form, jumping_to, written_items}
use Rattle.making_code.specs.IndexedItems.{IndexedItem}
use Rattle.plan_flow.specs.Written.WrittenConstants.{code_pool, indexed_items}
use Rattle.plan_flow.specs.declared.edge.EdgeKind.{EdgeKind}
use Rattle.plan_flow.specs.declared.edge.EdgeKind.TheVariants as edges
use Rattle.virtual_state.specs.Sites.{has}
use Rattle.virtual_state.specs.States.{State}
use Rattle.virtual_state.specs.declared.slot.Slot.{Slot}
use Rattle.virtual_state.specs.declared.slot.Slot.TheVariants.{Plain, Virt, Unusable}
use Rattle.virtual_state.specs.declared.slot.VObject.{VObject}

-- ---- points with their plan

-- A virtual object, and the places that hold it: local units, and behind them stack entries, the lowest first.
pub record Held : Type 0 where
  pub site : ℕ
  pub fields : List Slot
  pub depth : ℕ
  pub places : List ℕ

-- An edge, and the sites whose objects are made on it, in order. The state behind it is that of its target, but where objects are made: there
-- the virtual objects are given.
pub record CaseEdge : Type 0 where
  pub by : EdgeKind
  pub to : ℕ
  pub made : List ℕ
  pub held : List Held

-- A point, whether it is reached, the virtual objects before it, the sites whose objects are made there, the order of making, and its edges.
pub record CasePoint : Type 0 where
  pub point : Point
  pub reached : Bool
  pub held : List Held
  pub made : List ℕ
  pub order : List ℕ
  pub edges : List CaseEdge

abbrev pub next : ℕ → CaseEdge
next to = record { by = edges.Next; to = to; made = []; held = [] }

abbrev pub jump : ℕ → ℕ → CaseEdge
jump number to = record { by = edges.Jump number; to = to; made = []; held = [] }

abbrev pub handler : ℕ → ℕ → CaseEdge
handler number to = record { by = edges.Handler number; to = to; made = []; held = [] }

abbrev pub making : List ℕ → List Held → CaseEdge → CaseEdge
making sites held edge = record edge { made = sites; held = held }

-- an instruction with the types of the local units and of the stack before it, no handler and nothing made
abbrev pub planned :
    FlatInstr → List VType → List VType → List Held → List CaseEdge → CasePoint
planned instr locals stack held edges = record {
  point = record {
    instr = instr;
    typed = record { locals = locals; stack = stack };
    handlers = [];
  };
  reached = true;
  held = held;
  made = [];
  order = [];
  edges = edges;
}

abbrev pub unreached : FlatInstr → List VType → List VType → CasePoint
unreached instr locals stack = record (planned instr locals stack [] []) { reached = false }

abbrev pub within : List FlatHandler → CasePoint → CasePoint
within handlers one = record one { point = record one.point { handlers = handlers } }

abbrev pub made_before : List ℕ → CasePoint → CasePoint
made_before sites one = record one { made = sites; order = sites }

abbrev pub in_order : List ℕ → CasePoint → CasePoint
in_order sites one = record one { order = sites }

-- ---- states

abbrev slot_at : List Held → ℕ → Slot
slot_at [] place = Plain
slot_at (one ∷ others) place =
    if has one.places place then Virt one.site else slot_at others place

abbrev local_slots : List Held → ℕ → List VType → List Slot
local_slots held place [] = []
local_slots held place (type ∷ types) =
    (if is_top type then Unusable else slot_at held place) ∷ local_slots held (suc place) types

abbrev stack_slots : List Held → ℕ → List VType → List Slot
stack_slots held place [] = []
stack_slots held place (type ∷ types) = slot_at held place ∷ stack_slots held (suc place) types

abbrev object_in : Held → VObject
object_in held = record { site = held.site; fields = held.fields; depth = held.depth }

abbrev pub state_with : Frame → List Held → State
state_with frame held = record {
  slots = local_slots held 0 frame.locals ++ stack_slots held (length frame.locals) frame.stack;
  objects = map object_in held;
}

-- ---- routes

abbrev held_behind : List ℕ → CaseEdge → CasePoint → List Held
held_behind [] edge target = target.held
held_behind (site ∷ sites) edge target = edge.held

abbrev state_behind : CaseEdge → Option CasePoint → State
state_behind edge None = record { slots = []; objects = [] }
state_behind edge (Some target) =
    state_with target.point.typed (held_behind edge.made edge target)

abbrev edge_route : List CasePoint → CaseEdge → RouteEdge
edge_route points edge = record {
  by = edge.by;
  to = edge.to;
  state = state_behind edge (slice_get points edge.to);
  made = edge.made;
  order = edge.made;
}

abbrev route_of : List CasePoint → CasePoint → Option Route
route_of points one =
    if one.reached then Some (record {
      state = state_with one.point.typed one.held;
      made = one.made;
      order = one.order;
      edges = map (edge_route points) one.edges;
    })
    else None

-- ---- cases

-- The class files of a folder, by number the class and the method of the flat code, its local units, sites and points, the descriptor of the
-- field constructor of a class, and the form in which it is written.
pub record Case : Type 0 where
  pub folder : List ClassFile
  pub class : ℕ
  pub method : ℕ
  pub locals : ℕ
  pub sites : List Site
  pub points : List CasePoint
  pub constructor : Name → List ℕ
  pub form : Form

abbrev links : Links
links = record {
  below = λ one other. bytes_eq one other;
  field = λ field. Some field;
  method = λ method. Some method;
  select = λ class method form. abstract_method;
}

abbrev pub flat_in : Case → FlatCode
flat_in one = record {
  host = record { class = one.class; method = one.method };
  locals = one.locals;
  points = map (λ point. point.point) one.points;
  sites = one.sites;
}

abbrev pub scope_in : Case → PlanScope
scope_in one = record {
  classes = record { folder = one.folder; library = [] };
  links = links;
  flat = flat_in one;
}

abbrev pub routes_in : Case → Routes
routes_in one = map (route_of one.points) one.points

abbrev pub blocks_in : Case → List Finished
blocks_in one = finish (flat_in one) (blocks_of (scope_in one) (routes_in one))

abbrev pub written_in : Case → List WItem
written_in one = written_items one.form (blocks_in one)

-- the constants of the host's class with those that the code adds
abbrev pub grown_in : Case → Option Constants
grown_in one =
    code_pool (scope_in one) one.constructor (written_in one)
    (pool_of (scope_in one) one.class)

abbrev pub indexed_in : Case → Constants → List IndexedItem
indexed_in one pool =
    indexed_items (scope_in one) one.constructor pool one.form (blocks_in one)

-- ---- what is written

abbrev pub uncaught : Instr → IndexedItem
uncaught instr = record { instr = instr; near = false; catches = [] }

abbrev pub near : Instr → IndexedItem
near instr = record { instr = instr; near = true; catches = [] }

abbrev pub caught : List (ℕ × ℕ) → Instr → IndexedItem
caught catches instr = record { instr = instr; near = false; catches = catches }

-- The items of a case, by the numbers of items and the indices of a constant pool; that pool; its objects and monitors; and its local units.
pub record Wanted : Type 0 where
  pub items : List IndexedItem
  pub pool : Constants
  pub places : List Place
  pub units : ℕ

pub record IsWritten (one : Case) (wanted : Wanted) : Type 0 where
  pub pool : grown_in one ≡ Some wanted.pool
  pub items : indexed_in one wanted.pool ≡ wanted.items
  pub places : places_of (scope_in one) (routes_in one) ≡ wanted.places
  pub units : written_units (flat_in one) ≡ wanted.units

-- ---- bytes

abbrev size_of : IndexedItem → ℕ
size_of one = length (instr_bytes 0 one.instr)

-- the offset of the item of a number, in bytes
abbrev offset_in : List IndexedItem → ℕ → ℕ
offset_in [] number = 0
offset_in (one ∷ others) zero = 0
offset_in (one ∷ others) (suc number) = size_of one + offset_in others number

abbrev bytes_from : List IndexedItem → ℕ → List IndexedItem → List ℕ
bytes_from items at [] = []
bytes_from items at (one ∷ others) =
    instr_bytes at (jumping_to (map (offset_in items) (targets one.instr)) one.instr)
    ++ bytes_from items (at + size_of one) others

-- items whose jumps have 16 bits, as bytes
abbrev pub bytes_of : List IndexedItem → List ℕ
bytes_of items = bytes_from items 0 items
