-- What is written for an instruction of flat code, by what its operands are. It is this project's profile, after Stadler, Würthinger and
-- Mössenböck, "Partial Escape Analysis and Scalar Replacement for Java", CGO 2014.
--
-- The written stack has the plain entries alone. So what only moves virtual objects, or changes them, is written as nothing, and all that
-- has plain operands alone as it is.
use Rattle.std.specs.Prelude.{◌==◌, ◌&&◌, ◌||◌, ◌+◌, ◌-◌, ℕ, zero, suc, not, Bool, true, false, List, [], ◌∷◌, ◌++◌, drop, length, map, pos, reverse, take, Option, Some, None, if◌then◌else◌}
use Rattle.std.specs.List.{flat_map, list_any, slice_get}
use Rattle.class_model.specs.Descriptors.{kind_of, parameters_of, units_of}
use Rattle.class_model.specs.Frames.{depth}
use Rattle.class_model.specs.PoolChecks.{class_at}
use Rattle.class_model.specs.declared.descriptor.FieldType.{FieldType}
use Rattle.class_model.specs.declared.descriptor.FieldType.TheVariants as field_types
use Rattle.class_model.specs.declared.descriptor.Kind.{Kind}
use Rattle.class_model.specs.declared.descriptor.Kind.TheVariants as kinds
use Rattle.class_model.specs.declared.frame.Frame.{Frame}
use Rattle.class_model.specs.declared.frame.VType.{VType}
use Rattle.class_model.specs.declared.instr.Imm.TheVariants as imms
use Rattle.class_model.specs.declared.instr.Instr.{Instr}
use Rattle.class_model.specs.declared.instr.Instr.TheVariants.{Const, Load, Store, Shuffle, Pure, If, If2, IfSame, IfNull, Goto, Table, Lookup, GetField, PutField, Invoke, New, Throw, Cast, InstanceOf, Enter, Leave}
use Rattle.class_model.specs.declared.opcodes.TheConstants.{DUP, DUP_X1, DUP_X2, DUP2, DUP2_X1, DUP2_X2, I2B, I2C, I2S, IAND, IFNONNULL, IFNULL, INVOKESPECIAL, POP, POP2, SWAP}
use Rattle.class_tree.specs.Headers.{Name}
use Rattle.flow_code.specs.ReadTypes.{is_site_object}
use Rattle.flow_code.specs.declared.handlers.FlatHandler.{FlatHandler}
use Rattle.flow_code.specs.declared.point.FlatInstr.{FlatInstr}
use Rattle.flow_code.specs.declared.point.FlatInstr.TheVariants.{Of, NullTest}
use Rattle.flow_code.specs.declared.point.Point.{Point}
use Rattle.making_code.specs.Items.{WCatch, WInstr, WItem, WTarget, ahead, carried, item, load, plain, store, to_handler_pad, to_jump_pad, to_point}
use Rattle.making_code.specs.MakeCode.{make_code}
use Rattle.making_code.specs.Units.{field_unit, fields_at, own}
use Rattle.member_link.specs.Machine.CallSteps.{is_object_init}
use Rattle.member_link.specs.References.{Reference}
use Rattle.member_link.specs.Rows.MemberRows.{receiver}
use Rattle.plan_flow.specs.PlanScope.{PlanScope, field_number, field_of, is_site_below, member_of, pool_of, site_at}
use Rattle.plan_flow.specs.PlanSlots.{field_held, held}
use Rattle.plan_flow.specs.PlanTable.{operand, targets_at}
use Rattle.plan_flow.specs.Written.Routes.{Route, RouteEdge, edge_by}
use Rattle.plan_flow.specs.declared.edge.EdgeKind.TheVariants as edges
use Rattle.virtual_state.specs.States.{State}
use Rattle.virtual_state.specs.Without.{without}
use Rattle.virtual_state.specs.Sites.{has}
use Rattle.virtual_state.specs.declared.slot.Slot.{Slot}
use Rattle.virtual_state.specs.declared.slot.Slot.TheVariants.{Plain, Virt, Unusable}

-- ---- where jumps and handlers lead

-- an edge leads to its pad, if an object is made on it, else to the point
abbrev pub to_or_pad : List ℕ → WTarget → WTarget → WTarget
to_or_pad [] target pad = target
to_or_pad (site ∷ sites) target pad = pad

abbrev pub jump_target : ℕ → Route → ℕ → ℕ → WTarget
jump_target at route number to = by_edge (edge_by route (edges.Jump number)) where
  by_edge : Option RouteEdge → WTarget
  by_edge None = to_point to
  by_edge (Some edge) = to_or_pad edge.made (to_point edge.to) (to_jump_pad at number)

-- of the targets from a number on
abbrev pub jump_targets : ℕ → Route → ℕ → List ℕ → List WTarget
jump_targets at route number [] = []
jump_targets at route number (to ∷ others) =
    jump_target at route number to ∷ jump_targets at route (suc number) others

-- the handlers of what an instruction throws, from a number on: those to which an edge leads
abbrev pub catches_from : ℕ → Route → ℕ → List FlatHandler → List WCatch
catches_from at route number [] = []
catches_from at route number (handler ∷ others) =
    by_edge (edge_by route (edges.Handler number)) ++ catches_from at route (suc number) others where
      by_edge : Option RouteEdge → List WCatch
      by_edge None = []
      by_edge (Some edge) = record {
        to = to_or_pad edge.made (to_point edge.to) (to_handler_pad at number);
        class = handler.catch_class;
      } ∷ []

abbrev pub catches_at : ℕ → Point → Route → List WCatch
catches_at at point route = catches_from at route 0 point.handlers

-- ---- as it is

abbrev pub as_it_is : ℕ → Point → Route → ℕ → Instr → List WItem
as_it_is at point route class instr = record {
  instr = carried class instr;
  targets = jump_targets at route 0 (targets_at point.instr);
  catches = catches_at at point route;
} ∷ []

-- ---- fields of virtual objects

-- the constant that a field begins with
abbrev pub zero_of : Kind → Instr
zero_of kinds.Int = Const (imms.Int (pos 0))
zero_of kinds.Long = Const (imms.Long (pos 0))
zero_of kinds.Float = Const (imms.Float 0)
zero_of kinds.Double = Const (imms.Double 0)
zero_of kinds.Ref = Const imms.Null

-- each field unit of a new object is set to zero or null
abbrev pub cleared_fields : ℕ → ℕ → List FieldType → List WInstr
cleared_fields site number [] = []
cleared_fields site number (type ∷ types) =
    plain (zero_of (kind_of type))
    ∷ store (kind_of type) (field_unit site number)
    ∷ cleared_fields site (suc number) types

-- what narrows an int to a field's type
abbrev pub narrowing : FieldType → List WInstr
narrowing field_types.Byte = plain (Pure I2B) ∷ []
narrowing field_types.Short = plain (Pure I2S) ∷ []
narrowing field_types.Char = plain (Pure I2C) ∷ []
narrowing field_types.Bool = plain (Const (imms.Int (pos 1))) ∷ plain (Pure IAND) ∷ []
narrowing other = []

-- the field of a site's object is loaded, or stored
abbrev pub load_of_field : ℕ → ℕ → Option FieldType → List WInstr
load_of_field site number None = []
load_of_field site number (Some type) = load (kind_of type) (field_unit site number) ∷ []

abbrev pub store_of_field : ℕ → ℕ → Option FieldType → List WInstr
store_of_field site number None = []
store_of_field site number (Some type) =
    narrowing type ++ (store (kind_of type) (field_unit site number) ∷ [])

-- ---- the stack

-- the slots of the stack before a point with their units, the topmost first
pub record Cell : Type 0 where
  pub units : ℕ
  pub slot : Slot

abbrev pub cells_from : List VType → List Slot → List Cell
cells_from [] slots = []
cells_from (type ∷ types) [] = []
cells_from (type ∷ types) (slot ∷ slots) =
    record { units = depth (type ∷ []); slot = slot } ∷ cells_from types slots

abbrev pub cells : Frame → State → List Cell
cells f state = reverse (cells_from f.stack (drop (length f.locals) state.slots))

abbrev pub plain_units : Cell → ℕ
plain_units cell = by_slot cell.slot where
  by_slot : Slot → ℕ
  by_slot Plain = cell.units
  by_slot (Virt site) = 0
  by_slot Unusable = 0

-- how many of so many units from the top are plain, and what is below them
abbrev pub plain_among : ℕ → List Cell → ℕ
plain_among units [] = 0
plain_among units (cell ∷ others) =
    if units == 0 then 0 else plain_units cell + plain_among (units - cell.units) others

abbrev pub below_units : ℕ → List Cell → List Cell
below_units units [] = []
below_units units (cell ∷ others) =
    if units == 0 then cell ∷ others else below_units (units - cell.units) others

abbrev pub pops : ℕ → List WInstr
pops units =
    if units == 1 then plain (Shuffle POP) ∷ []
    else (if units == 2 then plain (Shuffle POP2) ∷ []
    else [])

abbrev pub swaps : ℕ → List WInstr
swaps units = if units == 2 then plain (Shuffle SWAP) ∷ [] else []

-- one of three, by a number of units
abbrev pub by_units : ℕ → ℕ → ℕ → ℕ → ℕ
by_units units none one two = if units == 0 then none else (if units == 1 then one else two)

-- so many plain units are copied over so many
abbrev pub dups : ℕ → ℕ → List WInstr
dups copied over =
    if copied == 1 then plain (Shuffle (by_units over DUP DUP_X1 DUP_X2)) ∷ []
    else (if copied == 2 then plain (Shuffle (by_units over DUP2 DUP2_X1 DUP2_X2)) ∷ []
    else [])

-- copies of so many units over so many, of which the plain ones count
abbrev pub dups_among : ℕ → ℕ → List Cell → List WInstr
dups_among copied over stack =
    dups (plain_among copied stack) (plain_among over (below_units copied stack))

abbrev pub shuffles : ℕ → List Cell → List WInstr
shuffles opcode stack =
    if opcode == POP then pops (plain_among 1 stack)
    else (if opcode == POP2 then pops (plain_among 2 stack)
    else (if opcode == DUP then dups_among 1 0 stack
    else (if opcode == DUP_X1 then dups_among 1 1 stack
    else (if opcode == DUP_X2 then dups_among 1 2 stack
    else (if opcode == DUP2 then dups_among 2 0 stack
    else (if opcode == DUP2_X1 then dups_among 2 1 stack
    else (if opcode == DUP2_X2 then dups_among 2 2 stack
    else (if opcode == SWAP then swaps (plain_among 2 stack)
    else []))))))))

-- ---- comparisons that a virtual object decides

-- the plain one of the two operands is popped
abbrev pub pop_if_plain : Slot → List WInstr
pop_if_plain Plain = plain (Shuffle POP) ∷ []
pop_if_plain (Virt site) = []
pop_if_plain Unusable = []

-- what stands where the jump is taken: its make code; the goto behind it is its block's
abbrev pub made_on_jump : PlanScope → Route → List WInstr
made_on_jump s route = by_edge (edge_by route (edges.Jump 0)) where
  by_edge : Option RouteEdge → List WInstr
  by_edge None = []
  by_edge (Some edge) = make_code s.flat edge.to edge.state edge.made edge.order

abbrev pub is_virtual : Slot → Bool
is_virtual Plain = false
is_virtual (Virt site) = true
is_virtual Unusable = false

-- an operand of the comparison of this instruction is virtual
abbrev pub is_folded : Frame → State → Instr → Bool
is_folded f state (IfNull opcode to) = is_virtual (held state (operand f 0))
is_folded f state (IfSame opcode to) =
    is_virtual (held state (operand f 0)) || is_virtual (held state (operand f 1))
is_folded f state other = false

-- ---- instructions

-- the template of an instruction: what it is written as where one of its operands is virtual, or None where it is written as it is
abbrev pub new_template : PlanScope → Option ℕ → Option (List WInstr)
new_template s None = None
new_template s (Some site) = Some (cleared_fields site 0 (fields_at s.flat site))

-- nothing, where this slot is virtual
abbrev pub nothing_of : Slot → Option (List WInstr)
nothing_of Plain = None
nothing_of (Virt site) = Some []
nothing_of Unusable = None

-- a call of java/lang/Object's constructor takes its object and arguments away, where the object is virtual, or was one whose
-- initialiser stands in the flat code: what is plain of them is popped
abbrev pub init_template : PlanScope → Frame → State → Bool → Option Reference → Option (List WInstr)
init_template s f state is_special None = None
init_template s f state is_special (Some method) =
    if is_special && is_object_init method
    && (is_virtual (held state (operand f (length (parameters_of method.desc))))
    || is_site_object s.flat (receiver f method.desc))
    then Some (flat_map (λ cell. pops (plain_units cell)) (take (suc (length (parameters_of method.desc))) (cells f state)))
    else None

-- the type of a field of a site's object, by the field's number
abbrev pub field_type_at : PlanScope → ℕ → ℕ → Option FieldType
field_type_at s site number = slice_get (fields_at s.flat site) number

abbrev pub get_template : PlanScope → State → Slot → Option Reference → Option (List WInstr)
get_template s state (Virt site) (Some field) =
    Some (of_field (field_held s state site field) (field_number s site field)) where
      of_field : Slot → Option ℕ → List WInstr
      of_field Plain (Some number) = load_of_field site number (field_type_at s site number)
      of_field slot number = []
get_template s state object field = None

abbrev pub put_template : PlanScope → Slot → Slot → Option Reference → Option (List WInstr)
put_template s (Virt site) Plain (Some field) = Some (of_number (field_number s site field)) where
  of_number : Option ℕ → List WInstr
  of_number None = []
  of_number (Some number) = store_of_field site number (field_type_at s site number)
put_template s (Virt site) (Virt value) field = Some []
put_template s object value field = None

-- whether a virtual object is an instance of a class
abbrev pub instance_template : PlanScope → Slot → Option Name → Option (List WInstr)
instance_template s (Virt site) (Some name) =
    Some (plain (Const (imms.Int (pos (if is_site_below s site name then 1 else 0)))) ∷ [])
instance_template s object name = None

-- a comparison that is folded
abbrev pub null_template : PlanScope → Route → Slot → Option (List WInstr)
null_template s route (Virt site) = Some (made_on_jump s route)
null_template s route other = None

abbrev pub same_template : PlanScope → Route → Slot → Slot → Option (List WInstr)
same_template s route one other =
    if is_virtual one || is_virtual other
    then Some (pop_if_plain other ++ pop_if_plain one ++ made_on_jump s route)
    else None

-- ---- the table

abbrev pub template : PlanScope → ℕ → Frame → State → Route → ℕ → Instr → Option (List WInstr)
template s at f state route class (New index) = new_template s (site_at s.flat at)
template s at f state route class (Load kind local) = nothing_of (held state local)
template s at f state route class (Store kind local) = nothing_of (held state (operand f 0))
template s at f state route class (Cast index) = nothing_of (held state (operand f 0))
template s at f state route class Enter = nothing_of (held state (operand f 0))
template s at f state route class Leave = nothing_of (held state (operand f 0))
template s at f state route class (Invoke opcode index count) =
    init_template s f state (opcode == INVOKESPECIAL) (member_of s class index)
template s at f state route class (GetField index) =
    get_template s state (held state (operand f 0)) (field_of s class index)
template s at f state route class (PutField index) =
    put_template s (held state (operand f 1)) (held state (operand f 0)) (field_of s class index)
template s at f state route class (Shuffle opcode) = Some (shuffles opcode (cells f state))
template s at f state route class (IfNull opcode to) =
    null_template s route (held state (operand f 0))
template s at f state route class (IfSame opcode to) =
    same_template s route (held state (operand f 1)) (held state (operand f 0))
template s at f state route class (InstanceOf index) =
    instance_template s (held state (operand f 0)) (class_at (pool_of s class) index)
template s at f state route class (Goto to) = Some (made_on_jump s route)
template s at f state route class other = None

-- a test of a local that is plain for null
abbrev pub null_test : ℕ → Point → Route → ℕ → List WItem
null_test at point route local =
    item (load kinds.Ref (own local))
    ∷ record {
      instr = plain (IfNull IFNONNULL 0);
      targets = ahead 3 ∷ [];
      catches = [];
    }
    ∷ item (plain (Const imms.Null))
    ∷ record { instr = plain Throw; targets = []; catches = catches_at at point route }
    ∷ []

-- The items of an instruction, in the state that is left when the objects of its point are made.
abbrev pub items_at : PlanScope → ℕ → Point → State → Route → List WItem
items_at s at point state route = of_instr point.instr where
  or_as_it_is : ℕ → Instr → Option (List WInstr) → List WItem
  or_as_it_is class instr None = as_it_is at point route class instr
  or_as_it_is class instr (Some instrs) = map item instrs

  test : ℕ → Slot → List WItem
  test local Plain = null_test at point route local
  test local (Virt site) = []
  test local Unusable = null_test at point route local

  of_instr : FlatInstr → List WItem
  of_instr (Of class instr) =
      or_as_it_is class instr (template s at point.typed state route class instr)
  of_instr (NullTest local) = test local (held state local)
