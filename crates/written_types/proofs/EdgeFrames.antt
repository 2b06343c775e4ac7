-- Along each edge: a frame that agrees with what comes along it may stand for the frame of the state behind it.
use Rattle.std.proofs.Common.{◌≡◌, ◌+◌, ℕ, zero, suc, Bool, true, false, List, [], ◌∷◌, ◌++◌, drop, length, map, replicate, Option, Some, None, if◌then◌else◌, refl, sym, ap, subst, ◌∙◌}
use Rattle.std.specs.Prelude.{is_some}
use Rattle.std.specs.List.{flat_map}
use Rattle.std.proofs.lemmas.Bool.{false≢true}
use Rattle.std.proofs.lemmas.List.{length-append, length-replicate}
use Rattle.std.proofs.lemmas.List.Sums.{sum_by-cons}
use Rattle.class_model.specs.Code.{verification_type}
use Rattle.class_model.specs.Descriptors.{kind_of, parameter_units, units_of}
use Rattle.class_model.specs.Frames.{is_top, units}
use Rattle.class_model.specs.declared.descriptor.FieldType.{FieldType}
use Rattle.class_model.specs.declared.descriptor.FieldType.TheVariants as field_types
use Rattle.class_model.specs.declared.frame.Frame.{Frame}
use Rattle.class_model.specs.declared.frame.VType.{VType}
use Rattle.class_model.specs.declared.frame.VType.TheVariants as types
use Rattle.class_tree.specs.Headers.{Headers}
use Rattle.flow_code.specs.FlatCode.{FlatCode, point_at}
use Rattle.flow_code.specs.ReadTypes.{read_frame, read_type}
use Rattle.flow_code.specs.WrittenUnits.{greatest_depth}
use Rattle.flow_code.specs.declared.point.Point.{Point}
use Rattle.flow_code.specs.declared.point.Site.{Site}
use Rattle.making_code.specs.StateFrames.{entry_types_from, field_types as unit_types, frame_in, local_types_from, site_types_from, state_frame, type_of_slot}
use Rattle.member_link.specs.Assignability.{IsAssignable, from_null, of_names, to_same, to_top}
use Rattle.member_link.specs.Rows.FrameAssignability.{AreAssignable, IsFrameAssignable}
use Rattle.plan_flow.specs.Must.{row_of_point}
use Rattle.plan_flow.specs.PlanScope.{PlanScope, local_types, stack_types}
use Rattle.plan_flow.specs.PlanSlots.{edge_locals, edge_objects, edge_stack, fit_locals, fit_stack, slots_from}
use Rattle.plan_flow.specs.Written.Blocks.{state_written}
use Rattle.plan_flow.specs.Written.Finish.{Finished}
use Rattle.plan_flow.specs.Written.FramedCode.{type_by_item}
use Rattle.plan_flow.specs.Written.Routes.{Route, RouteEdge}
use Rattle.plan_flow.specs.Written.WrittenCode.{Form}
use Rattle.virtual_state.specs.Making.{IsStateOf}
use Rattle.virtual_state.specs.States.{State, is_present}
use Rattle.virtual_state.specs.declared.slot.Slot.{Slot}
use Rattle.virtual_state.specs.declared.slot.Slot.TheVariants.{Plain, Virt, Unusable}
use Rattle.virtual_state.specs.declared.slot.VObject.{VObject}
use Rattle.written_types.proofs.AgreeingFrames.{agreeing_assignable, assignable_to_itself, keeps_no_this}
use Rattle.written_types.proofs.Arrivals.{types_there}
use Rattle.written_types.proofs.Given.{FitsState, entries_in, locals_in, read_along, type_in, written_along, written_before}
use Rattle.written_types.proofs.RouteEdges.{EdgeComes}
use Rattle.written_types.specs.FitsTypes.{HaveTypes}
use Rattle.written_types.specs.Inner.CarriedFrames.{Agrees}
use Rattle.written_types.specs.Writing.{Writing}

-- ---- types that are assignable

pub by_item_assignable : (form : Form) (blocks : List Finished) {headers : Headers} {low high : VType}
    → IsAssignable headers low high
    → IsAssignable headers (type_by_item form blocks low) (type_by_item form blocks high)
by_item_assignable form blocks (to_same type) = to_same (type_by_item form blocks type)
by_item_assignable form blocks (to_top type) = to_top (type_by_item form blocks type)
by_item_assignable form blocks (from_null name) = from_null name
by_item_assignable form blocks (of_names low high names) = of_names low high names

pub all_by_item : (form : Form) (blocks : List Finished) (headers : Headers) (lows highs : List VType)
    → AreAssignable headers lows highs
    → AreAssignable headers (map (type_by_item form blocks) lows) (map (type_by_item form blocks) highs)
all_by_item form blocks headers [] [] are = tt
all_by_item form blocks headers [] (high ∷ highs) are = absurd are
all_by_item form blocks headers (low ∷ lows) [] are = absurd are
all_by_item form blocks headers (low ∷ lows) (high ∷ highs) are =
    (by_item_assignable form blocks are.0, all_by_item form blocks headers lows highs are.1)

pub joined_assignable : (headers : Headers) (lows highs more others : List VType)
    → AreAssignable headers lows highs
    → AreAssignable headers more others
    → AreAssignable headers (lows ++ more) (highs ++ others)
joined_assignable headers [] [] more others are also = also
joined_assignable headers [] (high ∷ highs) more others are also = absurd are
joined_assignable headers (low ∷ lows) [] more others are also = absurd are
joined_assignable headers (low ∷ lows) (high ∷ highs) more others are also =
    (are.0, joined_assignable headers lows highs more others are.1 also)

pub tops_assignable : (headers : Headers) (lows : List VType) (count : ℕ) → length lows ≡ count → AreAssignable headers lows (replicate count types.Top)
tops_assignable headers [] zero long = tt
tops_assignable headers [] (suc count) long = absurd cc
tops_assignable headers (low ∷ lows) zero long = absurd cc
tops_assignable headers (low ∷ lows) (suc count) long =
    let rest : length lows ≡ count = cc in
    (to_top low, tops_assignable headers lows count rest)

-- ---- locals and stack

locals_fit : (s : PlanScope) (flat : FlatCode) (headers : Headers) (highs lows : List VType) (slots rest : List Slot)
    → HaveTypes s lows slots
    → AreAssignable headers lows (map (read_type flat) highs)
    → AreAssignable headers (locals_in lows slots) (local_types_from flat highs (fit_locals highs slots ++ rest))
locals_fit s flat headers [] [] [] rest have are = tt
locals_fit s flat headers [] [] (slot ∷ slots) rest have are = absurd have
locals_fit s flat headers [] (low ∷ lows) slots rest have are = absurd are
locals_fit s flat headers (high ∷ highs) [] slots rest have are = absurd are
locals_fit s flat headers (high ∷ highs) (low ∷ lows) [] rest have are = absurd have
locals_fit s flat headers (high ∷ highs) (low ∷ lows) (slot ∷ slots) rest have are =
    (by (is_top high) slot, locals_fit s flat headers highs lows slots rest have.1 are.1) where
      by : (top : Bool) (slot : Slot) → IsAssignable headers (type_in low slot) (type_of_slot flat high (if top then Unusable else slot))
      by true slot = to_top (type_in low slot)
      by false Plain = are.0
      by false (Virt site) = to_same types.Top
      by false Unusable = to_same types.Top

stack_fits : (s : PlanScope) (flat : FlatCode) (headers : Headers) (highs lows : List VType) (slots : List Slot)
    → HaveTypes s lows slots
    → AreAssignable headers lows (map (read_type flat) highs)
    → AreAssignable headers (entries_in lows slots) (entry_types_from flat highs (fit_stack highs slots))
stack_fits s flat headers [] [] [] have are = tt
stack_fits s flat headers [] [] (slot ∷ slots) have are = absurd have
stack_fits s flat headers [] (low ∷ lows) slots have are = absurd are
stack_fits s flat headers (high ∷ highs) [] slots have are = absurd are
stack_fits s flat headers (high ∷ highs) (low ∷ lows) [] have are = absurd have
stack_fits s flat headers (high ∷ highs) (low ∷ lows) (Plain ∷ slots) have are = (are.0, stack_fits s flat headers highs lows slots have.1 are.1)
stack_fits s flat headers (high ∷ highs) (low ∷ lows) (Virt site ∷ slots) have are = stack_fits s flat headers highs lows slots have.1 are.1
stack_fits s flat headers (high ∷ highs) (low ∷ lows) (Unusable ∷ slots) have are = stack_fits s flat headers highs lows slots have.1 are.1

pub behind_locals : (highs : List VType) (slots rest : List Slot) → drop (length highs) (fit_locals highs slots ++ rest) ≡ rest
behind_locals [] slots rest = refl
behind_locals (high ∷ highs) [] rest = behind_locals highs [] rest
behind_locals (high ∷ highs) (slot ∷ slots) rest = behind_locals highs slots rest

-- ---- the units of fields

one_long : (type : FieldType) → length (units (verification_type type)) ≡ units_of (kind_of type)
one_long (field_types.Named name) = refl
one_long field_types.Bool = refl
one_long field_types.Byte = refl
one_long field_types.Char = refl
one_long field_types.Short = refl
one_long field_types.Int = refl
one_long field_types.Long = refl
one_long field_types.Float = refl
one_long field_types.Double = refl

pub fields_long : (all : List FieldType) → length (flat_map (λ type. units (verification_type type)) all) ≡ parameter_units all
fields_long [] = refl
fields_long (type ∷ all) =
    length-append (units (verification_type type)) (flat_map (λ one. units (verification_type one)) all)
    ∙ ap (λ (n : ℕ). n + length (flat_map (λ one. units (verification_type one)) all)) (one_long type)
    ∙ ap (λ (n : ℕ). units_of (kind_of type) + n) (fields_long all)
    ∙ sym (sum_by-cons (λ (one : FieldType). units_of (kind_of one)) type all)

unit_types_long : (present : Bool) (all : List FieldType) → length (unit_types present all) ≡ parameter_units all
unit_types_long true all = fields_long all
unit_types_long false all = length-replicate (parameter_units all) types.Top

fewer_units : (headers : Headers) (low high : Bool) (all : List FieldType)
    → (high ≡ true → low ≡ true)
    → AreAssignable headers (unit_types low all) (unit_types high all)
fewer_units headers low false all still = tops_assignable headers (unit_types low all) (parameter_units all) (unit_types_long low all)
fewer_units headers true true all still = assignable_to_itself headers (unit_types true all)
fewer_units headers false true all still = absurd (false≢true (still refl))

pub fewer_sites : (headers : Headers) (low high : State) (number : ℕ) (sites : List Site)
    → ((site : ℕ) → is_present high.objects site ≡ true → is_present low.objects site ≡ true)
    → AreAssignable headers (site_types_from low number sites) (site_types_from high number sites)
fewer_sites headers low high number [] still = tt
fewer_sites headers low high number (site ∷ sites) still =
    joined_assignable headers (unit_types (is_present low.objects number) site.fields) (unit_types (is_present high.objects number) site.fields)
    (site_types_from low (suc number) sites) (site_types_from high (suc number) sites)
    (fewer_units headers (is_present low.objects number) (is_present high.objects number) site.fields (still number))
    (fewer_sites headers low high (suc number) sites still)

-- what is present behind an edge is there before
still_present : (slots : List Slot) (objects : List VObject) (state : State) → IsStateOf slots objects state
    → (site : ℕ)
    → is_present state.objects site ≡ true
    → is_present objects site ≡ true
still_present slots objects state is site present =
    ap is_some (sym (is.kept site (is.reached site present))) ∙ present

-- ---- the frame behind an edge

abbrev with_units : FlatCode → List VType → State → List VType
with_units flat locals state =
    locals ++ site_types_from state 0 flat.sites ++ replicate (length flat.sites) types.Top ++ replicate (greatest_depth flat.points) types.Top

all_locals_fit : (flat : FlatCode) (headers : Headers) (lows highs : List VType) (low high : State)
    → AreAssignable headers lows highs
    → ((site : ℕ) → is_present high.objects site ≡ true → is_present low.objects site ≡ true)
    → AreAssignable headers (with_units flat lows low) (with_units flat highs high)
all_locals_fit flat headers lows highs low high are still =
    joined_assignable headers (lows ++ site_types_from low 0 flat.sites ++ replicate (length flat.sites) types.Top)
    (highs ++ site_types_from high 0 flat.sites ++ replicate (length flat.sites) types.Top)
    (replicate (greatest_depth flat.points) types.Top) (replicate (greatest_depth flat.points) types.Top)
    (joined_assignable headers (lows ++ site_types_from low 0 flat.sites) (highs ++ site_types_from high 0 flat.sites)
    (replicate (length flat.sites) types.Top) (replicate (length flat.sites) types.Top)
    (joined_assignable headers lows highs (site_types_from low 0 flat.sites) (site_types_from high 0 flat.sites) are
    (fewer_sites headers low high 0 flat.sites still))
    (assignable_to_itself headers (replicate (length flat.sites) types.Top)))
    (assignable_to_itself headers (replicate (greatest_depth flat.points) types.Top))

pub fits_behind : (w : Writing) (at : ℕ) (point : Point) (route : Route) (edge : RouteEdge) (frame : Frame)
    (c : EdgeComes w at point route edge)
    → Agrees frame (record {
      locals = map (type_by_item w.form w.blocks) (written_along w at point (state_written route) c.row.by).locals;
      stack = map (type_by_item w.form w.blocks) (written_along w at point (state_written route) c.row.by).stack;
    })
    → FitsState w frame c.row.to edge.state
fits_behind w at point route edge frame c agrees = by (point_at w.s.flat c.row.to) refl where
  before : State
  before = state_written route

  locals : List Slot
  locals = slots_from w.s before (row_of_point w.s at point).change (edge_locals (row_of_point w.s at point) (length point.typed.locals) c.row.by)

  stack : List Slot
  stack = slots_from w.s before (row_of_point w.s at point).change (edge_stack (row_of_point w.s at point) c.row.by)

  objects : List VObject
  objects = edge_objects w.s before (row_of_point w.s at point) c.row.by

  read : Frame
  read = read_along w at point c.row.by

  is : IsStateOf (fit_locals (local_types w.s.flat c.row.to) locals ++ fit_stack (stack_types w.s.flat c.row.to) stack) objects edge.state
  is = c.is.state.is

  behind : (target : Point) → point_at w.s.flat c.row.to ≡ Some target → IsFrameAssignable w.host.headers read (read_frame w.s.flat target.typed)
      → FitsState w frame c.row.to edge.state
  behind target there goes = record {
    assignable = subst (IsFrameAssignable w.host.headers frame) (sym (ap by_item whole)) (record {
      locals = agreeing_assignable w.host.headers frame.locals _ _ agrees.locals
          (all_by_item w.form w.blocks w.host.headers _ _ (all_locals_fit w.s.flat w.host.headers _ _ (record { slots = []; objects = objects }) edge.state
          (locals_fit w.s w.s.flat w.host.headers target.typed.locals read.locals locals (fit_stack target.typed.stack stack) c.comes.have_locals
          goes.locals) (still_present _ objects edge.state is)));
      stack = agreeing_assignable w.host.headers frame.stack _ _ agrees.stack
          (all_by_item w.form w.blocks w.host.headers _ _
          (stack_fits w.s w.s.flat w.host.headers target.typed.stack read.stack stack c.comes.have_stack goes.stack));
      keeps_this = keeps_no_this frame.locals _ agrees.no_this;
    });
    no_this = agrees.no_this;
  } where
    by_item : Frame → Frame
    by_item f = record { locals = map (type_by_item w.form w.blocks) f.locals; stack = map (type_by_item w.form w.blocks) f.stack }

    types_are : (local_types w.s.flat c.row.to ≡ target.typed.locals) × (stack_types w.s.flat c.row.to ≡ target.typed.stack)
    types_are = types_there w.s c.row.to target there

    slots_are : edge.state.slots ≡ fit_locals target.typed.locals locals ++ fit_stack target.typed.stack stack
    slots_are = is.same_slots ∙ (λ i. fit_locals (types_are.0 i) locals ++ fit_stack (types_are.1 i) stack)

    own : Frame
    own = record {
      locals = with_units w.s.flat (local_types_from w.s.flat target.typed.locals
          (fit_locals target.typed.locals locals ++ fit_stack target.typed.stack stack)) edge.state;
      stack = entry_types_from w.s.flat target.typed.stack (fit_stack target.typed.stack stack);
    }

    whole : state_frame w.s.flat c.row.to edge.state ≡ own
    whole =
        ap (λ (found : Option Point). frame_in w.s.flat found edge.state) there
        ∙ (λ i. record {
          locals = with_units w.s.flat (local_types_from w.s.flat target.typed.locals (slots_are i)) edge.state;
          stack = entry_types_from w.s.flat target.typed.stack (drop (length target.typed.locals) (slots_are i));
        })
        ∙ ap (λ (slots : List Slot). record {
          locals = own.locals;
          stack = entry_types_from w.s.flat target.typed.stack slots;
        }) (behind_locals target.typed.locals locals (fit_stack target.typed.stack stack))

  by : (found : Option Point) → point_at w.s.flat c.row.to ≡ found → FitsState w frame c.row.to edge.state
  by None none = absurd (rw none at c.comes.may)
  by (Some target) there = behind target there (rw there at c.comes.may)

-- ---- the frame of a state, in the same words

read_locals : (flat : FlatCode) (all : List VType) (slots : List Slot) → local_types_from flat all slots ≡ locals_in (map (read_type flat) all) slots
read_locals flat [] slots = refl
read_locals flat (type ∷ all) [] = refl
read_locals flat (type ∷ all) (Plain ∷ slots) = ap (λ (rest : List VType). read_type flat type ∷ rest) (read_locals flat all slots)
read_locals flat (type ∷ all) (Virt site ∷ slots) = ap (λ (rest : List VType). types.Top ∷ rest) (read_locals flat all slots)
read_locals flat (type ∷ all) (Unusable ∷ slots) = ap (λ (rest : List VType). types.Top ∷ rest) (read_locals flat all slots)

read_stack : (flat : FlatCode) (all : List VType) (slots : List Slot) → entry_types_from flat all slots ≡ entries_in (map (read_type flat) all) slots
read_stack flat [] slots = refl
read_stack flat (type ∷ all) [] = refl
read_stack flat (type ∷ all) (Plain ∷ slots) = ap (λ (rest : List VType). read_type flat type ∷ rest) (read_stack flat all slots)
read_stack flat (type ∷ all) (Virt site ∷ slots) = read_stack flat all slots
read_stack flat (type ∷ all) (Unusable ∷ slots) = read_stack flat all slots

same_sites : (one other : State) (number : ℕ) (sites : List Site) → one.objects ≡ other.objects
    → site_types_from one number sites ≡ site_types_from other number sites
same_sites one other number [] same = refl
same_sites one other number (site ∷ sites) same =
    λ i. unit_types (is_present (same i) number) site.fields ++ same_sites one other (suc number) sites same i

pub before_is : (w : Writing) (at : ℕ) (point : Point) (state : State)
    → point_at w.s.flat at ≡ Some point
    → state_frame w.s.flat at state ≡ written_before w point state
before_is w at point state there =
    ap (λ (found : Option Point). frame_in w.s.flat found state) there
    ∙ (λ i. record {
      locals = read_locals w.s.flat point.typed.locals state.slots i
          ++ same_sites state (record { slots = []; objects = state.objects }) 0 w.s.flat.sites refl i
          ++ replicate (length w.s.flat.sites) types.Top
          ++ replicate (greatest_depth w.s.flat.points) types.Top;
      stack = read_stack w.s.flat point.typed.stack (drop (length point.typed.locals) state.slots) i;
    })
