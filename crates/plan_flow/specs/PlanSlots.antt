-- What a state's places hold before an edge and behind it. An unusable place is read as a plain one: the type checker lets no
-- code read it.
use Rattle.std.specs.Prelude.{◌==◌, ◌+◌, ◌-◌, ℕ, Bool, true, false, not, List, [], ◌∷◌, ◌++◌, map, replicate, slice_get, slice_set, Option, Some, None, if◌then◌else◌}
use Rattle.std.specs.List.{list_any}
use Rattle.class_model.specs.Frames.{is_top}
use Rattle.class_model.specs.declared.frame.VType.{VType}
use Rattle.member_link.specs.References.{Reference}
use Rattle.plan_flow.specs.PlanRows.{Source, plain_value, from_place, from_field, from_new, Change, no_change, new_object, put_field, enter_monitor, leave_monitor, Guard, in_each_state, where_plain, where_may_be_same, where_may_differ, PlanRow, RowEdge}
use Rattle.plan_flow.specs.PlanScope.{PlanScope, field_count, field_number, local_types, stack_types}
use Rattle.plan_flow.specs.PlanTable.{held_from}
use Rattle.plan_flow.specs.declared.edge.EdgeKind.{EdgeKind}
use Rattle.plan_flow.specs.declared.edge.EdgeKind.TheVariants as edges
use Rattle.virtual_state.specs.States.{State, object_of}
use Rattle.virtual_state.specs.declared.slot.Slot.{Slot}
use Rattle.virtual_state.specs.declared.slot.Slot.TheVariants.{Plain, Virt, Unusable}
use Rattle.virtual_state.specs.declared.slot.VObject.{VObject}

-- ---- reading

abbrev pub readable : Option Slot → Slot
readable (Some (Virt site)) = Virt site
readable other = Plain

-- what a place holds
abbrev pub held : State → ℕ → Slot
held state place = readable (slice_get state.slots place)

-- what a field of an object holds, by its number
abbrev pub field_in : Option VObject → Option ℕ → Slot
field_in (Some object) (Some number) = readable (slice_get object.fields number)
field_in object number = Plain

-- what a field of a site's object holds
abbrev pub field_held : PlanScope → State → ℕ → Reference → Slot
field_held s state site field =
    field_in (object_of state.objects site) (field_number s site field)

-- what a field of what a slot holds, holds
abbrev pub field_of_slot : PlanScope → State → Slot → Reference → Slot
field_of_slot s state (Virt site) field = field_held s state site field
field_of_slot s state other field = Plain

-- the object that a change makes
abbrev pub slot_of_new : Change → Slot
slot_of_new (new_object site) = Virt site
slot_of_new other = Plain

-- what a value is, in a state and behind a change
abbrev pub slot_from : PlanScope → State → Change → Source → Slot
slot_from s state by plain_value = Plain
slot_from s state by (from_place place) = held state place
slot_from s state by (from_field place field) =
    field_of_slot s state (held state place) field
slot_from s state by from_new = slot_of_new by

abbrev pub slots_from : PlanScope → State → Change → List Source → List Slot
slots_from s state change sources = map (slot_from s state change) sources

-- ---- guards

abbrev pub is_plain : Slot → Bool
is_plain (Virt site) = false
is_plain other = true

abbrev pub may_be_same : Slot → Slot → Bool
may_be_same (Virt one) (Virt other) = one == other
may_be_same (Virt one) other = false
may_be_same one (Virt other) = false
may_be_same one other = true

abbrev pub may_differ : Slot → Slot → Bool
may_differ (Virt one) (Virt other) = not (one == other)
may_differ one other = true

abbrev pub is_open : State → Guard → Bool
is_open state in_each_state = true
is_open state (where_plain place) = is_plain (held state place)
is_open state (where_may_be_same one other) = may_be_same (held state one) (held state other)
is_open state (where_may_differ one other) = may_differ (held state one) (held state other)

-- ---- virtual objects that change

-- the object with another value of a field, if both are there
abbrev pub with_field : Option VObject → Option ℕ → Slot → List VObject
with_field (Some object) (Some number) slot =
    record object { fields = slice_set object.fields number slot } ∷ []
with_field object number slot = []

abbrev pub put_in : PlanScope → State → Slot → Reference → Slot → List VObject
put_in s state (Virt site) field slot =
    with_field (object_of state.objects site) (field_number s site field) slot
put_in s state other field slot = []

-- the object with another depth, if it is there
abbrev pub with_depth_of : Option VObject → (ℕ → ℕ) → List VObject
with_depth_of None change = []
with_depth_of (Some object) change = record object { depth = change object.depth } ∷ []

abbrev pub at_depth : State → Slot → (ℕ → ℕ) → List VObject
at_depth state (Virt site) change = with_depth_of (object_of state.objects site) change
at_depth state other change = []

-- the objects that are new, or that take the place of those of their sites
abbrev pub changed : PlanScope → State → Change → List VObject
changed s state no_change = []
changed s state (new_object site) =
    record { site = site; fields = replicate (field_count s site) Plain; depth = 0 } ∷ []
changed s state (put_field place field value) =
    put_in s state (held state place) field (held state value)
changed s state (enter_monitor place) = at_depth state (held state place) (λ depth. depth + 1)
changed s state (leave_monitor place) = at_depth state (held state place) (λ depth. depth - 1)

-- ---- behind an edge

-- A local unit that is Top at a point is unusable there.
abbrev pub fit_locals : List VType → List Slot → List Slot
fit_locals [] slots = []
fit_locals (type ∷ types) [] = (if is_top type then Unusable else Plain) ∷ fit_locals types []
fit_locals (type ∷ types) (slot ∷ slots) =
    (if is_top type then Unusable else slot) ∷ fit_locals types slots

-- A stack entry is not: it stands on the written stack.
abbrev pub fit_stack : List VType → List Slot → List Slot
fit_stack [] slots = []
fit_stack (type ∷ types) [] = Plain ∷ fit_stack types []
fit_stack (type ∷ types) (slot ∷ slots) = slot ∷ fit_stack types slots

-- where the local units and the stack behind an edge come from: a handler begins with the locals before the instruction and with
-- what was thrown
abbrev pub edge_locals : PlanRow → ℕ → EdgeKind → List Source
edge_locals row count (edges.Handler number) = held_from 0 count
edge_locals row count by = row.locals

abbrev pub edge_stack : PlanRow → EdgeKind → List Source
edge_stack row (edges.Handler number) = plain_value ∷ []
edge_stack row by = row.stack

-- what the objects are behind an edge: a handler begins with those before the instruction
abbrev pub edge_objects : PlanScope → State → PlanRow → EdgeKind → List VObject
edge_objects s state row (edges.Handler number) = state.objects
edge_objects s state row by = changed s state row.change ++ state.objects

-- the slots of an edge from a point of so many local units
abbrev pub local_slots : PlanScope → State → PlanRow → ℕ → RowEdge → List Slot
local_slots s state row count edge =
    fit_locals (local_types s.flat edge.to)
    (slots_from s state row.change (edge_locals row count edge.by))

abbrev pub stack_slots : PlanScope → State → PlanRow → RowEdge → List Slot
stack_slots s state row edge =
    fit_stack (stack_types s.flat edge.to) (slots_from s state row.change (edge_stack row edge.by))

-- ---- stack entries whose type is Top

-- the slots of the stack entries at or below one whose type is Top
abbrev pub beneath_top : List VType → List Slot → List Slot
beneath_top [] slots = []
beneath_top (type ∷ types) [] = []
beneath_top (type ∷ types) (slot ∷ slots) =
    if list_any is_top (type ∷ types) then slot ∷ beneath_top types slots else []
