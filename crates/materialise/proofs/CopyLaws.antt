-- Copies of objects to local units and to field units.
use Rattle.std.proofs.Common.{◌≡◌, ◌+◌, ◌-◌, ◌<◌, ◌≤◌, ℕ, zero, suc, List, [], ◌∷◌, ◌++◌, length, take, drop, slice_get, Option, Some, None, option_map, refl, sym, ap, subst, ◌∙◌, arith}
use Rattle.std.proofs.lemmas.List.{drop_all}
use Rattle.std.proofs.lemmas.Option.{none-some, same_Some}
use Rattle.class_model.specs.Frames.{depth}
use Rattle.class_model.specs.Laws.Lists.{drop_item, none_behind}
use Rattle.class_model.specs.declared.descriptor.FieldType.{FieldType}
use Rattle.class_model.specs.declared.descriptor.Kind.TheVariants as kinds
use Rattle.class_model.specs.declared.frame.Frame.{Frame}
use Rattle.class_model.specs.declared.instr.Instr.TheVariants.{Enter}
use Rattle.flow_code.specs.FlatCode.{FlatCode, point_at}
use Rattle.flow_code.specs.WrittenUnits.{greatest_depth, written_units}
use Rattle.flow_code.specs.declared.point.Point.{Point}
use Rattle.making_code.specs.Items.{WInstr, load, plain}
use Rattle.making_code.specs.MakeCode.{copy_field, copy_fields_from, copy_local, copy_locals_from, enters, entries_at, entries_from, entries_in, load_field, load_fields_from, local_slots_in}
use Rattle.making_code.specs.Units.{field_unit, object_unit, own}
use Rattle.materialise.proofs.DepthLaws.{no_deeper}
use Rattle.materialise.specs.Inner.CodeWords.{copied}
use Rattle.virtual_state.specs.States.{State}
use Rattle.virtual_state.specs.declared.slot.Slot.{Slot}
use Rattle.virtual_state.specs.declared.slot.Slot.TheVariants.{Plain, Virt, Unusable}

local_copied : (sites : List ℕ) (unit : ℕ) (slot : Slot) → copy_local sites unit slot ≡ copied sites slot (own unit)
local_copied sites unit Plain = refl
local_copied sites unit (Virt site) = refl
local_copied sites unit Unusable = refl

field_copied : (sites : List ℕ) (of number : ℕ) (slot : Slot) → copy_field sites of number slot ≡ copied sites slot (field_unit of number)
field_copied sites of number Plain = refl
field_copied sites of number (Virt site) = refl
field_copied sites of number Unusable = refl

pub locals_there : (sites : List ℕ) (slots : List Slot) (unit : ℕ) (slot : Slot)
    → slice_get slots unit ≡ Some slot
    → copy_locals_from sites unit (drop unit slots) ≡ copied sites slot (own unit) ++ copy_locals_from sites (unit + 1) (drop (unit + 1) slots)
locals_there sites slots unit slot is =
    let next : suc unit ≡ unit + 1 = omega arith in
    ap (copy_locals_from sites unit) (drop_item slots unit slot is)
    ∙ ap (λ (instrs : List WInstr). instrs ++ copy_locals_from sites (suc unit) (drop (unit + 1) slots)) (local_copied sites unit slot)
    ∙ ap (λ (n : ℕ). copied sites slot (own unit) ++ copy_locals_from sites n (drop (unit + 1) slots)) next

pub locals_past : (sites : List ℕ) (slots : List Slot) (unit : ℕ)
    → slice_get slots unit ≡ None
    → copy_locals_from sites unit (drop unit slots) ≡ copy_locals_from sites (unit + 1) (drop (unit + 1) slots)
locals_past sites slots unit is =
    let end = none_behind slots unit is in
    ap (copy_locals_from sites unit) (drop_all unit slots end)
    ∙ sym (ap (copy_locals_from sites (unit + 1)) (drop_all (unit + 1) slots (omega (arith, end))))

pub locals_end : (sites : List ℕ) (slots : List Slot) (unit : ℕ) → length slots ≤ unit → copy_locals_from sites unit (drop unit slots) ≡ []
locals_end sites slots unit end = ap (copy_locals_from sites unit) (drop_all unit slots end)

pub fields_there : (sites : List ℕ) (of : ℕ) (slots : List Slot) (number : ℕ) (slot : Slot)
    → slice_get slots number ≡ Some slot
    → copy_fields_from sites of number (drop number slots)
    ≡ copied sites slot (field_unit of number) ++ copy_fields_from sites of (number + 1) (drop (number + 1) slots)
fields_there sites of slots number slot is =
    let next : suc number ≡ number + 1 = omega arith in
    ap (copy_fields_from sites of number) (drop_item slots number slot is)
    ∙ ap (λ (instrs : List WInstr). instrs ++ copy_fields_from sites of (suc number) (drop (number + 1) slots)) (field_copied sites of number slot)
    ∙ ap (λ (n : ℕ). copied sites slot (field_unit of number) ++ copy_fields_from sites of n (drop (number + 1) slots)) next

pub fields_end : (sites : List ℕ) (of : ℕ) (slots : List Slot) (number : ℕ) → length slots ≤ number → copy_fields_from sites of number (drop number slots) ≡ []
fields_end sites of slots number end = ap (copy_fields_from sites of number) (drop_all number slots end)

-- ---- loads of fields

pub loads_there : (site : ℕ) (types : List FieldType) (slots : List Slot) (number : ℕ) (type : FieldType) (slot : Slot)
    → slice_get types number ≡ Some type
    → slice_get slots number ≡ Some slot
    → load_fields_from site number (drop number types) (drop number slots)
    ≡ (load_field site number type slot ∷ []) ++ load_fields_from site (number + 1) (drop (number + 1) types) (drop (number + 1) slots)
loads_there site types slots number type slot is there =
    let next : suc number ≡ number + 1 = omega arith in
    ap (λ (list : List FieldType). load_fields_from site number list (drop number slots)) (drop_item types number type is)
    ∙ ap (λ (list : List Slot). load_fields_from site number (type ∷ drop (number + 1) types) list) (drop_item slots number slot there)
    ∙ ap (λ (n : ℕ). load_field site number type slot ∷ load_fields_from site n (drop (number + 1) types) (drop (number + 1) slots)) next

no_slots : (site number : ℕ) (types : List FieldType) → load_fields_from site number types [] ≡ []
no_slots site number [] = refl
no_slots site number (type ∷ types) = refl

pub loads_end : (site : ℕ) (types : List FieldType) (slots : List Slot) (number : ℕ)
    → length slots ≤ number
    → load_fields_from site number (drop number types) (drop number slots) ≡ []
loads_end site types slots number end =
    ap (load_fields_from site number (drop number types)) (drop_all number slots end) ∙ no_slots site number (drop number types)

pub loads_past : (site : ℕ) (types : List FieldType) (slots : List Slot) (number : ℕ)
    → slice_get types number ≡ None
    → load_fields_from site number (drop number types) (drop number slots) ≡ []
loads_past site types slots number is =
    ap (λ (list : List FieldType). load_fields_from site number list (drop number slots)) (drop_all number types (none_behind types number is))

-- ---- the first so many slots

pub taken_slot : {A : Type 0} (items : List A) (count at : ℕ) → at < count → slice_get (take count items) at ≡ slice_get items at
taken_slot items zero at less = absurd (omega (arith, less))
taken_slot [] (suc count) at less = refl
taken_slot (item ∷ items) (suc count) zero less = refl
taken_slot (item ∷ items) (suc count) (suc at) less = taken_slot items count at (omega (arith, less))

pub few_taken : {A : Type 0} (items : List A) (count : ℕ) → length (take count items) ≤ count
few_taken items zero = omega arith
few_taken [] (suc count) = omega arith
few_taken (item ∷ items) (suc count) = let rest = few_taken items count in omega arith

-- ---- monitors

pub enters_there : (site depth at : ℕ) → at < depth
    → enters site (depth - at) ≡ (load kinds.Ref (object_unit site) ∷ plain Enter ∷ []) ++ enters site (depth - (at + 1))
enters_there site depth at less =
    let next : depth - at ≡ suc (depth - (at + 1)) = omega (arith, less) in
    ap (enters site) next

pub enters_end : (site depth at : ℕ) → depth ≤ at → enters site (depth - at) ≡ []
enters_end site depth at end =
    let none : depth - at ≡ 0 = omega (arith, end) in
    ap (enters site) none

-- ---- the slots of local units at a point

pub record IsTypedPoint (flat : FlatCode) (at : ℕ) (types : Frame) : Type 0 where
  pub point : Point
  pub there : point_at flat at ≡ Some point
  pub typed : point.typed ≡ types

pub typed_point : (flat : FlatCode) (at : ℕ) (types : Frame) → option_map (λ (point : Point). point.typed) (point_at flat at) ≡ Some types → IsTypedPoint flat at types
typed_point flat at types is = by (point_at flat at) refl is where
  by : (found : Option Point) → point_at flat at ≡ found → option_map (λ (point : Point). point.typed) found ≡ Some types → IsTypedPoint flat at types
  by None there same = absurd (none-some types same)
  by (Some point) there same = record { point = point; there = there; typed = same_Some point.typed types same }

pub slots_at : (flat : FlatCode) (at : ℕ) (state : State) (types : Frame) → IsTypedPoint flat at types → local_slots_in (point_at flat at) state ≡ take (length types.locals) state.slots
slots_at flat at state types is =
    ap (λ (found : Option Point). local_slots_in found state) is.there
    ∙ ap (λ (frame : Frame). take (length frame.locals) state.slots) is.typed

pub few_local_slots : (flat : FlatCode) (at : ℕ) (state : State) (types : Frame) (unit : ℕ)
    → IsTypedPoint flat at types
    → length types.locals ≤ unit
    → length (local_slots_in (point_at flat at) state) ≤ unit
few_local_slots flat at state types unit is end =
    subst (λ (slots : List Slot). length slots ≤ unit) (sym (slots_at flat at state types is))
    (let few = few_taken state.slots (length types.locals) in omega (arith, few, end))

pub slot_at : (flat : FlatCode) (at : ℕ) (state : State) (types : Frame) (unit : ℕ)
    → IsTypedPoint flat at types
    → unit < length types.locals
    → slice_get (local_slots_in (point_at flat at) state) unit ≡ slice_get state.slots unit
slot_at flat at state types unit is less =
    ap (λ (slots : List Slot). slice_get slots unit) (slots_at flat at state types is) ∙ taken_slot state.slots (length types.locals) unit less

pub entries_are : (flat : FlatCode) (at : ℕ) (state : State) (types : Frame) → IsTypedPoint flat at types
    → entries_at flat at state ≡ entries_from 0 0 types.stack (drop (length types.locals) state.slots)
entries_are flat at state types is =
    ap (λ (found : Option Point). entries_in found state) is.there
    ∙ ap (λ (frame : Frame). entries_from 0 0 frame.stack (drop (length frame.locals) state.slots)) is.typed

-- the units of the stack at a point have numbers of 16 bits
pub few_stack : (flat : FlatCode) (at : ℕ) (types : Frame) → IsTypedPoint flat at types → written_units flat ≤ 65535 → depth types.stack ≤ 65535
few_stack flat at types is few =
    let deep = subst (λ (frame : Frame). depth frame.stack ≤ greatest_depth flat.points) is.typed (no_deeper flat.points at is.point is.there) in
    omega (arith, few, deep)
