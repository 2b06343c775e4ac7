-- What written code has at a point of flat code in a state of virtual objects: the types that frames state there. It is this project's profile.
use Rattle.std.specs.Prelude.{ℕ, ◌-◌, Bool, true, false, List, [], ◌∷◌, ◌++◌, drop, length, map, replicate, Option, Some, None, if◌then◌else◌}
use Rattle.std.specs.List.{flat_map}
use Rattle.class_model.specs.Code.{verification_type}
use Rattle.class_model.specs.Descriptors.{kind_of, parameter_units, units_of}
use Rattle.class_model.specs.Frames.{is_top, units}
use Rattle.class_model.specs.contracts.frame.VTypePartialEq.TheImpl.{ghosts as comparison}
use Rattle.class_model.specs.declared.descriptor.FieldType.{FieldType}
use Rattle.class_model.specs.declared.frame.Frame.{Frame}
use Rattle.class_model.specs.declared.frame.VType.{VType}
use Rattle.class_model.specs.declared.frame.VType.TheVariants.{Top}
use Rattle.flow_code.specs.FlatCode.{FlatCode, point_at}
use Rattle.flow_code.specs.ReadTypes.{read_type}
use Rattle.flow_code.specs.WrittenUnits.{greatest_depth}
use Rattle.flow_code.specs.declared.point.Point.{Point}
use Rattle.flow_code.specs.declared.point.Site.{Site}
use Rattle.virtual_state.specs.States.{State, is_present}
use Rattle.virtual_state.specs.declared.slot.Slot.{Slot}
use Rattle.virtual_state.specs.declared.slot.Slot.TheVariants.{Plain, Virt, Unusable}

-- ---- local units

-- a plain unit of the flat code has its type at the typed point, read; a virtual object is in no unit of it
abbrev pub type_of_slot : FlatCode → VType → Slot → VType
type_of_slot flat type Plain = read_type flat type
type_of_slot flat type (Virt site) = Top
type_of_slot flat type Unusable = Top

abbrev pub local_types_from : FlatCode → List VType → List Slot → List VType
local_types_from flat [] slots = []
local_types_from flat (type ∷ types) [] = []
local_types_from flat (type ∷ types) (slot ∷ slots) =
    type_of_slot flat type slot ∷ local_types_from flat types slots

-- the field units of a site that is present have the declared types; those of another site have none
abbrev pub field_types : Bool → List FieldType → List VType
field_types true types = flat_map (λ type. units (verification_type type)) types
field_types false types = replicate (parameter_units types) Top

abbrev pub site_types_from : State → ℕ → List Site → List VType
site_types_from state number [] = []
site_types_from state number (site ∷ sites) =
    field_types (is_present state.objects number) site.fields
    ++ site_types_from state (ℕ.suc number) sites

-- ---- the stack

-- the plain entries
abbrev pub entry_types_by : Slot → VType → List VType → List VType
entry_types_by Plain type types = type ∷ types
entry_types_by (Virt site) type types = types
entry_types_by Unusable type types = types

abbrev pub entry_types_from : FlatCode → List VType → List Slot → List VType
entry_types_from flat [] slots = []
entry_types_from flat (type ∷ types) [] = []
entry_types_from flat (type ∷ types) (slot ∷ slots) =
    entry_types_by slot (read_type flat type) (entry_types_from flat types slots)

-- ---- the frame

abbrev pub frame_in : FlatCode → Option Point → State → Frame
frame_in flat None state = record { locals = []; stack = [] }
frame_in flat (Some point) state = record {
  locals = local_types_from flat point.typed.locals state.slots
      ++ site_types_from state 0 flat.sites
      ++ replicate (length flat.sites) Top
      ++ replicate (greatest_depth flat.points) Top;
  stack = entry_types_from flat point.typed.stack
      (drop (length point.typed.locals) state.slots);
}

-- Before the point of a number. An uninitialised object is named by the point of its new.
abbrev pub state_frame : FlatCode → ℕ → State → Frame
state_frame flat at state = frame_in flat (point_at flat at) state

-- ---- frames that differ

-- in some place the later type is not Top, and the earlier one is another
abbrev pub differs_in : List VType → List VType → Bool
differs_in [] others = false
differs_in (type ∷ types) [] = false
differs_in (type ∷ types) (other ∷ others) =
    if is_top other then differs_in types others
    else if comparison.eq type other then differs_in types others
    else true

abbrev pub differ : Frame → Frame → Bool
differ one later =
    if differs_in one.locals later.locals then true else differs_in one.stack later.stack
