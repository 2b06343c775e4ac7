-- One place of a point.
use Rattle.std.specs.Prelude.{List, Option, Some, None, if◌then◌else◌}
use Rattle.class_model.specs.Frames.{is_top}
use Rattle.class_model.specs.declared.frame.VType.{VType}
use Rattle.virtual_state.specs.Making.{IsStateOf}
use Rattle.virtual_state.specs.States.{State, IsState}
use Rattle.virtual_state.specs.declared.slot.Slot.{Slot}
use Rattle.virtual_state.specs.declared.slot.Slot.TheVariants.{Plain, Unusable}
use Rattle.virtual_state.specs.declared.slot.VObject.{VObject}

-- a slot that may be missing
abbrev pub or_plain : Option Slot → Slot
or_plain None = Plain
or_plain (Some slot) = slot

-- a local unit of a type, if there is one
abbrev pub local_of : Option VType → Option Slot → Slot
local_of None slot = or_plain slot
local_of (Some type) slot = if is_top type then Unusable else or_plain slot

-- the state of slots and of the objects that they reach
pub record IsKept (slots : List Slot) (objects : List VObject) (state : State) : Type 0 where
  pub is_state : IsState state
  pub is : IsStateOf slots objects state
