-- What the local units of a state hold.
use Rattle.std.specs.Prelude.{◌≡◌, ◌+◌, ◌<◌, ◌++◌, ℕ, zero, suc, List, [], ◌∷◌, map, length, take, slice_get, Option, Some, None}
use Rattle.class_model.specs.Frames.{is_top}
use Rattle.class_model.specs.declared.frame.Frame.{Frame}
use Rattle.class_model.specs.declared.frame.VType.{VType}
use Rattle.plan_flow.specs.Inner.RowViews.{stored_slots}
use Rattle.plan_flow.specs.PlanSlots.{held}
use Rattle.plan_flow.specs.PlanTable.{operand}
use Rattle.virtual_state.specs.Gaps.{true_from}
use Rattle.virtual_state.specs.States.{State}
use Rattle.virtual_state.specs.declared.slot.Slot.{Slot}

-- what so many places hold, from one on
abbrev pub held_slots : State → ℕ → ℕ → List Slot
held_slots state first zero = []
held_slots state first (suc count) = held state first ∷ held_slots state (first + 1) count

-- the same of the local units, where the topmost operand may be stored into one
abbrev pub locals_held : State → Frame → Option ℕ → List Slot
locals_held state f stored = stored_slots state f stored (held_slots state 0 (length f.locals))

-- ---- local units that stay as they are

-- the local units that are Top, among so many
abbrev pub tops_before : List VType → ℕ → List ℕ
tops_before types count = true_from 0 (map is_top (take count types))

-- the first one from one on, before an end
pub record IsNextTop (types : List VType) (from end : ℕ) (next : Option ℕ) : Type 0 where
  pub some : (at : ℕ)
      → next ≡ Some at
      → (at < end) × (tops_before types (at + 1) ≡ tops_before types from ++ at ∷ [])
  pub none : next ≡ None → tops_before types end ≡ tops_before types from

-- the local unit that is stored into holds before what is stored
pub record KeepsSlot (front : List Slot) (state : State) (f : Frame) (stored : Option ℕ)
    : Type 0 where
  pub each : (local : ℕ) (slot : Slot)
      → stored ≡ Some local
      → slice_get front local ≡ Some slot
      → slot ≡ held state (operand f 0)
