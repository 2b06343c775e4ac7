-- The rows of the code as those of the table.
use Rattle.std.specs.Prelude.{ℕ, List, [], ◌∷◌, ◌++◌, map, length, slice_set, Option, Some, None, option_map}
use Rattle.class_model.specs.Descriptors.{parameters_of}
use Rattle.class_model.specs.Pool.{Constants}
use Rattle.class_model.specs.PoolChecks.{descriptor_at}
use Rattle.class_model.specs.declared.frame.Frame.{Frame}
use Rattle.class_model.specs.declared.pool.Const.{Const as PoolConst}
use Rattle.class_model.specs.declared.pool.Const.TheVariants as consts
use Rattle.member_link.specs.Rows.ShuffleRows as meant
use Rattle.plan_flow.specs.PlanRows.{Source, plain_value, from_place, from_field, from_new, Change, no_change, new_object, put_field, enter_monitor, leave_monitor, Guard, in_each_state, where_plain, where_may_be_same, where_may_differ, Position, PlanRow}
use Rattle.plan_flow.specs.PlanSlots.{held}
use Rattle.plan_flow.specs.PlanTable.{operand, held_from, held_locals, throwing, operands_asked, failing_cast, calling, picked_operands}
use Rattle.plan_flow.specs.declared.edge.EdgeKind.{EdgeKind}
use Rattle.plan_flow.specs.declared.edge.EdgeKind.TheVariants as kinds
use Rattle.plan_flow.specs.declared.rows.Asks.{Asks}
use Rattle.plan_flow.specs.declared.rows.Asks.TheVariants as asked
use Rattle.plan_flow.specs.declared.rows.Change.{Change as CodeChange}
use Rattle.plan_flow.specs.declared.rows.Change.TheVariants as changes
use Rattle.plan_flow.specs.declared.rows.Gives.{Gives}
use Rattle.plan_flow.specs.declared.rows.Gives.TheVariants as gives
use Rattle.plan_flow.specs.declared.rows.Guard.{Guard as CodeGuard}
use Rattle.plan_flow.specs.declared.rows.Guard.TheVariants as guards
use Rattle.plan_flow.specs.declared.rows.Row.{Row}
use Rattle.plan_flow.specs.declared.rows.Source.{Source as CodeSource}
use Rattle.plan_flow.specs.declared.rows.Source.TheVariants as sources
use Rattle.plan_flow.specs.declared.shuffles.Form.{Form}
use Rattle.plan_flow.specs.declared.shuffles.Width.{Width}
use Rattle.plan_flow.specs.declared.shuffles.Width.TheVariants as widths
use Rattle.virtual_state.specs.States.{State}
use Rattle.virtual_state.specs.declared.slot.Slot.{Slot}

-- ---- forms of instructions that move stack entries

abbrev pub width_meant : Width → meant.Width
width_meant widths.One = meant.one
width_meant widths.Two = meant.two

abbrev pub form_meant : Form → meant.Form
form_meant form = record { takes = map width_meant form.takes.now; gives = form.gives.now }

-- ---- parts of rows

abbrev pub source_of : CodeSource → Source
source_of sources.Plain = plain_value
source_of (sources.Place place) = from_place place
source_of (sources.Field place field) = from_field place field
source_of sources.New = from_new

abbrev pub given_by : Frame → Gives → List Source
given_by f gives.Nothing = []
given_by f (gives.One source) = source_of source ∷ []
given_by f (gives.Operands form) = picked_operands f (length form.takes.now) form.gives.now

abbrev pub change_of : CodeChange → Change
change_of changes.Nothing = no_change
change_of (changes.New site) = new_object site
change_of (changes.Put place field value) = put_field place field value
change_of (changes.Enter place) = enter_monitor place
change_of (changes.Leave place) = leave_monitor place

abbrev pub guard_of : CodeGuard → Guard
guard_of guards.Always = in_each_state
guard_of (guards.Plain place) = where_plain place
guard_of (guards.Same one other) = where_may_be_same one other
guard_of (guards.Different one other) = where_may_differ one other

abbrev pub asked_by : Frame → Asks → List Position
asked_by f (asked.Operands count) = operands_asked f count
asked_by f (asked.NotBelow name) = failing_cast f name

abbrev pub locals_behind : Frame → Option ℕ → List Source
locals_behind f None = held_locals f
locals_behind f (Some local) = slice_set (held_locals f) local (from_place (operand f 0))

-- ---- rows

abbrev pub plan_row : Frame → Row → PlanRow
plan_row f row = record {
  asks = asked_by f row.asks;
  locals = locals_behind f row.stored;
  stack = held_from (length f.locals) row.kept ++ given_by f row.gives;
  change = change_of row.change;
  next = guard_of row.next;
  jump = guard_of row.jump;
  throws = option_map guard_of row.throws;
}

-- the row of an instruction that keeps so many stack entries and gives others
abbrev pub moving_row : ℕ → Gives → Row
moving_row kept given = record {
  asks = asked.Operands 0;
  stored = None;
  kept = kept;
  gives = given;
  change = changes.Nothing;
  next = guards.Always;
  jump = guards.Always;
  throws = None;
}

-- ---- constants

-- the descriptor of an InvokeDynamic constant
abbrev pub dynamic_desc : Constants → Option PoolConst → Option (List ℕ)
dynamic_desc pool (Some (consts.InvokeDynamic bootstrap member)) = descriptor_at pool member
dynamic_desc pool constant = None

-- the row of an invokedynamic with a descriptor
abbrev pub described_row : Frame → Option (List ℕ) → PlanRow
described_row f None = throwing f 0 []
described_row f (Some desc) = calling f (length (parameters_of desc)) desc

-- ---- local units that are stored into

-- a handler begins with the local units before the instruction
abbrev pub stored_by : Option ℕ → EdgeKind → Option ℕ
stored_by stored (kinds.Handler number) = None
stored_by stored by = stored

abbrev pub stored_slots : State → Frame → Option ℕ → List Slot → List Slot
stored_slots state f None slots = slots
stored_slots state f (Some local) slots = slice_set slots local (held state (operand f 0))
