-- What is known of a planned frame that waits: that control goes on behind a result, and that what it waits for may throw only where the row of its
-- instruction says so.
use Rattle.std.specs.Prelude.{◌≡◌, ◌≤◌, ◌+◌, ◌-◌, ◌++◌, ℕ, Bool, false, true, List, length, map, slice_get, Option, Some, None, IsTrue}
use Rattle.class_model.specs.declared.frame.VType.{VType}
use Rattle.class_model.specs.declared.instr.Instr.{Instr}
use Rattle.class_model.specs.declared.instr.Instr.TheVariants.{Goto, If, If2, IfNull, IfSame, Lookup, Table}
use Rattle.flow_code.specs.declared.point.Point.{Point}
use Rattle.machine_values.specs.Frames.{MethodState}
use Rattle.member_link.specs.Machine.Acting.{Pending, pending_of}
use Rattle.member_link.specs.Machine.Ops.{Op}
use Rattle.member_link.specs.Machine.Programs.{Point as RunPoint, point_at}
use Rattle.plan_flow.specs.Must.{row_of_point}
use Rattle.plan_flow.specs.PlanRows.{Guard, RowEdge, Source}
use Rattle.plan_flow.specs.PlanScope.{PlanScope}
use Rattle.plan_flow.specs.PlanSlots.{edge_locals, edge_objects, edge_stack, is_open, slots_from}
use Rattle.plan_flow.specs.PlanTable.{falls_on, held_from}
use Rattle.plan_flow.specs.ReadyForPlans.{KeepsType, place_types}
use Rattle.plan_flow.specs.Written.Blocks.{state_written}
use Rattle.plan_flow.specs.Written.Routes.{Route}
use Rattle.plan_flow.specs.Written.WrittenPrograms.{WrittenMethod, plan_scope}
use Rattle.plan_flow.specs.declared.edge.EdgeKind.TheVariants as edges
use Rattle.virtual_state.specs.States.{State}
use Rattle.virtual_state.specs.declared.slot.Slot.TheVariants.{Plain}
use Rattle.written_runs.specs.Inner.Setup.{Setup, first}

-- ---- what the row of an instruction says

-- an edge on which the locals stay, so many operands are gone, and plain values are given; no virtual object changes
pub record LeavesLocals (s : PlanScope) (at : ℕ) (point : Point) (before : State) (row : RowEdge) (taken : ℕ) (given : List Source)
    : Type 0 where
  pub enough : taken ≤ length point.typed.stack
  pub locals : edge_locals (row_of_point s at point) (length point.typed.locals) row.by ≡ held_from 0 (length point.typed.locals)
  pub stack : edge_stack (row_of_point s at point) row.by
      ≡ held_from (length point.typed.locals) (length point.typed.stack - taken) ++ given
  pub plain : slots_from s before (row_of_point s at point).change given ≡ map (λ source. Plain) given
  pub objects : edge_objects s before (row_of_point s at point) row.by ≡ before.objects

-- of the stack so many entries are left, and behind a result control goes on to the next point
pub record WaitsThere (s : PlanScope) (at : ℕ) (point : Point) (before : State) (count : ℕ) : Type 0 where
  pub falls : falls_on point.instr ≡ true
  pub opens : is_open before (row_of_point s at point).next ≡ true
  pub taken : ℕ
  pub many : count ≡ length point.typed.stack - taken
  pub given : List Source
  pub leaves : LeavesLocals s at point before (record { by = edges.Next; to = at + 1; guard = (row_of_point s at point).next }) taken given
  pub none_given : (number : ℕ) (type : VType) (source : Source)
      → slice_get given number ≡ Some source
      → KeepsType at (place_types point.typed) type source
      → ⊥

-- an instruction may throw, by its row, in the state in which it is written
pub record ThrowsThere (s : PlanScope) (at : ℕ) (point : Point) (route : Route) : Type 0 where
  pub guard : Guard
  pub throws : (row_of_point s at point).throws ≡ Some guard
  pub opens : is_open (state_written route) guard ≡ true

-- ---- instructions that do not jump

abbrev pub IsNoJump : Instr → Type 0
IsNoJump (If opcode to) = ⊥
IsNoJump (If2 opcode to) = ⊥
IsNoJump (IfSame opcode to) = ⊥
IsNoJump (IfNull opcode to) = ⊥
IsNoJump (Goto to) = ⊥
IsNoJump (Table low other to) = ⊥
IsNoJump (Lookup other pairs) = ⊥
IsNoJump instr = Unit {0}

-- ---- frames that wait

-- what an instruction waits for may throw
abbrev pub may_throw : Op → Bool
may_throw op = of_pending (pending_of op) where
  of_pending : Option Pending → Bool
  of_pending None = false
  of_pending (Some pending) = pending.may_throw

-- a frame of flat code waits at a point, where this instruction stands
pub record Awaits (u : Setup) (one : WrittenMethod) (f : MethodState) (point : Point) (route : Route) (instr : Instr) : Type 0 where
  pub straight : IsNoJump instr
  pub at_point : RunPoint
  pub is_point : point_at (first u) f.at f.place ≡ Some at_point
  pub waits : WaitsThere (plan_scope u.classes u.links one) f.place point (state_written route) (length f.stack)
  pub throws : IsTrue (may_throw at_point.op) → ThrowsThere (plan_scope u.classes u.links one) f.place point route
