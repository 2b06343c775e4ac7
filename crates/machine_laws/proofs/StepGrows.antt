use Rattle.std.specs.Prelude.{◌≤◌, ◌+◌, nat_le, IfSome, ℕ, ℤ, Bool, true, false, List, [], ◌∷◌, length, take, drop, reverse, Option, Some, None, if◌then◌else◌}
use Rattle.std.proofs.Common.{arith, sym, subst}
use Rattle.std.proofs.lemmas.List.{length-reverse, length-take}
use Rattle.class_model.specs.declared.descriptor.FieldType.{FieldType}
use Rattle.class_model.specs.declared.descriptor.Kind.{Kind}
use Rattle.machine_values.specs.Frames.{MethodState}
use Rattle.machine_values.specs.declared.frame.RunFrame.{RunFrame}
use Rattle.machine_values.specs.declared.frame.RunFrame.TheVariants as frames
use Rattle.machine_values.specs.declared.value.Value.{Value}
use Rattle.machine_laws.proofs.Rises.{rises_grows, rises_bounded}
use Rattle.machine_laws.proofs.ShownGrows.{Goes, world_same, world_grows, goes_more, more}
use Rattle.machine_laws.proofs.TurnGrows.{of_frames, of_halt, returned_grows, raised_grows, beginning_grows, perform_grows}
use Rattle.machine_laws.proofs.WorkGrows.{FewOperands, work_grows}
use Rattle.member_link.specs.Machine.Bounds.{IsBounded, HasBoundedCounts, HasFewDimensions, NextHasFewDimensions}
use Rattle.machine_laws.specs.Growth.{WorldGrows}
use Rattle.class_model.specs.Descriptors.{kind_of}
use Rattle.class_model.specs.declared.descriptor.Kind.TheVariants as kinds
use Rattle.machine_values.specs.declared.value.Value.TheVariants as values
use Rattle.member_link.specs.Machine.Locals.{Jump, stored, incremented, local_value, shuffled, jump_of_int, jump_of_ints, jump_of_references, jump_of_null, table_target, lookup_target}
use Rattle.member_link.specs.Machine.Performing.{perform, returned_value}
use Rattle.member_link.specs.Machine.Throwables.{null_pointer}
use Rattle.machine_values.specs.Values.{has_kind, narrowed}
use Rattle.member_link.specs.Machine.Ops as ops
use Rattle.member_link.specs.Machine.Ops.{Op}
use Rattle.member_link.specs.Machine.Programs.{Program, Point, point_at}
use Rattle.member_link.specs.Machine.Stepping.{ends_stuck, load_step, store_units, store_step, increment_step, test_step, shuffle_step, jump_step, switch_step, return_step, work_step, op_step, point_step, frames_step, is_library_turn, step}
use Rattle.member_link.specs.Machine.Work.{arity, work}
use Rattle.member_link.specs.Machine.Worlds.{World, Halt}

pub load_grows : (w : World) (f : MethodState) (rest : List RunFrame) (v : Option Value) → Goes (Unit {0}) 1 w (load_step w f rest v)
load_grows w f rest None = of_halt w _
load_grows w f rest (Some v) = of_frames w _

pub store_units_grows : (w : World) (f : MethodState) (rest : List RunFrame) (s : List Value) (u : Option (List (Option Value))) → Goes (Unit {0}) 1 w (store_units w f rest s u)
store_units_grows w f rest s None = of_halt w _
store_units_grows w f rest s (Some u) = of_frames w _

pub either_grows : {F : Type 0} {k : ℕ} {w : World} (b : Bool) (c d : World) → Goes F k w c → Goes F k w d → Goes F k w (if b then c else d)
either_grows true c d g h = g
either_grows false c d g h = h

pub stuck_grows : {F : Type 0} (w : World) → Goes F 1 w (ends_stuck w)
stuck_grows w = of_halt w _

pub store_grows : (w : World) (f : MethodState) (rest : List RunFrame) (k : Kind) (at : ℕ) (s : List Value) → Goes (Unit {0}) 1 w (store_step w f rest k at s)
store_grows w f rest k at [] = of_halt w _
store_grows w f rest k at (v ∷ s) =
    either_grows (has_kind k v) (store_units w f rest s (stored at v f.locals)) (ends_stuck w) (store_units_grows w f rest s (stored at v f.locals)) (stuck_grows w)

pub increment_grows : (w : World) (f : MethodState) (rest : List RunFrame) (at : ℕ) (by : ℤ) (v : Option Value) → Goes (Unit {0}) 1 w (increment_step w f rest at by v)
increment_grows w f rest at by None = of_halt w _
increment_grows w f rest at by (Some v) = store_units_grows w f rest f.stack (stored at (incremented by v) f.locals)

pub test_grows : (P : Program) (w : World) (f : MethodState) (rest : List RunFrame) (v : Option Value) → Goes (Unit {0}) 1 w (test_step P w f rest v)
test_grows P w f rest (Some values.Null) = more (raised_grows P w null_pointer (frames.Method f ∷ rest))
test_grows P w f rest (Some (values.Ref r)) = of_frames w _
test_grows P w f rest other = stuck_grows w

pub shuffle_grows : (w : World) (f : MethodState) (rest : List RunFrame) (s : Option (List Value)) → Goes (Unit {0}) 1 w (shuffle_step w f rest s)
shuffle_grows w f rest None = of_halt w _
shuffle_grows w f rest (Some s) = of_frames w _

pub jump_grows : (w : World) (f : MethodState) (rest : List RunFrame) (to : ℕ) (j : Jump) → Goes (Unit {0}) 1 w (jump_step w f rest to j)
jump_grows w f rest to None = of_halt w _
jump_grows w f rest to (Some j) = of_frames w _

pub switch_grows : (w : World) (f : MethodState) (rest : List RunFrame) (target : ℤ → ℕ) (s : List Value) → Goes (Unit {0}) 1 w (switch_step w f rest target s)
switch_grows w f rest target (values.Int key ∷ s) = of_frames w _
switch_grows w f rest target other = stuck_grows w

pub return_grows : (P : Program) (w : World) (f : MethodState) (rest : List RunFrame) (t : FieldType) (s : List Value) → Goes (Unit {0}) 1 w (return_step P w f rest t s)
return_grows P w f rest t [] = of_halt w _
return_grows P w f rest t (v ∷ s) =
    either_grows (has_kind (kind_of t) v) (returned_value P w f rest t v) (ends_stuck w) (more (returned_grows P w f rest (narrowed t v ∷ []))) (stuck_grows w)

-- an operation takes no more operands than its array of arrays has dimensions
pub few_operands : (op : Op) (stack : List Value) → HasFewDimensions op → FewOperands op (reverse (take (arity op) stack))
few_operands (ops.new_arrays d n) stack few = omega (arith, few, length-reverse (take n stack), length-take n stack)
few_operands op stack few = tt

pub work_step_grows : (P : Program) (w : World) (f : MethodState) (rest : List RunFrame) (op : Op) → Goes (HasFewDimensions op) 1 w (work_step P w f rest op)
work_step_grows P w f rest op =
    either_grows (nat_le (arity op) (length f.stack))
    (perform P w f (record f { stack = drop (arity op) f.stack }) rest (work P w.memory op (reverse (take (arity op) f.stack)))) (ends_stuck w)
    (goes_more 1 (omega arith) (few_operands op f.stack)
    (perform_grows P w f (record f { stack = drop (arity op) f.stack }) rest (work P w.memory op (reverse (take (arity op) f.stack))) (work_grows P w.memory op _)))
    (stuck_grows w)

pub op_grows : (P : Program) (w : World) (f : MethodState) (rest : List RunFrame) (op : Op) → Goes (HasFewDimensions op) 1 w (op_step P w f rest op)
op_grows P w f rest ops.no_operation = of_frames w _
op_grows P w f rest ops.meaningless = stuck_grows w
op_grows P w f rest (ops.load_local kind at) = load_grows w f rest (local_value kind f.locals at)
op_grows P w f rest (ops.store_local kind at) = store_grows w f rest kind at f.stack
op_grows P w f rest (ops.increment_local at by) = increment_grows w f rest at by (local_value kinds.Int f.locals at)
op_grows P w f rest (ops.test_local at) = test_grows P w f rest (local_value kinds.Ref f.locals at)
op_grows P w f rest (ops.shuffle_stack opcode) = shuffle_grows w f rest (shuffled opcode f.stack)
op_grows P w f rest (ops.jump_by_int opcode to) = jump_grows w f rest to (jump_of_int opcode f.stack)
op_grows P w f rest (ops.jump_by_ints opcode to) = jump_grows w f rest to (jump_of_ints opcode f.stack)
op_grows P w f rest (ops.jump_by_references opcode to) = jump_grows w f rest to (jump_of_references opcode f.stack)
op_grows P w f rest (ops.jump_by_null opcode to) = jump_grows w f rest to (jump_of_null opcode f.stack)
op_grows P w f rest (ops.jump_to to) = of_frames w _
op_grows P w f rest (ops.table_switch low other targets) = switch_grows w f rest (table_target low other targets) f.stack
op_grows P w f rest (ops.lookup_switch other pairs) = switch_grows w f rest (lookup_target other pairs) f.stack
op_grows P w f rest ops.return_nothing = more (returned_grows P w f rest [])
op_grows P w f rest (ops.return_value type) = return_grows P w f rest type f.stack
op_grows P w f rest op = work_step_grows P w f rest op

pub point_grows : (P : Program) (w : World) (f : MethodState) (rest : List RunFrame) (p : Option Point) → Goes (IfSome p (λ point. HasFewDimensions point.op)) 1 w (point_step P w f rest p)
point_grows P w f rest None = stuck_grows w
point_grows P w f rest (Some p) = op_grows P w f rest p.op

pub frames_grows : (P : Program) (w : World) (fs : List RunFrame) → Goes (NextHasFewDimensions P fs) 1 w (frames_step P w fs)
frames_grows P w [] = stuck_grows w
frames_grows P w (frames.Library made ∷ rest) = world_same 1 w
frames_grows P w (frames.Beginning class ∷ rest) = more (beginning_grows P class w rest)
frames_grows P w (frames.Method f ∷ rest) = point_grows P w f rest (point_at P f.at f.place)

-- ---- a step

-- What a turn does: the world grows, a step more is counted at most, and if a premise holds the counts stay within bounds.
pub record Turned (F : Type 0) (before after : World) : Type 0 where
  pub grows : WorldGrows before after
  pub bounded : F → HasBoundedCounts before → HasBoundedCounts after
  pub steps : after.steps ≤ before.steps + 1

pub turned_same : {F : Type 0} (w : World) → Turned F w w
turned_same w = record { grows = world_grows (world_same {F = Unit {0}} 0 w); bounded = λ f is. is; steps = omega arith }

-- the run ends, and all else is as it was
pub turned_halt : {F : Type 0} (w : World) (h : Halt) → Turned F w (record w { halt = h })
turned_halt w h = record { grows = world_grows (of_halt {F = Unit {0}} {k = 0} w h); bounded = λ f is. is; steps = omega arith }

-- a step is counted, and then what it does
pub turned_step : {F : Type 0} (w v : World) → Goes F 1 (record w { steps = w.steps + 1 }) v → Turned F w v
turned_step {F = F} w v p = record {
  grows = record {
    memory = rises_grows p.memory;
    known = p.known;
    events = p.events;
    steps = omega (arith, p.steps);
  };
  bounded = λ f is. subst (IsBounded v.memory) (sym p.steps) (rises_bounded w.steps f p.memory is);
  steps = omega (arith, p.steps);
}

pub either_turned : {F : Type 0} {w : World} (b : Bool) (c d : World) → Turned F w c → Turned F w d → Turned F w (if b then c else d)
either_turned true c d p q = p
either_turned false c d p q = q

pub step_grows : (P : Program) (w : World) → Turned (NextHasFewDimensions P w.frames) w (step P w)
step_grows P w =
    either_turned (is_library_turn w.frames) w (frames_step P (record w { steps = w.steps + 1 }) w.frames) (turned_same w)
    (turned_step w _ (frames_grows P (record w { steps = w.steps + 1 }) w.frames))
