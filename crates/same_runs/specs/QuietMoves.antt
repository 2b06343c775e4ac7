-- What the frame alone tells: moves of values, jumps, and pushes of values by themselves. They leave the memory and all other frames as they
-- are, and show nothing, so that any number of them is quiet.
use Rattle.std.specs.Prelude.{◌+◌, ℕ, zero, suc, ℤ, List, [], ◌∷◌, slice_get, Option, Some, None, option_map, option_and_then, if◌then◌else◌}
use Rattle.class_model.specs.declared.descriptor.Kind.{Kind}
use Rattle.class_model.specs.declared.descriptor.Kind.TheVariants as kinds
use Rattle.machine_values.specs.Frames.{MethodState}
use Rattle.machine_values.specs.Values.{has_kind}
use Rattle.machine_values.specs.declared.value.Value.{Value}
use Rattle.machine_values.specs.declared.value.Value.TheVariants.{Int, Ref}
use Rattle.member_link.specs.Machine.Locals.{Jump, incremented, jump_of_int, jump_of_ints, jump_of_null, jump_of_references, local_value, lookup_target, shuffled, stored, table_target}
use Rattle.member_link.specs.Machine.Ops.{Op, no_operation, push_value, load_local, store_local, increment_local, test_local, shuffle_stack, jump_by_int, jump_by_ints, jump_by_references, jump_by_null, jump_to, table_switch, lookup_switch}
use Rattle.member_link.specs.Machine.Programs.{Code, Point}
use Rattle.member_link.specs.Machine.Stepping.{next_with}

-- ---- one operation

-- the next instruction, with this value on top
abbrev pub pushed : MethodState → Value → MethodState
pushed f value = next_with f (value ∷ f.stack)

-- the next instruction, with this value in its local units, if they are there
abbrev pub kept : MethodState → List Value → ℕ → Value → Option MethodState
kept f stack at value =
    option_map (λ units. record (next_with f stack) { locals = units }) (stored at value f.locals)

-- the topmost value is stored, if it is of the kind
abbrev pub popped : MethodState → Kind → ℕ → List Value → Option MethodState
popped f kind at [] = None
popped f kind at (value ∷ stack) = if has_kind kind value then kept f stack at value else None

-- a local is tested: null raises an exception
abbrev pub tested : MethodState → Option Value → Option MethodState
tested f (Some (Ref reference)) = Some (next_with f f.stack)
tested f value = None

-- where the jump leads, or the next instruction
abbrev pub jumped : MethodState → ℕ → Jump → Option MethodState
jumped f to jump =
    option_map (λ j. record f { place = if j.0 then to else f.place + 1; stack = j.1 }) jump

abbrev pub switched : MethodState → (ℤ → ℕ) → List Value → Option MethodState
switched f target (Int key ∷ stack) = Some (record f { place = target key; stack = stack })
switched f target stack = None

-- The frame behind a move, a jump or a push of a value by itself; none behind another operation, and where this one is stuck or raises.
abbrev pub moved_by : MethodState → Op → Option MethodState
moved_by f no_operation = Some (next_with f f.stack)
moved_by f (push_value value) = Some (pushed f value)
moved_by f (load_local kind at) = option_map (pushed f) (local_value kind f.locals at)
moved_by f (store_local kind at) = popped f kind at f.stack
moved_by f (increment_local at by) =
    option_and_then (λ value. kept f f.stack at (incremented by value))
    (local_value kinds.Int f.locals at)
moved_by f (test_local at) = tested f (local_value kinds.Ref f.locals at)
moved_by f (shuffle_stack opcode) = option_map (next_with f) (shuffled opcode f.stack)
moved_by f (jump_by_int opcode to) = jumped f to (jump_of_int opcode f.stack)
moved_by f (jump_by_ints opcode to) = jumped f to (jump_of_ints opcode f.stack)
moved_by f (jump_by_references opcode to) = jumped f to (jump_of_references opcode f.stack)
moved_by f (jump_by_null opcode to) = jumped f to (jump_of_null opcode f.stack)
moved_by f (jump_to to) = Some (record f { place = to })
moved_by f (table_switch low other targets) =
    switched f (table_target low other targets) f.stack
moved_by f (lookup_switch other pairs) = switched f (lookup_target other pairs) f.stack
moved_by f op = None

-- ---- one after the other

abbrev pub moved_at : MethodState → Option Point → Option MethodState
moved_at f None = None
moved_at f (Some point) = moved_by f point.op

-- The frame behind so many operations of a code, from the frame's place on, each of which only moves, jumps or pushes; none where one of
-- them does not.
abbrev pub moves : Code → ℕ → MethodState → Option MethodState
moves code zero f = Some f
moves code (suc count) f =
    option_and_then (moves code count) (moved_at f (slice_get code.points f.place))
