-- One step of a run: an instruction of the top frame, or one step of a class's initialisation (JVM Specification SE 8, 2.6, 5.5 and 6.5).
-- At the library's turn the world stays.
use Rattle.std.specs.Prelude.{◌+◌, nat_le, ℕ, ℤ, Bool, true, false, List, [], ◌∷◌, length, take, drop, reverse, Option, Some, None, if◌then◌else◌}
use Rattle.class_model.specs.Descriptors.{kind_of}
use Rattle.class_model.specs.declared.descriptor.FieldType.{FieldType}
use Rattle.class_model.specs.declared.descriptor.Kind.{Kind}
use Rattle.class_model.specs.declared.descriptor.Kind.TheVariants as kinds
use Rattle.machine_values.specs.Frames.{MethodState}
use Rattle.machine_values.specs.declared.frame.RunFrame.{RunFrame}
use Rattle.machine_values.specs.declared.frame.RunFrame.TheVariants.{Library, Beginning, Method}
use Rattle.machine_values.specs.declared.value.Value.{Value}
use Rattle.machine_values.specs.declared.value.Value.TheVariants.{Int, Null, Ref}
use Rattle.member_link.specs.Machine.Beginnings.{beginning_step}
use Rattle.member_link.specs.Machine.Locals.{local_value, stored, incremented, shuffled, Jump, jump_of_int, jump_of_ints, jump_of_references, jump_of_null, table_target, lookup_target}
use Rattle.member_link.specs.Machine.Ops.{Op, no_operation, meaningless, load_local, store_local, increment_local, test_local, shuffle_stack, jump_by_int, jump_by_ints, jump_by_references, jump_by_null, jump_to, table_switch, lookup_switch, return_nothing, return_value}
use Rattle.member_link.specs.Machine.Performing.{perform, raised, returned, returned_value}
use Rattle.member_link.specs.Machine.Programs.{Program, Point, point_at}
use Rattle.member_link.specs.Machine.Throwables.{null_pointer}
use Rattle.machine_values.specs.Values.{has_kind}
use Rattle.member_link.specs.Machine.Work.{arity, work}
use Rattle.member_link.specs.Machine.Worlds.{World, stuck}

-- the run ends, and all else is as it was
abbrev pub ends_stuck : World → World
ends_stuck w = record w { halt = stuck }

-- the top frame goes on as this one
abbrev pub with_top : World → List RunFrame → MethodState → World
with_top w rest f = record w { frames = Method f ∷ rest }

-- ---- moves

-- the next instruction, with this stack
abbrev pub next_with : MethodState → List Value → MethodState
next_with f stack = record f { place = f.place + 1; stack = stack }

abbrev pub load_step : World → MethodState → List RunFrame → Option Value → World
load_step w f rest None = ends_stuck w
load_step w f rest (Some value) = with_top w rest (next_with f (value ∷ f.stack))

abbrev pub store_units :
    World → MethodState → List RunFrame → List Value → Option (List (Option Value)) → World
store_units w f rest stack None = ends_stuck w
store_units w f rest stack (Some units) =
    with_top w rest (record (next_with f stack) { locals = units })

abbrev pub store_step : World → MethodState → List RunFrame → Kind → ℕ → List Value → World
store_step w f rest kind at [] = ends_stuck w
store_step w f rest kind at (value ∷ stack) =
    if has_kind kind value
    then store_units w f rest stack (stored at value f.locals)
    else ends_stuck w

abbrev pub increment_step : World → MethodState → List RunFrame → ℕ → ℤ → Option Value → World
increment_step w f rest at by None = ends_stuck w
increment_step w f rest at by (Some value) =
    store_units w f rest f.stack (stored at (incremented by value) f.locals)

abbrev pub test_step : Program → World → MethodState → List RunFrame → Option Value → World
test_step P w f rest (Some Null) = raised P w null_pointer (Method f ∷ rest)
test_step P w f rest (Some (Ref reference)) = with_top w rest (next_with f f.stack)
test_step P w f rest other = ends_stuck w

abbrev pub shuffle_step : World → MethodState → List RunFrame → Option (List Value) → World
shuffle_step w f rest None = ends_stuck w
shuffle_step w f rest (Some stack) = with_top w rest (next_with f stack)

-- ---- control

abbrev pub jump_step : World → MethodState → List RunFrame → ℕ → Jump → World
jump_step w f rest to None = ends_stuck w
jump_step w f rest to (Some jump) =
    with_top w rest (record f { place = if jump.0 then to else f.place + 1; stack = jump.1 })

abbrev pub switch_step : World → MethodState → List RunFrame → (ℤ → ℕ) → List Value → World
switch_step w f rest target (Int key ∷ stack) =
    with_top w rest (record f { place = target key; stack = stack })
switch_step w f rest target stack = ends_stuck w

abbrev pub return_step :
    Program → World → MethodState → List RunFrame → FieldType → List Value → World
return_step P w f rest type [] = ends_stuck w
return_step P w f rest type (value ∷ stack) =
    if has_kind (kind_of type) value then returned_value P w f rest type value else ends_stuck w

-- ---- an operation

-- the operands are the topmost entries; where there are fewer the run ends
abbrev pub work_step : Program → World → MethodState → List RunFrame → Op → World
work_step P w f rest op =
    if nat_le (arity op) (length f.stack)
    then perform P w f (record f { stack = drop (arity op) f.stack }) rest
    (work P w.memory op (reverse (take (arity op) f.stack)))
    else ends_stuck w

abbrev pub op_step : Program → World → MethodState → List RunFrame → Op → World
op_step P w f rest no_operation = with_top w rest (next_with f f.stack)
op_step P w f rest meaningless = ends_stuck w
op_step P w f rest (load_local kind at) = load_step w f rest (local_value kind f.locals at)
op_step P w f rest (store_local kind at) = store_step w f rest kind at f.stack
op_step P w f rest (increment_local at by) =
    increment_step w f rest at by (local_value kinds.Int f.locals at)
op_step P w f rest (test_local at) = test_step P w f rest (local_value kinds.Ref f.locals at)
op_step P w f rest (shuffle_stack opcode) = shuffle_step w f rest (shuffled opcode f.stack)
op_step P w f rest (jump_by_int opcode to) = jump_step w f rest to (jump_of_int opcode f.stack)
op_step P w f rest (jump_by_ints opcode to) = jump_step w f rest to (jump_of_ints opcode f.stack)
op_step P w f rest (jump_by_references opcode to) =
    jump_step w f rest to (jump_of_references opcode f.stack)
op_step P w f rest (jump_by_null opcode to) = jump_step w f rest to (jump_of_null opcode f.stack)
op_step P w f rest (jump_to to) = with_top w rest (record f { place = to })
op_step P w f rest (table_switch low other targets) =
    switch_step w f rest (table_target low other targets) f.stack
op_step P w f rest (lookup_switch other pairs) =
    switch_step w f rest (lookup_target other pairs) f.stack
op_step P w f rest return_nothing = returned P w f rest []
op_step P w f rest (return_value type) = return_step P w f rest type f.stack
op_step P w f rest op = work_step P w f rest op

-- where no instruction stands the run ends
abbrev pub point_step : Program → World → MethodState → List RunFrame → Option Point → World
point_step P w f rest None = ends_stuck w
point_step P w f rest (Some point) = op_step P w f rest point.op

-- ---- a step

abbrev pub frames_step : Program → World → List RunFrame → World
frames_step P w [] = ends_stuck w
frames_step P w (Library made ∷ rest) = w
frames_step P w (Beginning class ∷ rest) = beginning_step P class w rest
frames_step P w (Method f ∷ rest) = point_step P w f rest (point_at P f.at f.place)

abbrev pub is_library_turn : List RunFrame → Bool
is_library_turn (Library made ∷ rest) = true
is_library_turn frames = false

-- a step is counted, but at the library's turn
abbrev pub step : Program → World → World
step P w =
    if is_library_turn w.frames
    then w
    else frames_step P (record w { steps = w.steps + 1 }) w.frames
