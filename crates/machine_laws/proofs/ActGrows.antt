use Rattle.std.specs.Prelude.{◌≤◌, ◌+◌, ◌&&◌, not, nat_le, ℕ, ℤ, pos, negsuc, zero, suc, Bool, true, false, List, [], ◌∷◌, slice_get, Option, Some, None, is_some, option_and_then, if◌then◌else◌}
use Rattle.std.specs.List.{list_any}
use Rattle.std.proofs.Common.{arith}
use Rattle.std.proofs.lemmas.List.Elements.{All-nil}
use Rattle.class_model.specs.Descriptors.{type_of, parameters_of}
use Rattle.class_model.specs.Members.{has, STATIC}
use Rattle.class_model.specs.declared.class_file.MethodAt.{MethodAt}
use Rattle.class_model.specs.declared.descriptor.FieldType.{FieldType}
use Rattle.class_model.specs.declared.descriptor.FieldType.TheVariants as types
use Rattle.class_tree.specs.Headers.{Name}
use Rattle.machine_values.specs.declared.action.Action.{Action}
use Rattle.machine_values.specs.declared.action.Action.TheVariants as actions
use Rattle.machine_values.specs.declared.action.Given.{Given}
use Rattle.machine_values.specs.declared.frame.RunFrame.{RunFrame}
use Rattle.machine_values.specs.declared.frame.RunFrame.TheVariants as frames
use Rattle.machine_values.specs.declared.object.Object.{Object}
use Rattle.machine_values.specs.declared.object.Shape.{Shape}
use Rattle.machine_values.specs.declared.object.Shape.TheVariants as shapes
use Rattle.machine_values.specs.declared.value.Value.{Value}
use Rattle.machine_values.specs.declared.value.Value.TheVariants as values
use Rattle.machine_laws.proofs.Rises.{made_rises, value_rises}
use Rattle.machine_laws.proofs.ShownGrows.{Goes, Quiet, more, quiet_through, then_quiet, quiet_then, growth_through, world_same, got_grows, made_grows, length_grows}
use Rattle.machine_laws.proofs.StepGrows.{either_grows, Turned, turned_same, turned_halt, turned_step, either_turned, step_grows}
use Rattle.member_link.specs.Machine.Bounds.{HasBoundedCounts, NextHasFewDimensions, MakesFewArrays}
use Rattle.machine_laws.proofs.TurnGrows.{of_memory, of_frames, of_halt, called_grows, raised_grows, thrown_grows, begun_on_grows}
use Rattle.member_link.specs.Machine.Acting.{fault, given_value, given_values, all_conform, beginning_of_number, beginning_if, begins_with_angle, call_of_static, call_of_instance, call_on, call_by_sort, call_of_method, call_at, act_call, is_handled, is_concrete, with_made, constructed, construct_at, Waiting, waiting_in, answered, answer_with, answer_without, act_return, is_throwable, act_throw, known_object, got_of_value, got_of_shape, act_array_get, set_at, set_of_shape, act_array_set, length_of_shape, act_array_length, is_array_descriptor, shows_new, act_new_array, act_new_external, acted, is_fault, act}
use Rattle.member_link.specs.Machine.ArraySteps.{most_elements, blank_array, index_in}
use Rattle.member_link.specs.Machine.Beginnings.{begun_on}
use Rattle.machine_laws.specs.Growth.{WorldGrows}
use Rattle.machine_values.specs.Heaps.{allocated, with_value}
use Rattle.member_link.specs.Machine.ObjectSteps.{blank_object}
use Rattle.member_link.specs.Machine.Performing.{called, thrown}
use Rattle.member_link.specs.Machine.Programs.{Program, RunMethod, folder_number, header_named, is_interface_named, place_of_method, run_method, code_at}
use Rattle.member_link.specs.Machine.Runs.{Run, begins_with, behind_action, at_library_turn, going_turn, turn_by, turn, turns}
use Rattle.member_link.specs.Machine.Shapes.{value_conforms}
use Rattle.member_link.specs.Machine.Stepping.{step, is_library_turn}
use Rattle.member_link.specs.Machine.Throwables.{null_pointer}
use Rattle.machine_values.specs.Values.{narrowed, component_text}
use Rattle.member_link.specs.Machine.Worlds.{World, Halt, start, with_heap, is_begun}
use Rattle.member_link.specs.Machine.Worlds as halts

pub fault_grows : (w : World) → Goes (Unit {0}) 1 w (fault w)
fault_grows w = of_halt w _

pub beginning_of_number_grows : (P : Program) (w : World) (n : Option ℕ) → Quiet w (beginning_of_number P w n)
beginning_of_number_grows P w None = world_same 0 w
beginning_of_number_grows P w (Some n) = either_grows (is_begun w.memory n) w (begun_on P n w w.frames) (world_same 0 w) (begun_on_grows P n w w.frames)

pub beginning_if_grows : (P : Program) (c : Name) (w : World) → Quiet w (beginning_if P c w)
beginning_if_grows P c w = beginning_of_number_grows P w (folder_number P c)

pub static_grows : (P : Program) (w : World) (c : Name) (d : List ℕ) (at : MethodAt) (vs : List Value) → Goes (Unit {0}) 1 w (call_of_static P w c d at vs)
static_grows P w c d at vs =
    either_grows (all_conform P w (parameters_of d) vs) (beginning_if P c (called P w at vs w.frames)) (fault w)
    (then_quiet (called_grows P w at vs w.frames) (beginning_if_grows P c (called P w at vs w.frames))) (fault_grows w)

pub call_on_grows : (P : Program) (w : World) (at : MethodAt) (vs : List Value) (v : Value) → Goes (Unit {0}) 1 w (call_on P w at vs v)
call_on_grows P w at vs values.Null = more (raised_grows P w null_pointer w.frames)
call_on_grows P w at vs v = called_grows P w at (v ∷ vs) w.frames

pub instance_grows : (P : Program) (w : World) (c : Name) (d : List ℕ) (at : MethodAt) (vs : List Value) → Goes (Unit {0}) 1 w (call_of_instance P w c d at vs)
instance_grows P w c d at [] = fault_grows w
instance_grows P w c d at (v ∷ vs) =
    either_grows (all_conform P w (types.Named c ∷ parameters_of d) (v ∷ vs)) (call_on P w at vs v) (fault w) (call_on_grows P w at vs v) (fault_grows w)

pub by_sort_grows : (P : Program) (w : World) (c : Name) (d : List ℕ) (at : MethodAt) (vs : List Value) (b : Bool) → Goes (Unit {0}) 1 w (call_by_sort P w c d at vs b)
by_sort_grows P w c d at vs true = static_grows P w c d at vs
by_sort_grows P w c d at vs false = instance_grows P w c d at vs

pub of_method_grows : (P : Program) (w : World) (c : Name) (d : List ℕ) (at : MethodAt) (vs : List Value) (m : Option RunMethod) → Goes (Unit {0}) 1 w (call_of_method P w c d at vs m)
of_method_grows P w c d at vs None = fault_grows w
of_method_grows P w c d at vs (Some m) =
    either_grows (is_some (code_at P at)) (call_by_sort P w c d at vs (has m.member.flags STATIC)) (fault w) (by_sort_grows P w c d at vs (has m.member.flags STATIC)) (fault_grows w)

pub call_at_grows : (P : Program) (w : World) (c : Name) (d : List ℕ) (at : Option MethodAt) (vs : Option (List Value)) → Goes (Unit {0}) 1 w (call_at P w c d at vs)
call_at_grows P w c d (Some at) (Some vs) = of_method_grows P w c d at vs (run_method P at)
call_at_grows P w c d at vs = fault_grows w

pub act_call_grows : (P : Program) (w : World) (c : Name) (n d : List ℕ) (vs : List Given) → Goes (Unit {0}) 1 w (act_call P w c n d vs)
act_call_grows P w c n d vs =
    either_grows (begins_with_angle n) (fault w) (call_at P w c d (place_of_method P (record { class = c; name = n; desc = d })) (given_values w.known vs)) (fault_grows w)
    (call_at_grows P w c d (place_of_method P (record { class = c; name = n; desc = d })) (given_values w.known vs))

pub constructed_grows : (P : Program) (w : World) (c : Name) (at : MethodAt) (vs : List Value) (n : ℕ) → Goes (Unit {0}) 1 w (constructed P w c at vs (blank_object P w.memory.heap n))
constructed_grows P w c at vs n =
    quiet_then (of_memory w (with_heap w.memory (blank_object P w.memory.heap n).heap) w.frames w.halt (made_rises 0 w.memory _ _))
    (then_quiet (called_grows P _ at (values.Ref (blank_object P w.memory.heap n).reference ∷ vs) (with_made (blank_object P w.memory.heap n).reference w.frames)) (beginning_if_grows P c _))

pub construct_at_grows : (P : Program) (w : World) (c : Name) (d : List ℕ) (n : Option ℕ) (at : Option MethodAt) (vs : Option (List Value)) → Goes (Unit {0}) 1 w (construct_at P w c d n at vs)
construct_at_grows P w c d (Some n) (Some at) (Some vs) =
    either_grows (is_some (code_at P at) && (is_concrete (header_named P c) && (is_handled P c d && all_conform P w (parameters_of d) vs)))
    (constructed P w c at vs (blank_object P w.memory.heap n)) (fault w) (constructed_grows P w c at vs n) (fault_grows w)
construct_at_grows P w c d n at vs = fault_grows w

pub answer_with_grows : (P : Program) (w : World) (u : Waiting) (t : Option FieldType) (v : Option Value) → Goes (Unit {0}) 1 w (answer_with P w u t v)
answer_with_grows P w u (Some t) (Some v) =
    either_grows (value_conforms P w.memory.heap t v) (answered w u (narrowed t v ∷ [])) (fault w) (of_frames w _) (fault_grows w)
answer_with_grows P w u t v = fault_grows w

pub answer_without_grows : (w : World) (u : Waiting) (t : Option FieldType) → Goes (Unit {0}) 1 w (answer_without w u t)
answer_without_grows w u None = of_frames w _
answer_without_grows w u (Some t) = fault_grows w

pub act_return_grows : (P : Program) (w : World) (u : Option Waiting) (g : Option Given) → Goes (Unit {0}) 1 w (act_return P w u g)
act_return_grows P w None g = fault_grows w
act_return_grows P w (Some u) None = answer_without_grows w u u.pending.answer
act_return_grows P w (Some u) (Some g) = answer_with_grows P w u u.pending.answer (given_value w.known g)

pub act_throw_grows : (P : Program) (w : World) (u : Option Waiting) (r : Option ℕ) → Goes (Unit {0}) 1 w (act_throw P w u r)
act_throw_grows P w (Some u) (Some r) =
    either_grows (u.pending.may_throw && is_throwable P w r) (thrown P w r (frames.Method u.frame ∷ u.rest)) (fault w) (more (thrown_grows P w r (frames.Method u.frame ∷ u.rest))) (fault_grows w)
act_throw_grows P w u r = fault_grows w

pub got_of_value_grows : (P : Program) (w : World) (v : Option Value) → Goes (Unit {0}) 1 w (got_of_value P w v)
got_of_value_grows P w None = fault_grows w
got_of_value_grows P w (Some v) = more (got_grows P w v)

pub got_of_shape_grows : (P : Program) (w : World) (vs : List Value) (i : ℤ) (s : Shape) → Goes (Unit {0}) 1 w (got_of_shape P w vs i s)
got_of_shape_grows P w vs i (shapes.Array d n) = got_of_value_grows P w (option_and_then (slice_get vs) (index_in i n))
got_of_shape_grows P w vs i s = fault_grows w

pub act_get_grows : (P : Program) (w : World) (o : Option Object) (i : ℤ) → Goes (Unit {0}) 1 w (act_array_get P w o i)
act_get_grows P w None i = fault_grows w
act_get_grows P w (Some o) i = got_of_shape_grows P w o.values i o.shape

pub set_at_grows : (P : Program) (w : World) (r : ℕ) (t : FieldType) (v : Value) (at : Option ℕ) → Goes (Unit {0}) 1 w (set_at P w r t v at)
set_at_grows P w r t v None = fault_grows w
set_at_grows P w r t v (Some at) =
    either_grows (value_conforms P w.memory.heap t v) (record w { memory = with_heap w.memory (with_value w.memory.heap r at (narrowed t v)) }) (fault w)
    (of_memory w _ _ _ (value_rises 1 w.memory r at (narrowed t v))) (fault_grows w)

pub set_of_shape_grows : (P : Program) (w : World) (r : ℕ) (i : ℤ) (v : Value) (s : Shape) → Goes (Unit {0}) 1 w (set_of_shape P w r i v s)
set_of_shape_grows P w r i v (shapes.Array d n) = set_at_grows P w r (type_of (component_text d)) v (index_in i n)
set_of_shape_grows P w r i v s = fault_grows w

pub act_set_grows : (P : Program) (w : World) (r : Option ℕ) (o : Option Object) (i : ℤ) (v : Option Value) → Goes (Unit {0}) 1 w (act_array_set P w r o i v)
act_set_grows P w (Some r) (Some o) i (Some v) = set_of_shape_grows P w r i v o.shape
act_set_grows P w r o i v = fault_grows w

pub length_of_shape_grows : (w : World) (s : Shape) → Goes (Unit {0}) 1 w (length_of_shape w s)
length_of_shape_grows w (shapes.Array d n) = more (length_grows w n)
length_of_shape_grows w s = fault_grows w

pub act_length_grows : (w : World) (o : Option Object) → Goes (Unit {0}) 1 w (act_array_length w o)
act_length_grows w None = fault_grows w
act_length_grows w (Some o) = length_of_shape_grows w o.shape

pub shows_new_grows : (P : Program) (w : World) (s : Shape) (vs : List Value) → Goes (Unit {0}) 1 w (shows_new P w (allocated w.memory.heap s vs))
shows_new_grows P w s vs =
    more (quiet_through (of_memory w (with_heap w.memory (allocated w.memory.heap s vs).heap) w.frames w.halt (made_rises 0 w.memory s vs)) (made_grows P _ _))

pub act_new_array_grows : (P : Program) (w : World) (d : Name) (n : ℤ) → Goes (Unit {0}) 1 w (act_new_array P w d n)
act_new_array_grows P w d (negsuc n) = fault_grows w
act_new_array_grows P w d (pos n) =
    either_grows (is_array_descriptor d && nat_le n most_elements) (shows_new P w (blank_array w.memory.heap d n)) (fault w) (shows_new_grows P w _ _) (fault_grows w)

pub act_new_external_grows : (P : Program) (w : World) (c : Name) (also : List Name) → Goes (Unit {0}) 1 w (act_new_external P w c also)
act_new_external_grows P w c also =
    either_grows (not (is_some (folder_number P c)) && (is_concrete (header_named P c) && not (list_any (λ name. not (is_interface_named P name)) also)))
    (shows_new P w (allocated w.memory.heap (shapes.External c also) [])) (fault w) (shows_new_grows P w _ _) (fault_grows w)

pub acted_grows : (P : Program) (a : Action) (w : World) → Goes (Unit {0}) 1 w (acted P a w)
acted_grows P (actions.Call class name desc vs) w = act_call_grows P w class name desc vs
acted_grows P (actions.Construct class desc vs) w = construct_at_grows P w class desc _ _ _
acted_grows P (actions.Return value) w = act_return_grows P w (waiting_in P w.frames) value
acted_grows P (actions.Throw number) w = act_throw_grows P w (waiting_in P w.frames) (slice_get w.known number)
acted_grows P (actions.ArrayGet number index) w = act_get_grows P w (known_object w (slice_get w.known number)) index
acted_grows P (actions.ArraySet number index value) w = act_set_grows P w (slice_get w.known number) (known_object w (slice_get w.known number)) index (given_value w.known value)
acted_grows P (actions.ArrayLength number) w = act_length_grows w (known_object w (slice_get w.known number))
acted_grows P (actions.NewArray desc count) w = act_new_array_grows P w desc count
acted_grows P (actions.NewExternal class also) w = act_new_external_grows P w class also
acted_grows P actions.Stop w = of_halt w _

pub act_grows : (P : Program) (a : Action) (w : World) → Turned (Unit {0}) w (act P a w)
act_grows P a w =
    let after = acted P a (record w { steps = w.steps + 1 }) in
    either_turned (is_fault after.halt) (fault w) after (turned_halt w _) (turned_step w _ (acted_grows P a (record w { steps = w.steps + 1 })))

-- ---- turns

pub behind_action_grows : {F : Type 0} (r : Run) (rest : List Action) (w : World) → Turned F r.world w → Turned F r.world (behind_action r rest w).world
behind_action_grows {F = F} r rest w g = by (is_fault w.halt) where
  by : (b : Bool) → Turned F r.world (if b then record r { world = w } else record { world = w; actions = rest; used = r.used + 1 }).world
  by true = g
  by false = g

pub library_turn_grows : (P : Program) (r : Run) (rest : List Action) → Turned (Unit {0}) r.world (at_library_turn P r rest).world
library_turn_grows P r [] = turned_same _
library_turn_grows P r (a ∷ rest) = behind_action_grows r rest (act P a r.world) (act_grows P a r.world)

pub turned_if : {F G : Type 0} {a b : World} → (G → F) → Turned F a b → Turned G a b
turned_if from p = record { grows = p.grows; bounded = λ g is. p.bounded (from g) is; steps = p.steps }

pub next_few : (P : Program) (fs : List RunFrame) → MakesFewArrays P → NextHasFewDimensions P fs
next_few P [] few = tt
next_few P (frames.Library made ∷ rest) few = tt
next_few P (frames.Beginning class ∷ rest) few = tt
next_few P (frames.Method f ∷ rest) few = few f.at f.place

pub going_turn_grows : (P : Program) (r : Run) → Turned (MakesFewArrays P) r.world (going_turn P r).world
going_turn_grows P r = by (is_library_turn r.world.frames) where
  by : (b : Bool) → Turned (MakesFewArrays P) r.world (if b then at_library_turn P r r.actions else record r { world = step P r.world }).world
  by true = turned_if (λ few. tt) (library_turn_grows P r r.actions)
  by false = turned_if (next_few P r.world.frames) (step_grows P r.world)

pub turn_by_grows : (P : Program) (r : Run) (h : Halt) → Turned (MakesFewArrays P) r.world (turn_by P r h).world
turn_by_grows P r halts.going = going_turn_grows P r
turn_by_grows P r h = turned_same _

pub turn_grows : (P : Program) (r : Run) → Turned (MakesFewArrays P) r.world (turn P r).world
turn_grows P r = turn_by_grows P r r.world.halt

-- ---- runs

pub turns_grow : (P : Program) (n : ℕ) (r : Run) → WorldGrows r.world (turns P n r).world
turns_grow P zero r = (turned_same {F = Unit {0}} _).grows
turns_grow P (suc n) r = growth_through ((turn_grows P r).grows) (turns_grow P n (turn P r))

pub turns_bounded : (P : Program) → MakesFewArrays P → (n : ℕ) (r : Run) → HasBoundedCounts r.world → HasBoundedCounts (turns P n r).world
turns_bounded P few zero r is = is
turns_bounded P few (suc n) r is = turns_bounded P few n (turn P r) ((turn_grows P r).bounded few is)

-- a turn is a step at most
pub turns_steps : (P : Program) (n : ℕ) (r : Run) → (turns P n r).world.steps ≤ r.world.steps + n
turns_steps P zero r = omega arith
turns_steps P (suc n) r = omega (arith, turns_steps P n (turn P r), (turn_grows P r).steps)

pub start_bounded : HasBoundedCounts start
start_bounded = record { monitors = All-nil _; allocations = omega arith; entries = omega arith }

pub run_bounded : (P : Program) → MakesFewArrays P → (actions : List Action) (n : ℕ) → HasBoundedCounts (turns P n (begins_with actions)).world
run_bounded P few actions n = turns_bounded P few n (begins_with actions) start_bounded

pub run_steps : (P : Program) (actions : List Action) (n : ℕ) → (turns P n (begins_with actions)).world.steps ≤ n
run_steps P actions n = let most = turns_steps P n (begins_with actions) in omega (arith, most)
