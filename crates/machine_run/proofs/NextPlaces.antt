-- Behind a step and behind an action there is a place behind the one of each frame below the top one.
use Rattle.std.specs.Prelude.{◌≡◌, ◌<◌, ◌-◌, ◌^◌, ◌+◌, ◌&&◌, not, nat_le, All, IfSome, ℕ, ℤ, pos, negsuc, Bool, true, false, List, [], ◌∷◌, length, take, drop, reverse, slice_get, Option, Some, None, is_some, option_map, option_and_then, if◌then◌else◌}
use Rattle.std.specs.List.{list_any}
use Rattle.std.proofs.Common.{arith}
use Rattle.std.proofs.lemmas.List.Elements.{All-from_recursion, recursion_from_All}
use Rattle.class_model.specs.Descriptors.{kind_of, type_of, parameters_of}
use Rattle.class_model.specs.Members.{has, STATIC}
use Rattle.class_model.specs.declared.class_file.MethodAt.{MethodAt}
use Rattle.class_model.specs.declared.descriptor.FieldType.{FieldType}
use Rattle.class_model.specs.declared.descriptor.FieldType.TheVariants as types
use Rattle.class_model.specs.declared.descriptor.Kind.{Kind}
use Rattle.class_model.specs.declared.descriptor.Kind.TheVariants as kinds
use Rattle.class_tree.specs.Headers.{Name}
use Rattle.machine_values.specs.Frames.{MethodState}
use Rattle.machine_values.specs.Heaps.{allocated, with_value}
use Rattle.machine_values.specs.Values.{has_kind, narrowed, component_text, units_of_values}
use Rattle.machine_values.specs.declared.action.Action.{Action}
use Rattle.machine_values.specs.declared.action.Action.TheVariants as actions
use Rattle.machine_values.specs.declared.action.Given.{Given}
use Rattle.machine_values.specs.declared.frame.RunFrame.{RunFrame}
use Rattle.machine_values.specs.declared.frame.RunFrame.TheVariants as frames
use Rattle.machine_values.specs.declared.object.Object.{Object}
use Rattle.machine_values.specs.declared.object.Shape.{Shape}
use Rattle.machine_values.specs.declared.object.Shape.TheVariants as shapes
use Rattle.machine_values.specs.declared.value.Value.{Value}
use Rattle.machine_values.specs.declared.value.Value.TheVariants as values
use Rattle.member_link.specs.Machine.Acting.{fault, given_value, given_values, all_conform, beginning_of_number, beginning_if, begins_with_angle, call_of_static, call_of_instance, call_on, call_by_sort, call_of_method, call_at, act_call, is_handled, is_concrete, with_made, constructed, construct_at, pending_of, Pending, Waiting, waiting_in, answered, answer_with, answer_without, act_return, is_throwable, act_throw, known_object, got_of_value, got_of_shape, act_array_get, set_at, set_of_shape, act_array_set, length_of_shape, act_array_length, is_array_descriptor, shows_new, act_new_array, act_new_external, acted, is_fault, act}
use Rattle.member_link.specs.Machine.ArraySteps.{most_elements, blank_array, index_in}
use Rattle.member_link.specs.Machine.Beginnings.{begun_on, frame_with, beginning_step, past_beginning, begun_next, beginning_of, initialiser_of, first_unbegun, come_first}
use Rattle.member_link.specs.Machine.Completions.{Completion, gives, raises, throws, begins, calls, asks, ends}
use Rattle.member_link.specs.Machine.Locals.{Jump, stored, incremented, local_value, shuffled, jump_of_int, jump_of_ints, jump_of_references, jump_of_null, table_target, lookup_target}
use Rattle.member_link.specs.Machine.ObjectSteps.{blank_object}
use Rattle.member_link.specs.Machine.Ops as ops
use Rattle.member_link.specs.Machine.Ops.{Op}
use Rattle.member_link.specs.Machine.Performing.{called, locked, unlocked, is_initialiser, returned_to, returned_by, returned, returned_value, past_method, past_handler, handler_at, Landing, lands_in, lands_in_library, leaves_initialiser, lands_nowhere, unwind, landed, thrown, thrown_in, raised, perform}
use Rattle.member_link.specs.Machine.Programs.{Program, Point, RunClass, RunMethod, run_method, code_at, point_at, folder_number, header_named, is_interface_named, place_of_method}
use Rattle.member_link.specs.Machine.Shapes.{value_conforms}
use Rattle.member_link.specs.Machine.Stepping.{ends_stuck, load_step, store_units, store_step, increment_step, test_step, shuffle_step, jump_step, switch_step, return_step, work_step, op_step, point_step, frames_step, is_library_turn, step}
use Rattle.member_link.specs.Machine.Throwables.{null_pointer}
use Rattle.member_link.specs.Machine.Work.{arity, work}
use Rattle.member_link.specs.Machine.Worlds.{Memory, World, with_heap, is_begun}
use Rattle.machine_step.specs.Bounded.{HasNextPlace, CanGoOn}
use Rattle.machine_run.specs.Inner.Performed.{TopHasNext}

-- ---- frames

pub record Fits (w : World) : Type 0 where
  pub is : CanGoOn w.frames

abbrev Below : List RunFrame → Type 0
Below fs = All HasNextPlace fs

behind_first : (f : RunFrame) (fs : List RunFrame) → Below (f ∷ fs) → Below fs
behind_first f fs h = All-from_recursion HasNextPlace fs (recursion_from_All HasNextPlace (f ∷ fs) h).1

more_below : (f : RunFrame) (fs : List RunFrame) → HasNextPlace f → Below fs → Below (f ∷ fs)
more_below f fs next h = All-from_recursion HasNextPlace (f ∷ fs) (next, recursion_from_All HasNextPlace fs h)

all_below : (fs : List RunFrame) → Below fs → CanGoOn fs
all_below [] h = tt
all_below (f ∷ fs) h = behind_first f fs h

either_fits : (b : Bool) (c d : World) → Fits c → Fits d → Fits (if b then c else d)
either_fits true c d g h = g
either_fits false c d g h = h

-- ---- the end of a method

returned_to_fits :
    (P : Program) (w : World) (held : Option ℕ) (vs : List Value) (fs : List RunFrame)
    → Below fs → Fits w → Fits (returned_to P w held vs fs)
returned_to_fits P w held vs [] h g = record { is = g.is }
returned_to_fits P w held vs (frames.Beginning c ∷ fs) h g = record { is = g.is }
returned_to_fits P w held vs (frames.Library made ∷ fs) h g = record { is = behind_first (frames.Library made) fs h }
returned_to_fits P w held vs (frames.Method f ∷ fs) h g = record { is = behind_first (frames.Method f) fs h }

returned_by_fits :
    (P : Program) (w : World) (held : Option ℕ) (rest : List RunFrame) (vs : List Value) (m : Option RunMethod)
    → Below rest → Fits w → Fits (returned_by P w held rest vs m)
returned_by_fits P w held rest vs None h g = record { is = g.is }
returned_by_fits P w held rest vs (Some m) h g = by (is_initialiser m) where
  by : (b : Bool) → Fits (if b then record w { memory = unlocked w.memory held; frames = rest } else returned_to P w held vs rest)
  by true = record { is = all_below rest h }
  by false = returned_to_fits P w held vs rest h g

returned_fits :
    (P : Program) (w : World) (f : MethodState) (rest : List RunFrame) (vs : List Value)
    → Below rest → Fits w → Fits (returned P w f rest vs)
returned_fits P w f rest vs h g = returned_by_fits P w f.held rest vs (run_method P f.at) h g

-- ---- throwing

abbrev LandingFits : Landing → Type 0
LandingFits (lands_in after fs) = CanGoOn fs
LandingFits (lands_in_library after fs) = CanGoOn fs
LandingFits (leaves_initialiser after fs) = CanGoOn fs
LandingFits lands_nowhere = Unit {0}

record LandsWell (l : Landing) : Type 0 where
  is : LandingFits l

past_method_fits :
    (held : Option ℕ) (rest : List RunFrame) (m : Option RunMethod) (next : Memory → Landing) (memory : Memory)
    → Below rest → ((n : Memory) → LandsWell (next n)) → LandsWell (past_method held rest m next memory)
past_method_fits held rest None next memory h g = record { is = tt }
past_method_fits held rest (Some m) next memory h g = by (is_initialiser m) where
  by : (b : Bool) → LandsWell (if b then leaves_initialiser memory rest else next (unlocked memory held))
  by true = record { is = all_below rest h }
  by false = g _

past_handler_fits :
    (r : ℕ) (f : MethodState) (rest : List RunFrame) (m : Option RunMethod) (next : Memory → Landing) (memory : Memory) (to : Option ℕ)
    → Below rest → ((n : Memory) → LandsWell (next n)) → LandsWell (past_handler r f rest m next memory to)
past_handler_fits r f rest m next memory (Some to) h g = record { is = h }
past_handler_fits r f rest m next memory None h g = past_method_fits f.held rest m next memory h g

unwind_fits : (P : Program) (r : ℕ) (fs : List RunFrame) → CanGoOn fs → (m : Memory) → LandsWell (unwind P r fs m)
unwind_fits P r [] h m = record { is = tt }
unwind_fits P r (frames.Library made ∷ fs) h m = record { is = h }
unwind_fits P r (frames.Beginning c ∷ fs) h m = record { is = tt }
unwind_fits P r (frames.Method f ∷ fs) h m =
    past_handler_fits r f fs (run_method P f.at) (unwind P r fs) m (handler_at P m.heap (point_at P f.at f.place) r) h
    (unwind_fits P r fs (all_below fs h))

landed_fits : (P : Program) (w : World) (r : ℕ) (l : Landing) → LandsWell l → Fits w → Fits (landed P w r l)
landed_fits P w r (lands_in m fs) l g = record { is = l.is }
landed_fits P w r (lands_in_library m fs) l g = record { is = l.is }
landed_fits P w r (leaves_initialiser m fs) l g = record { is = l.is }
landed_fits P w r lands_nowhere l g = record { is = g.is }

thrown_in_fits :
    (P : Program) (w : World) (r : ℕ) (fs : List RunFrame) (m : Memory)
    → CanGoOn fs → Fits w → Fits (thrown_in P w r fs m)
thrown_in_fits P w r fs m h g = landed_fits P w r (unwind P r fs m) (unwind_fits P r fs h m) g

thrown_fits : (P : Program) (w : World) (r : ℕ) (fs : List RunFrame) → CanGoOn fs → Fits w → Fits (thrown P w r fs)
thrown_fits P w r fs h g = thrown_in_fits P w r fs w.memory h g

raised_fits : (P : Program) (w : World) (c : Name) (fs : List RunFrame) → CanGoOn fs → Fits w → Fits (raised P w c fs)
raised_fits P w c fs h g = thrown_in_fits P w _ fs _ h g

-- ---- initialisation

begun_on_fits : (P : Program) (c : ℕ) (w : World) (fs : List RunFrame) → Below fs → Fits (begun_on P c w fs)
begun_on_fits P c w fs h = record { is = h }

beginning_fits :
    (P : Program) (c : ℕ) (w : World) (rest : List RunFrame)
    → Below rest → Fits w → Fits (beginning_step P c w rest)
beginning_fits P c w rest h g = by (slice_get P.classes c) where
  by_initialiser : (m : Option MethodAt) → Fits (past_beginning P w rest m)
  by_initialiser None = record { is = all_below rest h }
  by_initialiser (Some at) = record { is = h }

  by_first : (f : Option ℕ) → Fits (begun_next P c w rest f)
  by_first (Some first) = begun_on_fits P first w (frames.Beginning c ∷ rest) (more_below (frames.Beginning c) rest tt h)
  by_first None = by_initialiser (initialiser_of P c)

  by : (k : Option RunClass) → Fits (beginning_of P c w rest k)
  by None = record { is = g.is }
  by (Some k) = by_first (first_unbegun P w.memory (come_first P k.header))

-- ---- completions

perform_fits :
    (P : Program) (w : World) (f taken : MethodState) (rest : List RunFrame) (c : Completion)
    → HasNextPlace (frames.Method f) → HasNextPlace (frames.Method taken) → Below rest → Fits w
    → Fits (perform P w f taken rest c)
perform_fits P w f taken rest (gives m vs) n k h g = record { is = h }
perform_fits P w f taken rest (raises class) n k h g = raised_fits P w class (frames.Method taken ∷ rest) h g
perform_fits P w f taken rest (throws r) n k h g = thrown_fits P w r (frames.Method taken ∷ rest) h g
perform_fits P w f taken rest (begins class) n k h g = begun_on_fits P class w (frames.Method f ∷ rest) (more_below (frames.Method f) rest n h)
perform_fits P w f taken rest (calls at vs) n k h g = record { is = more_below (frames.Method taken) rest k h }
perform_fits P w f taken rest (asks asked) n k h g = record { is = more_below (frames.Method taken) rest k h }
perform_fits P w f taken rest (ends halt) n k h g = record { is = g.is }

-- ---- operations

stuck_fits : (w : World) → Fits w → Fits (ends_stuck w)
stuck_fits w g = record { is = g.is }

module _ (P : Program) (w : World) (f : MethodState) (rest : List RunFrame) (h : Below rest) (g : Fits w) where
  load_fits : (v : Option Value) → Fits (load_step w f rest v)
  load_fits None = stuck_fits w g
  load_fits (Some v) = record { is = h }

  store_units_fits : (s : List Value) (u : Option (List (Option Value))) → Fits (store_units w f rest s u)
  store_units_fits s None = stuck_fits w g
  store_units_fits s (Some u) = record { is = h }

  store_fits : (k : Kind) (at : ℕ) (s : List Value) → Fits (store_step w f rest k at s)
  store_fits k at [] = stuck_fits w g
  store_fits k at (v ∷ s) =
      either_fits (has_kind k v) (store_units w f rest s (stored at v f.locals)) (ends_stuck w) (store_units_fits s (stored at v f.locals)) (stuck_fits w g)

  increment_fits : (at : ℕ) (by : ℤ) (v : Option Value) → Fits (increment_step w f rest at by v)
  increment_fits at by None = stuck_fits w g
  increment_fits at by (Some v) = store_units_fits f.stack (stored at (incremented by v) f.locals)

  test_fits : (v : Option Value) → Fits (test_step P w f rest v)
  test_fits None = stuck_fits w g
  test_fits (Some values.Null) = raised_fits P w null_pointer (frames.Method f ∷ rest) h g
  test_fits (Some (values.Ref r)) = record { is = h }
  test_fits (Some (values.Int n)) = stuck_fits w g
  test_fits (Some (values.Long n)) = stuck_fits w g
  test_fits (Some (values.Float n)) = stuck_fits w g
  test_fits (Some (values.Double n)) = stuck_fits w g

  shuffle_fits : (s : Option (List Value)) → Fits (shuffle_step w f rest s)
  shuffle_fits None = stuck_fits w g
  shuffle_fits (Some s) = record { is = h }

  jump_fits : (to : ℕ) (j : Jump) → Fits (jump_step w f rest to j)
  jump_fits to None = stuck_fits w g
  jump_fits to (Some j) = record { is = h }

  switch_fits : (target : ℤ → ℕ) (s : List Value) → Fits (switch_step w f rest target s)
  switch_fits target [] = stuck_fits w g
  switch_fits target (values.Int key ∷ s) = record { is = h }
  switch_fits target (values.Null ∷ s) = stuck_fits w g
  switch_fits target (values.Ref r ∷ s) = stuck_fits w g
  switch_fits target (values.Long n ∷ s) = stuck_fits w g
  switch_fits target (values.Float n ∷ s) = stuck_fits w g
  switch_fits target (values.Double n ∷ s) = stuck_fits w g

  return_fits : (t : FieldType) (s : List Value) → Fits (return_step P w f rest t s)
  return_fits t [] = stuck_fits w g
  return_fits t (v ∷ s) =
      either_fits (has_kind (kind_of t) v) (returned_value P w f rest t v) (ends_stuck w)
      (returned_fits P w f rest (narrowed t v ∷ []) h g) (stuck_fits w g)

  module _ (n : HasNextPlace (frames.Method f)) where
    work_step_fits : (op : Op) → Fits (work_step P w f rest op)
    work_step_fits op =
        either_fits (nat_le (arity op) (length f.stack))
        (perform P w f (record f { stack = drop (arity op) f.stack }) rest (work P w.memory op (reverse (take (arity op) f.stack)))) (ends_stuck w)
        (perform_fits P w f (record f { stack = drop (arity op) f.stack }) rest (work P w.memory op (reverse (take (arity op) f.stack))) n n h g)
        (stuck_fits w g)

    op_fits : (op : Op) → Fits (op_step P w f rest op)
    op_fits ops.no_operation = record { is = h }
    op_fits ops.meaningless = stuck_fits w g
    op_fits (ops.load_local kind at) = load_fits (local_value kind f.locals at)
    op_fits (ops.store_local kind at) = store_fits kind at f.stack
    op_fits (ops.increment_local at by) = increment_fits at by (local_value kinds.Int f.locals at)
    op_fits (ops.test_local at) = test_fits (local_value kinds.Ref f.locals at)
    op_fits (ops.shuffle_stack opcode) = shuffle_fits (shuffled opcode f.stack)
    op_fits (ops.jump_by_int opcode to) = jump_fits to (jump_of_int opcode f.stack)
    op_fits (ops.jump_by_ints opcode to) = jump_fits to (jump_of_ints opcode f.stack)
    op_fits (ops.jump_by_references opcode to) = jump_fits to (jump_of_references opcode f.stack)
    op_fits (ops.jump_by_null opcode to) = jump_fits to (jump_of_null opcode f.stack)
    op_fits (ops.jump_to to) = record { is = h }
    op_fits (ops.table_switch low other targets) = switch_fits (table_target low other targets) f.stack
    op_fits (ops.lookup_switch other pairs) = switch_fits (lookup_target other pairs) f.stack
    op_fits ops.return_nothing = returned_fits P w f rest [] h g
    op_fits (ops.return_value type) = return_fits type f.stack
    op_fits op = work_step_fits op

  point_fits : (p : Option Point) → IfSome p (λ point. f.place < 2 ^ 32 - 1) → Fits (point_step P w f rest p)
  point_fits None n = stuck_fits w g
  point_fits (Some p) n = op_fits n p.op

-- ---- a step

frames_fits : (P : Program) (w : World) (fs : List RunFrame) → CanGoOn fs → TopHasNext P fs → Fits w → Fits (frames_step P w fs)
frames_fits P w [] h n g = stuck_fits w g
frames_fits P w (frames.Library made ∷ rest) h n g = g
frames_fits P w (frames.Beginning class ∷ rest) h n g = beginning_fits P class w rest h g
frames_fits P w (frames.Method f ∷ rest) h n g = point_fits P w f rest h g (point_at P f.at f.place) n

pub step_fits : (P : Program) (w : World) → TopHasNext P w.frames → Fits w → Fits (step P w)
step_fits P w n g =
    either_fits (is_library_turn w.frames) w (frames_step P (record w { steps = w.steps + 1 }) w.frames) g
    (frames_fits P (record w { steps = w.steps + 1 }) w.frames g.is n (record { is = g.is }))

-- ---- an action

turn_below : (fs : List RunFrame) → is_library_turn fs ≡ true → CanGoOn fs → Below fs
turn_below [] turn h = absurd cc
turn_below (frames.Library made ∷ fs) turn h = more_below (frames.Library made) fs tt h
turn_below (frames.Beginning c ∷ fs) turn h = absurd cc
turn_below (frames.Method f ∷ fs) turn h = absurd cc

-- a called method's frame begins at the first place
called_below : (P : Program) (w : World) (at : MethodAt) (vs : List Value) (fs : List RunFrame) → Below fs → Below (called P w at vs fs).frames
called_below P w at vs fs h =
    let first : 0 < 2 ^ 32 - 1 = omega arith in
    more_below (frames.Method (frame_with P at (units_of_values vs) (locked P w.memory at vs).held)) fs first h

beginning_of_number_fits : (P : Program) (w : World) (n : Option ℕ) → Below w.frames → Fits (beginning_of_number P w n)
beginning_of_number_fits P w None h = record { is = all_below w.frames h }
beginning_of_number_fits P w (Some n) h =
    either_fits (is_begun w.memory n) w (begun_on P n w w.frames) (record { is = all_below w.frames h }) (begun_on_fits P n w w.frames h)

made_below : (r : ℕ) (fs : List RunFrame) → Below fs → Below (with_made r fs)
made_below r [] h = h
made_below r (frames.Library made ∷ fs) h = more_below (frames.Library (Some r)) fs tt (behind_first (frames.Library made) fs h)
made_below r (frames.Beginning c ∷ fs) h = h
made_below r (frames.Method f ∷ fs) h = h

abbrev WaitsWell : Option Waiting → Type 0
WaitsWell None = Unit {0}
WaitsWell (Some waiting) = Below waiting.rest

waiting_fits : (P : Program) (fs : List RunFrame) → CanGoOn fs → WaitsWell (waiting_in P fs)
waiting_fits P [] h = tt
waiting_fits P (frames.Beginning c ∷ fs) h = tt
waiting_fits P (frames.Method f ∷ fs) h = tt
waiting_fits P (frames.Library made ∷ []) h = tt
waiting_fits P (frames.Library made ∷ frames.Library other ∷ fs) h = tt
waiting_fits P (frames.Library made ∷ frames.Beginning c ∷ fs) h = tt
waiting_fits P (frames.Library made ∷ frames.Method f ∷ fs) h = by (option_and_then (λ (point : Point). pending_of point.op) (point_at P f.at f.place)) where
  by : (p : Option Pending) → WaitsWell (option_map (λ (pending : Pending). let waiting : Waiting = record { frame = f; rest = fs; pending = pending } in waiting) p)
  by None = tt
  by (Some p) = behind_first (frames.Method f) fs h

module _ (P : Program) (w : World) (h : Below w.frames) (g : Fits w) where
  fault_fits : Fits (fault w)
  fault_fits = record { is = g.is }

  static_fits : (c : Name) (d : List ℕ) (at : MethodAt) (vs : List Value) → Fits (call_of_static P w c d at vs)
  static_fits c d at vs =
      either_fits (all_conform P w (parameters_of d) vs) (beginning_if P c (called P w at vs w.frames)) (fault w)
      (beginning_of_number_fits P (called P w at vs w.frames) (folder_number P c) (called_below P w at vs w.frames h)) fault_fits

  on_fits : (at : MethodAt) (vs : List Value) (v : Value) → Fits (call_on P w at vs v)
  on_fits at vs values.Null = raised_fits P w null_pointer w.frames g.is g
  on_fits at vs (values.Ref r) = record { is = h }
  on_fits at vs (values.Int n) = record { is = h }
  on_fits at vs (values.Long n) = record { is = h }
  on_fits at vs (values.Float n) = record { is = h }
  on_fits at vs (values.Double n) = record { is = h }

  instance_fits : (c : Name) (d : List ℕ) (at : MethodAt) (vs : List Value) → Fits (call_of_instance P w c d at vs)
  instance_fits c d at [] = fault_fits
  instance_fits c d at (v ∷ vs) =
      either_fits (all_conform P w (types.Named c ∷ parameters_of d) (v ∷ vs)) (call_on P w at vs v) (fault w) (on_fits at vs v) fault_fits

  by_sort_fits : (c : Name) (d : List ℕ) (at : MethodAt) (vs : List Value) (b : Bool) → Fits (call_by_sort P w c d at vs b)
  by_sort_fits c d at vs true = static_fits c d at vs
  by_sort_fits c d at vs false = instance_fits c d at vs

  of_method_fits : (c : Name) (d : List ℕ) (at : MethodAt) (vs : List Value) (m : Option RunMethod) → Fits (call_of_method P w c d at vs m)
  of_method_fits c d at vs None = fault_fits
  of_method_fits c d at vs (Some m) =
      either_fits (is_some (code_at P at)) (call_by_sort P w c d at vs (has m.member.flags STATIC)) (fault w) (by_sort_fits c d at vs (has m.member.flags STATIC)) fault_fits

  call_at_fits : (c : Name) (d : List ℕ) (at : Option MethodAt) (vs : Option (List Value)) → Fits (call_at P w c d at vs)
  call_at_fits c d (Some at) (Some vs) = of_method_fits c d at vs (run_method P at)
  call_at_fits c d None vs = fault_fits
  call_at_fits c d (Some at) None = fault_fits

  call_fits : (c : Name) (n d : List ℕ) (vs : List Given) → Fits (act_call P w c n d vs)
  call_fits c n d vs =
      either_fits (begins_with_angle n) (fault w) (call_at P w c d (place_of_method P (record { class = c; name = n; desc = d })) (given_values w.known vs)) fault_fits
      (call_at_fits c d (place_of_method P (record { class = c; name = n; desc = d })) (given_values w.known vs))

  constructed_fits : (c : Name) (at : MethodAt) (vs : List Value) (n : ℕ) → Fits (constructed P w c at vs (blank_object P w.memory.heap n))
  constructed_fits c at vs n =
      let made = blank_object P w.memory.heap n in
      let filled : World = record w { memory = with_heap w.memory made.heap } in
      let arguments : List Value = values.Ref made.reference ∷ vs in
      beginning_of_number_fits P (called P filled at arguments (with_made made.reference w.frames)) (folder_number P c)
      (called_below P filled at arguments (with_made made.reference w.frames) (made_below made.reference w.frames h))

  construct_fits : (c : Name) (d : List ℕ) (n : Option ℕ) (at : Option MethodAt) (vs : Option (List Value)) → Fits (construct_at P w c d n at vs)
  construct_fits c d (Some n) (Some at) (Some vs) =
      either_fits (is_some (code_at P at) && (is_concrete (header_named P c) && (is_handled P c d && all_conform P w (parameters_of d) vs)))
      (constructed P w c at vs (blank_object P w.memory.heap n)) (fault w) (constructed_fits c at vs n) fault_fits
  construct_fits c d None at vs = fault_fits
  construct_fits c d (Some n) None vs = fault_fits
  construct_fits c d (Some n) (Some at) None = fault_fits

  answer_with_fits : (u : Waiting) (t : Option FieldType) (v : Option Value) → Below u.rest → Fits (answer_with P w u t v)
  answer_with_fits u (Some t) (Some v) k =
      either_fits (value_conforms P w.memory.heap t v) (answered w u (narrowed t v ∷ [])) (fault w) (record { is = k }) fault_fits
  answer_with_fits u None v k = fault_fits
  answer_with_fits u (Some t) None k = fault_fits

  answer_without_fits : (u : Waiting) (t : Option FieldType) → Below u.rest → Fits (answer_without w u t)
  answer_without_fits u None k = record { is = k }
  answer_without_fits u (Some t) k = fault_fits

  act_return_fits : (u : Option Waiting) (v : Option Given) → WaitsWell u → Fits (act_return P w u v)
  act_return_fits None v k = fault_fits
  act_return_fits (Some u) None k = answer_without_fits u u.pending.answer k
  act_return_fits (Some u) (Some v) k = answer_with_fits u u.pending.answer (given_value w.known v) k

  act_throw_fits : (u : Option Waiting) (r : Option ℕ) → WaitsWell u → Fits (act_throw P w u r)
  act_throw_fits (Some u) (Some r) k =
      either_fits (u.pending.may_throw && is_throwable P w r) (thrown P w r (frames.Method u.frame ∷ u.rest)) (fault w)
      (thrown_fits P w r (frames.Method u.frame ∷ u.rest) k g) fault_fits
  act_throw_fits None r k = fault_fits
  act_throw_fits (Some u) None k = fault_fits

  got_of_value_fits : (v : Option Value) → Fits (got_of_value P w v)
  got_of_value_fits None = fault_fits
  got_of_value_fits (Some v) = record { is = g.is }

  got_fits : (o : Option Object) (i : ℤ) → Fits (act_array_get P w o i)
  got_fits None i = fault_fits
  got_fits (Some o) i = by o.shape where
    by : (s : Shape) → Fits (got_of_shape P w o.values i s)
    by (shapes.Array d n) = got_of_value_fits (option_and_then (slice_get o.values) (index_in i n))
    by (shapes.Folder c) = fault_fits
    by (shapes.External c also) = fault_fits

  set_at_fits : (r : ℕ) (t : FieldType) (v : Value) (at : Option ℕ) → Fits (set_at P w r t v at)
  set_at_fits r t v None = fault_fits
  set_at_fits r t v (Some at) =
      either_fits (value_conforms P w.memory.heap t v) (record w { memory = with_heap w.memory (with_value w.memory.heap r at (narrowed t v)) }) (fault w)
      (record { is = g.is }) fault_fits

  set_fits : (r : Option ℕ) (o : Option Object) (i : ℤ) (v : Option Value) → Fits (act_array_set P w r o i v)
  set_fits (Some r) (Some o) i (Some v) = by o.shape where
    by : (s : Shape) → Fits (set_of_shape P w r i v s)
    by (shapes.Array d n) = set_at_fits r (type_of (component_text d)) v (index_in i n)
    by (shapes.Folder c) = fault_fits
    by (shapes.External c also) = fault_fits
  set_fits None o i v = fault_fits
  set_fits (Some r) None i v = fault_fits
  set_fits (Some r) (Some o) i None = fault_fits

  length_fits : (o : Option Object) → Fits (act_array_length w o)
  length_fits None = fault_fits
  length_fits (Some o) = by o.shape where
    by : (s : Shape) → Fits (length_of_shape w s)
    by (shapes.Array d n) = record { is = g.is }
    by (shapes.Folder c) = fault_fits
    by (shapes.External c also) = fault_fits

  new_array_fits : (d : Name) (n : ℤ) → Fits (act_new_array P w d n)
  new_array_fits d (negsuc n) = fault_fits
  new_array_fits d (pos n) =
      either_fits (is_array_descriptor d && nat_le n most_elements) (shows_new P w (blank_array w.memory.heap d n)) (fault w) (record { is = g.is }) fault_fits

  new_external_fits : (c : Name) (also : List Name) → Fits (act_new_external P w c also)
  new_external_fits c also =
      either_fits (not (is_some (folder_number P c)) && (is_concrete (header_named P c) && not (list_any (λ name. not (is_interface_named P name)) also)))
      (shows_new P w (allocated w.memory.heap (shapes.External c also) [])) (fault w) (record { is = g.is }) fault_fits

  acted_fits : (a : Action) → Fits (acted P a w)
  acted_fits (actions.Call class name desc vs) = call_fits class name desc vs
  acted_fits (actions.Construct class desc vs) = construct_fits class desc _ _ _
  acted_fits (actions.Return value) = act_return_fits (waiting_in P w.frames) value (waiting_fits P w.frames g.is)
  acted_fits (actions.Throw number) = act_throw_fits (waiting_in P w.frames) (slice_get w.known number) (waiting_fits P w.frames g.is)
  acted_fits (actions.ArrayGet number index) = got_fits (known_object w (slice_get w.known number)) index
  acted_fits (actions.ArraySet number index value) = set_fits (slice_get w.known number) (known_object w (slice_get w.known number)) index (given_value w.known value)
  acted_fits (actions.ArrayLength number) = length_fits (known_object w (slice_get w.known number))
  acted_fits (actions.NewArray desc count) = new_array_fits desc count
  acted_fits (actions.NewExternal class also) = new_external_fits class also
  acted_fits actions.Stop = record { is = g.is }

pub act_fits : (P : Program) (a : Action) (w : World) → is_library_turn w.frames ≡ true → Fits w → Fits (act P a w)
act_fits P a w turn g =
    let counted : World = record w { steps = w.steps + 1 } in
    let after = acted P a counted in
    either_fits (is_fault after.halt) (fault w) after (record { is = g.is })
    (acted_fits P counted (turn_below w.frames turn g.is) (record { is = g.is }) a)
