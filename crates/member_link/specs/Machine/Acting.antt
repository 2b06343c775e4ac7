-- What the library does at its turn. An action that it may not take is a fault, which leaves all else as it was; each other one is a
-- step. What the library makes is not counted, a monitor that a method enters is.
use Rattle.std.specs.Prelude.{◌==◌, ◌+◌, ◌&&◌, ◌||◌, not, nat_le, ℕ, zero, suc, ℤ, pos, negsuc, Bool, true, false, List, [], ◌∷◌, slice_get, codes, Option, Some, None, is_some, option_map, option_and_then, if◌then◌else◌}
use Rattle.std.specs.List.{list_any}
use Rattle.class_model.specs.Characters.{dot, slash, semicolon, less_sign, left_bracket}
use Rattle.class_model.specs.Descriptors.{type_of, parameters_of}
use Rattle.class_model.specs.Members.{has, STATIC, ABSTRACT}
use Rattle.class_model.specs.Names.{init}
use Rattle.class_model.specs.declared.class_file.MethodAt.{MethodAt}
use Rattle.class_model.specs.declared.descriptor.FieldType.{FieldType}
use Rattle.class_model.specs.declared.descriptor.FieldType.TheVariants as types
use Rattle.class_model.specs.declared.descriptor.Kind.{Kind}
use Rattle.class_model.specs.declared.descriptor.Kind.TheVariants as kinds
use Rattle.class_model.specs.declared.header.Header.{Header}
use Rattle.class_tree.specs.Headers.{Name}
use Rattle.class_tree.specs.Names.{is_interface, throwable}
use Rattle.machine_values.specs.Frames.{MethodState}
use Rattle.machine_values.specs.declared.action.Action.{Action}
use Rattle.machine_values.specs.declared.action.Action.TheVariants as actions
use Rattle.machine_values.specs.declared.action.Given.{Given}
use Rattle.machine_values.specs.declared.action.Given.TheVariants as given
use Rattle.machine_values.specs.declared.frame.RunFrame.{RunFrame}
use Rattle.machine_values.specs.declared.frame.RunFrame.TheVariants.{Library, Method}
use Rattle.machine_values.specs.declared.object.Constant.TheVariants.{Handle}
use Rattle.machine_values.specs.declared.object.Object.{Object}
use Rattle.machine_values.specs.declared.object.Shape.{Shape}
use Rattle.machine_values.specs.declared.object.Shape.TheVariants.{Array, External}
use Rattle.machine_values.specs.declared.value.Value.{Value}
use Rattle.machine_values.specs.declared.value.Value.TheVariants.{Int, Long, Float, Double, Null, Ref}
use Rattle.member_link.specs.Machine.ArraySteps.{most_elements, blank_array, index_in}
use Rattle.member_link.specs.Machine.Beginnings.{begun_on}
use Rattle.machine_values.specs.Heaps.{Made, object_at, allocated, with_value, same_constant}
use Rattle.member_link.specs.Machine.ObjectSteps.{blank_object}
use Rattle.member_link.specs.Machine.Ops.{Op, float_arithmetic, get_static, put_static, get_field, put_field, call_static, call_virtual, call_interface, call_special, call_dynamic}
use Rattle.member_link.specs.Machine.Performing.{called, resumed, thrown, raised}
use Rattle.member_link.specs.Machine.Programs.{Program, RunMethod, folder_number, header_named, is_interface_named, place_of_method, run_method, code_at, point_at}
use Rattle.member_link.specs.Machine.Shapes.{class_in, is_instance, value_conforms}
use Rattle.member_link.specs.Machine.Showing.{shows_got, shows_made, shows_length}
use Rattle.member_link.specs.Machine.Throwables.{null_pointer}
use Rattle.machine_values.specs.Values.{narrowed, component_text}
use Rattle.member_link.specs.Machine.Worlds.{World, Halt, with_heap, is_begun, faulted, stopped}
use Rattle.member_link.specs.Rows.ArithmeticRows.{Operation, float_operations, operation_in}
use Rattle.member_link.specs.Signatures.{result_of}

abbrev pub fault : World → World
fault w = record w { halt = faulted }

-- ---- what is given

-- a known reference by its number
abbrev pub given_value : List ℕ → Given → Option Value
given_value known (given.Int number) = Some (Int number)
given_value known (given.Long number) = Some (Long number)
given_value known (given.Float bits) = Some (Float bits)
given_value known (given.Double bits) = Some (Double bits)
given_value known given.Null = Some Null
given_value known (given.Known number) = option_map Ref (slice_get known number)

abbrev pub given_values : List ℕ → List Given → Option (List Value)
given_values known [] = Some []
given_values known (one ∷ others) = both (given_value known one) (given_values known others) where
  both : Option Value → Option (List Value) → Option (List Value)
  both (Some value) (Some values) = Some (value ∷ values)
  both value values = None

-- as many values as types, each of which conforms
abbrev pub all_conform : Program → World → List FieldType → List Value → Bool
all_conform P w [] [] = true
all_conform P w (type ∷ types) (value ∷ values) =
    value_conforms P w.memory.heap type value && all_conform P w types values
all_conform P w types values = false

-- ---- calls

-- a class of the folder is begun on top of these frames, if it is not begun
abbrev pub beginning_of_number : Program → World → Option ℕ → World
beginning_of_number P w None = w
beginning_of_number P w (Some number) =
    if is_begun w.memory number then w else begun_on P number w w.frames

abbrev pub beginning_if : Program → Name → World → World
beginning_if P class w = beginning_of_number P w (folder_number P class)

abbrev pub begins_with_angle : List ℕ → Bool
begins_with_angle [] = false
begins_with_angle (first ∷ rest) = first == less_sign

abbrev pub call_of_static : Program → World → Name → List ℕ → MethodAt → List Value → World
call_of_static P w class desc at values =
    if all_conform P w (parameters_of desc) values
    then beginning_if P class (called P w at values w.frames)
    else fault w

-- a null receiver is no fault: the machine raises, and calls and begins nothing
abbrev pub call_on : Program → World → MethodAt → List Value → Value → World
call_on P w at values Null = raised P w null_pointer w.frames
call_on P w at values receiver = called P w at (receiver ∷ values) w.frames

abbrev pub call_of_instance : Program → World → Name → List ℕ → MethodAt → List Value → World
call_of_instance P w class desc at [] = fault w
call_of_instance P w class desc at (receiver ∷ values) =
    if all_conform P w (types.Named class ∷ parameters_of desc) (receiver ∷ values)
    then call_on P w at values receiver
    else fault w

abbrev pub call_by_sort : Program → World → Name → List ℕ → MethodAt → List Value → Bool → World
call_by_sort P w class desc at values true = call_of_static P w class desc at values
call_by_sort P w class desc at values false = call_of_instance P w class desc at values

abbrev pub call_of_method :
    Program → World → Name → List ℕ → MethodAt → List Value → Option RunMethod → World
call_of_method P w class desc at values None = fault w
call_of_method P w class desc at values (Some method) =
    if is_some (code_at P at)
    then call_by_sort P w class desc at values (has method.member.flags STATIC)
    else fault w

abbrev pub call_at : Program → World → Name → List ℕ → Option MethodAt → Option (List Value) → World
call_at P w class desc (Some at) (Some values) =
    call_of_method P w class desc at values (run_method P at)
call_at P w class desc at values = fault w

-- a method that the class itself declares
abbrev pub act_call : Program → World → Name → List ℕ → List ℕ → List Given → World
act_call P w class name desc values =
    if begins_with_angle name then fault w
    else call_at P w class desc
    (place_of_method P (record { class = class; name = name; desc = desc }))
    (given_values w.known values)

-- ---- constructions

-- the kind of a method handle that makes an object (4.4.8)
abbrev pub NEW_INVOKE_SPECIAL : ℕ
NEW_INVOKE_SPECIAL = 8

abbrev pub is_handled : Program → Name → List ℕ → Bool
is_handled P class desc =
    list_any
    (λ found.
    list_any (same_constant (Handle NEW_INVOKE_SPECIAL class init desc)) found.handles)
    P.classes

abbrev pub is_concrete : Option Header → Bool
is_concrete None = false
is_concrete (Some header) = not (has header.flags ABSTRACT || is_interface header)

-- the library's frame keeps what it makes
abbrev pub with_made : ℕ → List RunFrame → List RunFrame
with_made reference (Library made ∷ rest) = Library (Some reference) ∷ rest
with_made reference frames = frames

-- the instance initialiser runs on the new object
abbrev pub constructed : Program → World → Name → MethodAt → List Value → Made → World
constructed P w class at values made =
    beginning_if P class
    (called P (record w { memory = with_heap w.memory made.heap }) at (Ref made.reference ∷ values)
    (with_made made.reference w.frames))

abbrev pub construct_at :
    Program → World → Name → List ℕ → Option ℕ → Option MethodAt → Option (List Value) → World
construct_at P w class desc (Some number) (Some at) (Some values) =
    if is_some (code_at P at)
    && (is_concrete (header_named P class)
    && (is_handled P class desc && all_conform P w (parameters_of desc) values))
    then constructed P w class at values (blank_object P w.memory.heap number)
    else fault w
construct_at P w class desc number at values = fault w

abbrev pub act_construct : Program → World → Name → List ℕ → List Given → World
act_construct P w class desc values =
    construct_at P w class desc (folder_number P class)
    (place_of_method P (record { class = class; name = init; desc = desc }))
    (given_values w.known values)

-- ---- answers

-- what an event waits for: a value of a type, or none; and whether the library may throw in its place
pub record Pending : Type 0 where
  pub answer : Option FieldType
  pub may_throw : Bool

abbrev pub pending : Option FieldType → Bool → Option Pending
pending answer may_throw = Some (record { answer = answer; may_throw = may_throw })

abbrev pub type_of_kind : Kind → FieldType
type_of_kind kinds.Int = types.Int
type_of_kind kinds.Long = types.Long
type_of_kind kinds.Float = types.Float
type_of_kind kinds.Double = types.Double
type_of_kind kinds.Ref = types.Named []

abbrev pub pending_of : Op → Option Pending
pending_of (call_static method) = pending (result_of method.desc) true
pending_of (call_virtual method) = pending (result_of method.desc) true
pending_of (call_interface method) = pending (result_of method.desc) true
pending_of (call_special method from) = pending (result_of method.desc) true
pending_of (call_dynamic class bootstrap name desc) = pending (result_of desc) true
pending_of (get_static field) = pending (Some (type_of field.desc)) false
pending_of (get_field field) = pending (Some (type_of field.desc)) false
pending_of (put_static field initialises) = pending None false
pending_of (put_field field initialises) = pending None false
pending_of (float_arithmetic opcode) = of_operation (operation_in float_operations opcode) where
  of_operation : Option Operation → Option Pending
  of_operation None = None
  of_operation (Some operation) = pending (Some (type_of_kind operation.gives)) false
pending_of op = None

-- the method's frame below the library's, and what it waits for
pub record Waiting : Type 0 where
  pub frame : MethodState
  pub rest : List RunFrame
  pub pending : Pending

abbrev pub waiting_in : Program → List RunFrame → Option Waiting
waiting_in P (Library made ∷ Method f ∷ rest) =
    option_map (λ p. record { frame = f; rest = rest; pending = p })
    (option_and_then (λ point. pending_of point.op) (point_at P f.at f.place))
waiting_in P frames = None

-- the frame that waits goes on with these values
abbrev pub answered : World → Waiting → List Value → World
answered w waiting values =
    record w { frames = Method (resumed waiting.frame values) ∷ waiting.rest }

-- a value that conforms to the type goes to it, narrowed
abbrev pub answer_with : Program → World → Waiting → Option FieldType → Option Value → World
answer_with P w waiting (Some type) (Some value) =
    if value_conforms P w.memory.heap type value
    then answered w waiting (narrowed type value ∷ [])
    else fault w
answer_with P w waiting type value = fault w

abbrev pub answer_without : World → Waiting → Option FieldType → World
answer_without w waiting None = answered w waiting []
answer_without w waiting (Some type) = fault w

abbrev pub act_return : Program → World → Option Waiting → Option Given → World
act_return P w None value = fault w
act_return P w (Some waiting) None = answer_without w waiting waiting.pending.answer
act_return P w (Some waiting) (Some value) =
    answer_with P w waiting waiting.pending.answer (given_value w.known value)

abbrev pub is_throwable : Program → World → ℕ → Bool
is_throwable P w reference = of_object (object_at w.memory.heap reference) where
  of_object : Option Object → Bool
  of_object None = false
  of_object (Some found) = is_instance P found.shape throwable

abbrev pub act_throw : Program → World → Option Waiting → Option ℕ → World
act_throw P w (Some waiting) (Some reference) =
    if waiting.pending.may_throw && is_throwable P w reference
    then thrown P w reference (Method waiting.frame ∷ waiting.rest)
    else fault w
act_throw P w waiting reference = fault w

-- ---- arrays and objects of the library

-- the object of a known reference
abbrev pub known_object : World → Option ℕ → Option Object
known_object w reference = option_and_then (object_at w.memory.heap) reference

abbrev pub got_of_value : Program → World → Option Value → World
got_of_value P w None = fault w
got_of_value P w (Some value) = shows_got P w value

abbrev pub got_of_shape : Program → World → List Value → ℤ → Shape → World
got_of_shape P w values index (Array desc len) =
    got_of_value P w (option_and_then (slice_get values) (index_in index len))
got_of_shape P w values index shape = fault w

abbrev pub act_array_get : Program → World → Option Object → ℤ → World
act_array_get P w None index = fault w
act_array_get P w (Some found) index = got_of_shape P w found.values index found.shape

abbrev pub set_at : Program → World → ℕ → FieldType → Value → Option ℕ → World
set_at P w reference type value None = fault w
set_at P w reference type value (Some at) =
    if value_conforms P w.memory.heap type value
    then record w {
      memory = with_heap w.memory (with_value w.memory.heap reference at (narrowed type value));
    }
    else fault w

abbrev pub set_of_shape : Program → World → ℕ → ℤ → Value → Shape → World
set_of_shape P w reference index value (Array desc len) =
    set_at P w reference (type_of (component_text desc)) value (index_in index len)
set_of_shape P w reference index value shape = fault w

abbrev pub act_array_set : Program → World → Option ℕ → Option Object → ℤ → Option Value → World
act_array_set P w (Some reference) (Some found) index (Some value) =
    set_of_shape P w reference index value found.shape
act_array_set P w reference found index value = fault w

abbrev pub length_of_shape : World → Shape → World
length_of_shape w (Array desc len) = shows_length w len
length_of_shape w shape = fault w

abbrev pub act_array_length : World → Option Object → World
act_array_length w None = fault w
act_array_length w (Some found) = length_of_shape w found.shape

-- names joined by slashes: none is empty, and none has a dot, a semicolon, a bracket or a slash; the first test says that a name begins
abbrev pub are_joined : Bool → List ℕ → Bool
are_joined begins [] = not begins
are_joined begins (byte ∷ rest) =
    if byte == slash then not begins && are_joined true rest
    else not (byte == dot || (byte == semicolon || byte == left_bracket)) && are_joined false rest

-- the descriptor of an element: a base type, or a class between L and ;
abbrev pub is_element : List ℕ → Bool
is_element [] = false
is_element (letter ∷ []) = list_any (λ other. other == letter) (codes "BCDFIJSZ")
is_element (letter ∷ rest) = ends_well rest && of_class (class_in (letter ∷ rest)) where
  ends_well : List ℕ → Bool
  ends_well [] = false
  ends_well (last ∷ []) = last == semicolon
  ends_well (byte ∷ others) = ends_well others

  of_class : Option Name → Bool
  of_class None = false
  of_class (Some name) = are_joined true name

-- an array type of at most so many dimensions, and one or more
abbrev pub is_array_within : ℕ → List ℕ → Bool
is_array_within zero text = false
is_array_within (suc left) [] = false
is_array_within (suc left) (first ∷ rest) =
    first == left_bracket && (is_element rest || is_array_within left rest)

abbrev pub is_array_descriptor : List ℕ → Bool
is_array_descriptor text = is_array_within 255 text

-- the library sees what it made
abbrev pub shows_new : Program → World → Made → World
shows_new P w made =
    shows_made P (record w { memory = with_heap w.memory made.heap }) made.reference

abbrev pub act_new_array : Program → World → Name → ℤ → World
act_new_array P w desc (negsuc n) = fault w
act_new_array P w desc (pos count) =
    if is_array_descriptor desc && nat_le count most_elements
    then shows_new P w (blank_array w.memory.heap desc count)
    else fault w

-- a concrete class of the library, and interfaces of both
abbrev pub act_new_external : Program → World → Name → List Name → World
act_new_external P w class also =
    if not (is_some (folder_number P class))
    && (is_concrete (header_named P class)
    && not (list_any (λ name. not (is_interface_named P name)) also))
    then shows_new P w (allocated w.memory.heap (External class also) [])
    else fault w

-- ---- an action

abbrev pub acted : Program → Action → World → World
acted P (actions.Call class name desc values) w = act_call P w class name desc values
acted P (actions.Construct class desc values) w = act_construct P w class desc values
acted P (actions.Return value) w = act_return P w (waiting_in P w.frames) value
acted P (actions.Throw number) w = act_throw P w (waiting_in P w.frames) (slice_get w.known number)
acted P (actions.ArrayGet number index) w =
    act_array_get P w (known_object w (slice_get w.known number)) index
acted P (actions.ArraySet number index value) w =
    act_array_set P w (slice_get w.known number) (known_object w (slice_get w.known number)) index
    (given_value w.known value)
acted P (actions.ArrayLength number) w =
    act_array_length w (known_object w (slice_get w.known number))
acted P (actions.NewArray desc count) w = act_new_array P w desc count
acted P (actions.NewExternal class also) w = act_new_external P w class also
acted P actions.Stop w = record w { halt = stopped }

abbrev pub is_fault : Halt → Bool
is_fault faulted = true
is_fault halt = false

-- a fault leaves the world before it
abbrev pub unless_fault : World → World → World
unless_fault before after = if is_fault after.halt then fault before else after

-- the step of an action that is no fault is counted
abbrev pub act : Program → Action → World → World
act P action w = unless_fault w (acted P action (record w { steps = w.steps + 1 }))
