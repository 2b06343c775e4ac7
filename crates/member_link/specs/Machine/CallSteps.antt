-- Calls (JVM Specification SE 8, 6.5: invokestatic, invokespecial, invokevirtual, invokeinterface, invokedynamic). Null is tested first. A
-- call is external where the receiver's class is the library's, or the method that it runs is native or the library's.
use Rattle.std.specs.Prelude.{◌&&◌, ◌||◌, not, ℕ, Bool, true, false, List, [], ◌∷◌, bytes_eq, codes, Option, Some, None, is_some, if◌then◌else◌}
use Rattle.class_model.specs.Descriptors.{parameters_of}
use Rattle.class_model.specs.Members.{ABSTRACT, STATIC}
use Rattle.class_model.specs.Names.{init}
use Rattle.class_model.specs.declared.class_file.MethodAt.{MethodAt}
use Rattle.class_tree.specs.Headers.{Name}
use Rattle.class_tree.specs.Names.{object, method_handle}
use Rattle.machine_values.specs.declared.object.Object.{Object}
use Rattle.machine_values.specs.declared.object.Shape.{Shape}
use Rattle.machine_values.specs.declared.value.Value.{Value}
use Rattle.machine_values.specs.declared.value.Value.TheVariants.{Null, Ref}
use Rattle.member_link.specs.Machine.Completions.{Completion, gives, raises, calls, asks, ends, asks_call, asks_dynamic}
use Rattle.member_link.specs.Machine.FieldSteps.{begun_first}
use Rattle.machine_values.specs.Heaps.{object_at}
use Rattle.member_link.specs.Machine.Programs.{Program, Chosen, chosen, abstract_method, several_defaults, not_public, folder_number, place_of_method, code_at, method_of, has_flag}
use Rattle.member_link.specs.Machine.Shapes.{class_of_shape, is_external, is_instance, shape_conforms}
use Rattle.member_link.specs.Machine.Throwables.{null_pointer, illegal_access, incompatible_change, abstract_called}
use Rattle.machine_values.specs.Values.{have_kinds}
use Rattle.member_link.specs.Machine.Worlds.{Memory, stuck}
use Rattle.member_link.specs.References.{Reference}
use Rattle.member_link.specs.declared.selection.CallForm.TheVariants.{Virtual, Interface, Special}

-- ---- the method that runs

-- a method of the folder with code gets a frame, and of another one the library is asked
abbrev pub run_call : Program → Reference → List Value → Completion
run_call P method values = of_place (place_of_method P method) where
  of_place : Option MethodAt → Completion
  of_place None = asks (asks_call method values)
  of_place (Some at) =
      if is_some (code_at P at) then calls at values else asks (asks_call method values)

abbrev pub run_chosen : Program → Chosen → List Value → Completion
run_chosen P (chosen method) values = run_call P method values
run_chosen P abstract_method values = raises abstract_called
run_chosen P several_defaults values = raises incompatible_change
run_chosen P not_public values = raises illegal_access

-- ---- methods that are found under every descriptor

-- The methods of the library's java/lang/invoke/MethodHandle that are signature polymorphic (2.9): nothing is selected, and the
-- library is asked.
abbrev pub is_polymorphic : Program → Reference → Bool
is_polymorphic P named =
    bytes_eq named.class method_handle
    && ((bytes_eq named.name (codes "invoke") || bytes_eq named.name (codes "invokeExact"))
    && not (is_some (folder_number P named.class)))

-- the method that the library is asked for: of a signature polymorphic one, by the descriptor of the call
abbrev pub as_asked : Program → Reference → Reference → Reference
as_asked P named found =
    if is_polymorphic P named then record found { desc = named.desc } else found

-- ---- static methods: the class that declares the method is begun first

abbrev pub call_static_work :
    Program → Memory → Reference → Option Reference → List Value → Completion
call_static_work P memory named None values = ends stuck
call_static_work P memory named (Some found) values =
    if has_flag (method_of P found) STATIC && have_kinds (parameters_of named.desc) values
    then begun_first P memory found.class (run_call P (as_asked P named found) values)
    else ends stuck

-- ---- methods of an object

-- What a call on an object of a shape comes to, after the test of null: of a receiver of the library's class, and of a signature
-- polymorphic method, the library is asked for the found method.
abbrev pub on_receiver : Program → Shape → Reference → Reference → Chosen → List Value → Completion
on_receiver P shape named found choice values =
    if is_external shape || is_polymorphic P named
    then asks (asks_call (as_asked P named found) values)
    else run_chosen P choice values

-- The receiver and the arguments of a call: what happens for null, for an object of a shape, and for operands that are none.
abbrev pub with_receiver :
    Program → Memory → List ℕ → (Shape → Completion) → List Value → Completion
with_receiver P memory desc of_shape [] = ends stuck
with_receiver P memory desc of_shape (receiver ∷ values) =
    if have_kinds (parameters_of desc) values then of_receiver receiver else ends stuck where
      of_object : Option Object → Completion
      of_object None = ends stuck
      of_object (Some object) = of_shape object.shape

      of_receiver : Value → Completion
      of_receiver Null = raises null_pointer
      of_receiver (Ref reference) = of_object (object_at memory.heap reference)
      of_receiver other = ends stuck

-- on an object of a shape
abbrev pub virtual_on : Program → Reference → Reference → List Value → Shape → Completion
virtual_on P named found values shape =
    on_receiver P shape named found (P.links.select (class_of_shape P shape) found Virtual) values

-- the receiver conforms to the named class, or the run ends
abbrev pub if_conforms : Program → Reference → (Shape → Completion) → Shape → Completion
if_conforms P named of_shape shape =
    if shape_conforms P shape named.class then of_shape shape else ends stuck

abbrev pub call_virtual_work :
    Program → Memory → Reference → Option Reference → List Value → Completion
call_virtual_work P memory named None values = ends stuck
call_virtual_work P memory named (Some found) values =
    if has_flag (method_of P found) STATIC then ends stuck
    else with_receiver P memory named.desc (if_conforms P named (virtual_on P named found values))
    values

-- The interface is asked of every receiver, after null and before all else.
abbrev pub interface_on : Program → Reference → Reference → List Value → Shape → Completion
interface_on P named found values shape =
    if is_instance P shape named.class
    then on_receiver P shape named found (P.links.select (class_of_shape P shape) found Interface)
    values
    else raises incompatible_change

abbrev pub call_interface_work :
    Program → Memory → Reference → Option Reference → List Value → Completion
call_interface_work P memory named None values = ends stuck
call_interface_work P memory named (Some found) values =
    if has_flag (method_of P found) STATIC
    then ends stuck
    else with_receiver P memory named.desc (interface_on P named found values) values

-- the instance initialiser of java/lang/Object does nothing
abbrev pub is_object_init : Reference → Bool
is_object_init method = bytes_eq method.class object && bytes_eq method.name init

-- an instance initialiser is found in the named class alone
abbrev pub found_special : Program → Reference → Option Reference
found_special P named =
    if bytes_eq named.name init
    then own (is_some (method_of P named))
    else P.links.method named where
      own : Bool → Option Reference
      own true = Some named
      own false = None

-- the method that a special call from a class on runs: of an instance initialiser that one, if it is not abstract
abbrev pub special_choice : Program → Name → Reference → Chosen
special_choice P from found =
    if bytes_eq found.name init
    then itself (has_flag (method_of P found) ABSTRACT)
    else P.links.select from found Special where
      itself : Bool → Chosen
      itself true = abstract_method
      itself false = chosen found

abbrev pub special_on :
    Program → Memory → Reference → Name → Reference → List Value → Shape → Completion
special_on P memory named from found values shape =
    if is_object_init found
    then gives memory []
    else on_receiver P shape named found (special_choice P from found) values

abbrev pub call_found_special :
    Program → Memory → Reference → Name → Option Reference → List Value → Completion
call_found_special P memory named from None values = ends stuck
call_found_special P memory named from (Some found) values =
    if has_flag (method_of P found) STATIC then ends stuck
    else with_receiver P memory named.desc
    (if_conforms P named (special_on P memory named from found values)) values

abbrev pub call_special_work : Program → Memory → Reference → Name → List Value → Completion
call_special_work P memory named from values =
    call_found_special P memory named from (found_special P named) values

-- ---- dynamic calls: the library is asked

abbrev pub call_dynamic_work : Name → ℕ → List ℕ → List ℕ → List Value → Completion
call_dynamic_work class bootstrap name desc values =
    if have_kinds (parameters_of desc) values
    then asks (asks_dynamic class bootstrap name desc values)
    else ends stuck
