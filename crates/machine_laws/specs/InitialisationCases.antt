-- Small programs and what they show: initialisation of classes.
use Rattle.std.specs.Prelude.{ℕ, pos, List, [], ◌∷◌, codes, Some, None}
use Rattle.class_model.specs.declared.descriptor.FieldType.TheVariants as types
use Rattle.class_model.specs.declared.opcodes.TheConstants.{POP, IDIV}
use Rattle.class_tree.specs.Headers.{Name}
use Rattle.class_tree.specs.Names.{object}
use Rattle.machine_values.specs.declared.action.Action.{Action}
use Rattle.machine_values.specs.declared.action.Action.TheVariants as actions
use Rattle.machine_values.specs.declared.event.End.TheVariants as ends
use Rattle.machine_values.specs.declared.event.Event.{Event}
use Rattle.machine_values.specs.declared.event.Seen.{Seen}
use Rattle.machine_values.specs.declared.event.Seen.TheVariants as seen
use Rattle.machine_values.specs.declared.object.Constant.TheVariants as constants
use Rattle.machine_values.specs.declared.value.Value.TheVariants as values
use Rattle.machine_laws.specs.TestPrograms.{reference, member, program, with_code, without_code, class_above, class, int, use_of_L, super_init, made_by_library, T_fields, shows, result_int, new_ref, call_T, with_catches, range, string_ref, result, made, asked_use}
use Rattle.member_link.specs.Machine.Ops as ops
use Rattle.member_link.specs.Machine.Programs.{Program, RunClass, RunMethod, start_value}
use Rattle.member_link.specs.References.{Reference}

-- a class initialiser that calls L.use of a text
abbrev pub shows_text : List ℕ → RunMethod
shows_text text = with_code 8 (codes "<clinit>") (codes "()V") 0 (
    ops.push_constant (constants.Str text)
    ∷ ops.call_static use_of_L
    ∷ ops.return_nothing
    ∷ []
    )

-- class A { static final byte a = 300; static { L.use("A"); } }, where 300 is its ConstantValue
abbrev pub constant_A : RunClass
constant_A = record (
    class 33 (codes "A") (member 8 (codes "a") (codes "B") ∷ []) (shows_text (codes "A") ∷ [])
    ) {
      starts = record { field = 0; value = start_value (values.Int (pos 300)) } ∷ [];
    }

abbrev pub b_of_B : Reference
b_of_B = reference (codes "B") (codes "b") (codes "I")

-- class B extends A { static int b; static { b = a; } static int get() { return b; } }
abbrev pub constant_clinit : RunMethod
constant_clinit = with_code 8 (codes "<clinit>") (codes "()V") 0 (
    ops.get_static (reference (codes "A") (codes "a") (codes "B"))
    ∷ ops.put_static b_of_B (Some (codes "B"))
    ∷ ops.return_nothing
    ∷ []
    )

abbrev pub constant_get : RunMethod
constant_get = with_code 9 (codes "get") (codes "()I") 0 (
    ops.get_static b_of_B
    ∷ ops.return_value types.Int
    ∷ []
    )

abbrev pub init_program : Program
init_program = program (
    constant_A
    ∷ class_above 33 (codes "B") (codes "A") [] (member 8 (codes "b") (codes "I") ∷ [])
    (constant_clinit ∷ constant_get ∷ [])
    ∷ []
    )

-- ---- which instruction begins a class, and which classes come first

abbrev pub default_method : RunMethod
default_method =
    with_code 1 (codes "z") (codes "()I") 1 (int (pos 0) ∷ ops.return_value types.Int ∷ [])

-- an interface with a default method
abbrev pub default_interface : Name → List Name → RunClass
default_interface name above = class_above 1537 name object above
    (member 25 (codes "x") (codes "I") ∷ []) (default_method ∷ shows_text name ∷ [])

-- an interface without one
abbrev pub plain_interface : Name → List Name → RunClass
plain_interface name above = class_above 1537 name object above [] (shows_text name ∷ [])

abbrev pub x_of : Name → Reference
x_of class = reference class (codes "x") (codes "I")

abbrev pub init_reading : List ℕ → Name → RunMethod
init_reading name class = with_code 9 name (codes "()I") 0 (
    ops.get_static (x_of class)
    ∷ ops.return_value types.Int
    ∷ []
    )

abbrev pub init_new : RunMethod
init_new = with_code 9 (codes "new") (codes "()I") 0 (
    ops.new_object (codes "B")
    ∷ ops.shuffle_stack POP
    ∷ int (pos 0)
    ∷ ops.return_value types.Int
    ∷ []
    )

abbrev pub init_put : RunMethod
init_put = with_code 9 (codes "put") (codes "()I") 0 (
    int (pos 0)
    ∷ ops.put_static (x_of (codes "B")) None
    ∷ int (pos 0)
    ∷ ops.return_value types.Int
    ∷ []
    )

abbrev pub init_call : RunMethod
init_call = with_code 9 (codes "call") (codes "()I") 0 (
    ops.call_static (reference (codes "B") (codes "m") (codes "()I"))
    ∷ ops.return_value types.Int
    ∷ []
    )

abbrev pub init_m : RunMethod
init_m = with_code 9 (codes "m") (codes "()I") 0 (int (pos 0) ∷ ops.return_value types.Int ∷ [])

-- class B extends A implements I1; I1 extends I0 and J; A implements J, which has no default
-- method; C extends B
abbrev pub order_program : Program
order_program = program (
    class_above 33 (codes "C") (codes "B") [] [] (shows_text (codes "C") ∷ [])
    ∷ made_by_library (codes "B")
    (class_above 33 (codes "B") (codes "A") (codes "I1" ∷ [])
    (member 8 (codes "x") (codes "I") ∷ [])
    (super_init (codes "A") ∷ init_m ∷ shows_text (codes "B") ∷ []))
    ∷ class_above 33 (codes "A") object (codes "J" ∷ []) []
    (super_init object ∷ shows_text (codes "A") ∷ [])
    ∷ default_interface (codes "I1") (codes "I0" ∷ codes "J" ∷ [])
    ∷ default_interface (codes "I0") []
    ∷ plain_interface (codes "J") []
    ∷ T_fields [] (
    init_new
    ∷ init_put
    ∷ init_call
    ∷ init_reading (codes "get") (codes "B")
    ∷ init_reading (codes "below") (codes "C")
    ∷ init_reading (codes "interface") (codes "I1")
    ∷ []
    )
    ∷ []
    )

abbrev pub begun : ℕ → List ℕ → ℕ → List ℕ → Event
begun number text allocations monitors =
    asked_use (seen.Ref (string_ref number text)) allocations 0 monitors

-- the library answers four class initialisers, and sees what the action ends with
abbrev pub begins_four : Action → ℕ → Seen → List ℕ → Type 0
begins_four action allocations last monitors = shows order_program (
    action
    ∷ actions.Return None
    ∷ actions.Return None
    ∷ actions.Return None
    ∷ actions.Return None
    ∷ actions.Stop
    ∷ []
    ) (
    begun 0 (codes "A") 0 (0 ∷ [])
    ∷ begun 1 (codes "I0") 0 (0 ∷ 0 ∷ [])
    ∷ begun 2 (codes "I1") 0 (0 ∷ 0 ∷ 0 ∷ [])
    ∷ begun 3 (codes "B") 0 (0 ∷ 0 ∷ 0 ∷ 0 ∷ [])
    ∷ result last allocations 0 monitors
    ∷ []
    ) ends.Stopped

abbrev pub begins_by : List ℕ → ℕ → Type 0
begins_by name allocations =
    begins_four (call_T name (codes "()I") []) allocations (seen.Int (pos 0)) (0 ∷ 0 ∷ 0 ∷ 0 ∷ [])

-- ---- an exception out of a class initialiser

-- class Z { static int x; static { x = 1 / 0; } }
abbrev pub throwing_clinit : RunMethod
throwing_clinit = with_code 8 (codes "<clinit>") (codes "()V") 0 (
    int (pos 1)
    ∷ int (pos 0)
    ∷ ops.division IDIV
    ∷ ops.put_static (x_of (codes "Z")) (Some (codes "Z"))
    ∷ ops.return_nothing
    ∷ []
    )

-- a handler around the instruction that begins the class does not catch it
abbrev pub throwing_get : RunMethod
throwing_get = with_catches 9 (codes "get") (codes "()I") 0 (
    ops.get_static (x_of (codes "Z"))
    ∷ ops.return_value types.Int
    ∷ ops.shuffle_stack POP
    ∷ int (pos 1)
    ∷ ops.return_value types.Int
    ∷ []
    ) (range 0 2 2 None ∷ [])

abbrev pub throwing_init_program : Program
throwing_init_program = program (
    class 33 (codes "Z") (member 8 (codes "x") (codes "I") ∷ []) (throwing_clinit ∷ [])
    ∷ T_fields [] (throwing_get ∷ [])
    ∷ []
    )

-- ---- a class initialiser without code

-- class N { static final int x = 5; } with a native class initialiser
abbrev pub native_N : RunClass
native_N = record (
    class 33 (codes "N") (member 8 (codes "x") (codes "I") ∷ [])
    (without_code 264 (codes "<clinit>") (codes "()V") ∷ [])
    ) {
      starts = record { field = 0; value = start_value (values.Int (pos 5)) } ∷ [];
    }

-- class M extends N { static int x; static { L.use("M"); } }
abbrev pub native_init_program : Program
native_init_program = program (
    native_N
    ∷ class_above 33 (codes "M") (codes "N") [] (member 8 (codes "x") (codes "I") ∷ [])
    (shows_text (codes "M") ∷ [])
    ∷ T_fields [] (init_reading (codes "n") (codes "N") ∷ init_reading (codes "m") (codes "M") ∷ [])
    ∷ []
    )

pub record RunInitialisation : Type 0 where
  -- the superclass is begun first, its constant value is narrowed, and each class is begun once
  pub superclass_first : shows init_program (
      actions.Call (codes "B") (codes "get") (codes "()I") []
      ∷ actions.Return None
      ∷ actions.Call (codes "B") (codes "get") (codes "()I") []
      ∷ actions.Stop
      ∷ []
      ) (
      asked_use (seen.Ref (string_ref 0 (codes "A"))) 0 0 (0 ∷ [])
      ∷ result_int (pos 44) 0 0 (0 ∷ [])
      ∷ result_int (pos 44) 0 0 (0 ∷ [])
      ∷ []
      ) ends.Stopped
  pub initialiser_throws : shows init_program (
      actions.Call (codes "B") (codes "get") (codes "()I") []
      ∷ actions.NewExternal (codes "java/lang/ArithmeticException") []
      ∷ actions.Throw 1
      ∷ actions.Stop
      ∷ []
      ) (
      asked_use (seen.Ref (string_ref 0 (codes "A"))) 0 0 (0 ∷ [])
      ∷ made 1 (codes "java/lang/ArithmeticException") 0 0 (0 ∷ 0 ∷ [])
      ∷ []
      ) ends.InitThrew
  -- the superclass, then the superinterfaces with a default method, each behind its own, and
  -- then the class
  pub by_new : begins_by (codes "new") 1
  pub by_putstatic : begins_by (codes "put") 0
  pub by_invokestatic : begins_by (codes "call") 0
  pub by_getstatic : begins_by (codes "get") 0
  -- of an inherited field the class that declares it is begun
  pub by_declaring_class : begins_by (codes "below") 0
  pub by_call : begins_four (actions.Call (codes "B") (codes "m") (codes "()I") []) 0
      (seen.Int (pos 0)) (0 ∷ 0 ∷ 0 ∷ 0 ∷ [])
  pub by_construct : begins_four (actions.Construct (codes "B") (codes "()V") []) 0
      (seen.Ref (new_ref 4 (codes "B"))) (0 ∷ 0 ∷ 0 ∷ 0 ∷ 0 ∷ [])
  -- nothing comes before an interface
  pub interface_alone : shows order_program (
      call_T (codes "interface") (codes "()I") []
      ∷ actions.Return None
      ∷ actions.Stop
      ∷ []
      ) (
      begun 0 (codes "I1") 0 (0 ∷ [])
      ∷ result_int (pos 0) 0 0 (0 ∷ [])
      ∷ []
      ) ends.Stopped
  -- the class is begun, and its initialiser is not called
  pub native_initialiser : shows native_init_program (
      call_T (codes "n") (codes "()I") []
      ∷ call_T (codes "n") (codes "()I") []
      ∷ actions.Stop
      ∷ []
      ) (result_int (pos 5) 0 0 [] ∷ result_int (pos 5) 0 0 [] ∷ []) ends.Stopped
  pub native_initialiser_above : shows native_init_program (
      call_T (codes "m") (codes "()I") []
      ∷ actions.Return None
      ∷ call_T (codes "n") (codes "()I") []
      ∷ actions.Stop
      ∷ []
      ) (
      begun 0 (codes "M") 0 (0 ∷ [])
      ∷ result_int (pos 0) 0 0 (0 ∷ [])
      ∷ result_int (pos 5) 0 0 (0 ∷ [])
      ∷ []
      ) ends.Stopped
  pub initialiser_divides : shows throwing_init_program (
      call_T (codes "get") (codes "()I") []
      ∷ actions.Stop
      ∷ []
      ) [] ends.InitThrew
