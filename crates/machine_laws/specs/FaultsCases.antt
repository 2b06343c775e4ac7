-- Small programs and what they show: actions that are faults, and the ends of runs.
use Rattle.std.specs.Prelude.{ℕ, pos, negsuc, List, [], ◌∷◌, codes, Some, None}
use Rattle.class_model.specs.declared.descriptor.FieldType.TheVariants as types
use Rattle.class_model.specs.declared.descriptor.Kind.TheVariants as kinds
use Rattle.class_model.specs.declared.opcodes.TheConstants.{FADD}
use Rattle.class_tree.specs.Headers.{Name}
use Rattle.class_tree.specs.Names.{object}
use Rattle.machine_values.specs.declared.action.Action.{Action}
use Rattle.machine_values.specs.declared.action.Action.TheVariants as actions
use Rattle.machine_values.specs.declared.action.Given.TheVariants as given
use Rattle.machine_values.specs.declared.event.End.TheVariants as ends
use Rattle.machine_values.specs.declared.event.Event.{Event}
use Rattle.machine_values.specs.declared.event.EventKind.{EventKind}
use Rattle.machine_values.specs.declared.event.EventKind.TheVariants as events
use Rattle.machine_values.specs.declared.event.Seen.TheVariants as seen
use Rattle.machine_values.specs.declared.object.Constant.TheVariants as constants
use Rattle.machine_values.specs.declared.value.Value.TheVariants as values
use Rattle.machine_laws.specs.TestPrograms.{asking_number, reference, program, with_code, without_code, class_above, class, int, use_of_L, super_init, made_by_library, x_of_P, P_class, T_fields, shows, event, result_int, new_ref, call_T, shows_in, new_external, made}
use Rattle.machine_laws.specs.WorkedProgramsCases.{j_program}
use Rattle.machine_laws.specs.ArraysCases.{throwing_program}
use Rattle.member_link.specs.Machine.Ops as ops
use Rattle.member_link.specs.Machine.Programs.{Program, RunMethod}
use Rattle.member_link.specs.References.{Reference}

-- class P with a handle to its constructor
abbrev pub handled_g : RunMethod
handled_g = with_code 9 (codes "g") (codes "(LP;)I") 2 (
    ops.load_local kinds.Ref 0
    ∷ ops.get_field x_of_P
    ∷ ops.return_value types.Int
    ∷ []
    )

abbrev pub handled_program : Program
handled_program = program (
    record P_class {
      handles = constants.Handle 8 (codes "P") (codes "<init>") (codes "(II)V") ∷ [];
    }
    ∷ T_fields [] (handled_g ∷ [])
    ∷ []
    )

-- ---- what waits for an answer

-- static void use() { L.use(null); }
abbrev pub asking_use : RunMethod
asking_use = with_code 9 (codes "use") (codes "()V") 0 (
    ops.push_value values.Null
    ∷ ops.call_static use_of_L
    ∷ ops.return_nothing
    ∷ []
    )

abbrev pub n_of_L : Reference
n_of_L = reference (codes "L") (codes "n") (codes "I")

abbrev pub asking_get : RunMethod
asking_get = with_code 9 (codes "get") (codes "()I") 0
    (ops.get_static n_of_L ∷ ops.return_value types.Int ∷ [])

abbrev pub asking_put : RunMethod
asking_put = with_code 9 (codes "put") (codes "()V") 0
    (int (pos 7) ∷ ops.put_static n_of_L None ∷ ops.return_nothing ∷ [])

abbrev pub asking_add : RunMethod
asking_add = with_code 9 (codes "add") (codes "()F") 0 (
    ops.push_value (values.Float 1)
    ∷ ops.push_value (values.Float 2)
    ∷ ops.float_arithmetic FADD
    ∷ ops.return_value types.Float
    ∷ []
    )

-- static int one(DESC a) { return 1; }, of an argument of a type
abbrev pub taking : List ℕ → RunMethod
taking desc = with_code 9 (codes "one") desc 1 (int (pos 1) ∷ ops.return_value types.Int ∷ [])

-- class Abstract is abstract and has a handle to its constructor; Below inherits a method of T
abbrev pub asking_program : Program
asking_program = program (
    T_fields [] (
    asking_use
    ∷ asking_number
    ∷ asking_get
    ∷ asking_put
    ∷ asking_add
    ∷ without_code 265 (codes "native") (codes "()V")
    ∷ taking (codes "(LI;)I")
    ∷ taking (codes "([LI;)I")
    ∷ taking (codes "([Ljava/lang/Object;)I")
    ∷ taking (codes "([[Ljava/lang/Object;)I")
    ∷ []
    )
    ∷ made_by_library (codes "Abstract") (class 1057 (codes "Abstract") [] (super_init object ∷ []))
    ∷ class_above 33 (codes "Below") (codes "T") [] [] []
    ∷ class 1537 (codes "I") [] []
    ∷ P_class
    ∷ []
    )

-- a method of T shows an event, and this action is a fault
abbrev pub no_answer : List ℕ → List ℕ → Event → Action → Type 0
no_answer name desc shown action =
    shows asking_program (call_T name desc [] ∷ action ∷ []) (shown ∷ []) (ends.LibraryFault 1)

-- the same behind an object that the library made
abbrev pub no_answer_behind : Name → List ℕ → List ℕ → EventKind → Action → Type 0
no_answer_behind class name desc kind action =
    shows asking_program (actions.NewExternal class [] ∷ call_T name desc [] ∷ action ∷ [])
    (made 0 class 0 0 (0 ∷ []) ∷ event kind 0 0 (0 ∷ []) ∷ []) (ends.LibraryFault 2)

abbrev pub used_null : EventKind
used_null = events.Call (codes "L") (codes "use") use_of_L.desc (seen.Null ∷ [])

abbrev pub asked_number : EventKind
asked_number = events.Call (codes "L") (codes "number") (codes "()B") []

abbrev pub got_n : EventKind
got_n = events.Get (codes "L") (codes "n") (codes "I") None

abbrev pub put_n : EventKind
put_n = events.Put (codes "L") (codes "n") (codes "I") None (seen.Int (pos 7))

abbrev pub added : EventKind
added = events.Float FADD (seen.Float 1 ∷ seen.Float 2 ∷ [])

-- an action is a fault at once
abbrev pub refuses : Action → Type 0
refuses action = shows asking_program (action ∷ []) [] (ends.LibraryFault 0)

-- it is one behind an int[1], and behind an object
abbrev pub refuses_array : Action → Type 0
refuses_array action = shows asking_program (actions.NewArray (codes "[I") (pos 1) ∷ action ∷ [])
    (made 0 (codes "[I") 0 0 (0 ∷ []) ∷ []) (ends.LibraryFault 1)

abbrev pub refuses_object : Action → Type 0
refuses_object action = shows asking_program (actions.NewExternal object [] ∷ action ∷ [])
    (made 0 object 0 0 (0 ∷ []) ∷ []) (ends.LibraryFault 1)

-- an array of a descriptor conforms to the parameter of a method, or does not
abbrev pub takes : List ℕ → List ℕ → Type 0
takes given_desc desc = shows asking_program (
    actions.NewArray given_desc (pos 1)
    ∷ call_T (codes "one") desc (given.Known 0 ∷ [])
    ∷ actions.Stop
    ∷ []
    ) (made 0 given_desc 0 0 (0 ∷ []) ∷ result_int (pos 1) 0 0 (0 ∷ []) ∷ []) ends.Stopped

abbrev pub takes_none : List ℕ → List ℕ → Type 0
takes_none given_desc desc = shows asking_program (
    actions.NewArray given_desc (pos 1)
    ∷ call_T (codes "one") desc (given.Known 0 ∷ [])
    ∷ []
    ) (made 0 given_desc 0 0 (0 ∷ []) ∷ []) (ends.LibraryFault 1)

abbrev pub arithmetic_class : Name
arithmetic_class = codes "java/lang/ArithmeticException"

pub record RunFaults : Type 0 where
  pub fault_kind : shows j_program (
      call_T (codes "j") (codes "(I)I") (given.Long (pos 1) ∷ [])
      ∷ []
      ) [] (ends.LibraryFault 0)
  pub fault_count : shows j_program (call_T (codes "j") (codes "(I)I") [] ∷ []) []
      (ends.LibraryFault 0)
  pub fault_no_method : shows j_program (
      call_T (codes "k") (codes "(I)I") (given.Int (pos 1) ∷ [])
      ∷ []
      ) [] (ends.LibraryFault 0)
  pub fault_initialiser : shows j_program (
      actions.Call (codes "P") (codes "<init>") (codes "(II)V") (
      given.Null
      ∷ given.Int (pos 1)
      ∷ given.Int (pos 1)
      ∷ []
      )
      ∷ []
      ) [] (ends.LibraryFault 0)
  pub fault_unknown : shows throwing_program (actions.ArrayLength 0 ∷ []) [] (ends.LibraryFault 0)
  pub fault_outside : shows throwing_program (
      actions.NewArray (codes "[I") (pos 1)
      ∷ actions.ArrayGet 0 (pos 1)
      ∷ []
      ) (made 0 (codes "[I") 0 0 (0 ∷ []) ∷ []) (ends.LibraryFault 1)
  pub fault_length : shows throwing_program (actions.NewArray (codes "[I") (pos 1000001) ∷ []) []
      (ends.LibraryFault 0)
  pub fault_no_array : shows throwing_program (actions.NewArray (codes "I") (pos 1) ∷ []) []
      (ends.LibraryFault 0)
  pub fault_handle : shows j_program (
      actions.Construct (codes "P") (codes "(II)V") (given.Int (pos 1) ∷ given.Int (pos 2) ∷ [])
      ∷ []
      ) [] (ends.LibraryFault 0)
  pub fault_throw_nothing : shows throwing_program (
      actions.NewExternal (codes "java/lang/ArithmeticException") []
      ∷ actions.Throw 0
      ∷ []
      ) (made 0 (codes "java/lang/ArithmeticException") 0 0 (0 ∷ []) ∷ []) (ends.LibraryFault 1)
  pub fault_external : shows j_program (actions.NewExternal (codes "P") [] ∷ []) []
      (ends.LibraryFault 0)
  pub array_actions : shows throwing_program (
      actions.NewArray (codes "[B") (pos 2)
      ∷ actions.ArraySet 0 (pos 1) (given.Int (pos 200))
      ∷ actions.ArrayGet 0 (pos 1)
      ∷ actions.ArrayLength 0
      ∷ actions.Stop
      ∷ []
      ) (
      made 0 (codes "[B") 0 0 (0 ∷ [])
      ∷ event (events.Got (seen.Int (negsuc 55))) 0 0 (0 ∷ [])
      ∷ event (events.Length 2) 0 0 (0 ∷ [])
      ∷ []
      ) ends.Stopped
  -- what the library makes is not counted
  pub construct_gives : shows handled_program (
      actions.Construct (codes "P") (codes "(II)V") (given.Int (pos 4) ∷ given.Int (pos 2) ∷ [])
      ∷ call_T (codes "g") (codes "(LP;)I") (given.Known 0 ∷ [])
      ∷ actions.Stop
      ∷ []
      ) (
      event (events.Result (Some (seen.Ref (new_ref 0 (codes "P"))))) 0 0 (0 ∷ [])
      ∷ result_int (pos 4) 0 0 (0 ∷ [])
      ∷ []
      ) ends.Stopped
  pub running : shows_in j_program 1 (
      call_T (codes "j") (codes "(I)I") (given.Int (pos 2) ∷ [])
      ∷ actions.Stop
      ∷ []
      ) [] ends.Running
  pub no_steps : shows_in j_program 0 (
      call_T (codes "j") (codes "(I)I") (given.Int (pos 2) ∷ [])
      ∷ []
      ) [] ends.Running
  -- ---- numbers that are no known reference
  pub unknown_argument : refuses
      (actions.Call (codes "P") (codes "y") (codes "()I") (given.Known 3 ∷ []))
  pub unknown_get : refuses (actions.ArrayGet 0 (pos 0))
  pub unknown_set : refuses_array (actions.ArraySet 0 (pos 0) (given.Known 1))
  pub unknown_throw : no_answer (codes "use") (codes "()V") (event used_null 0 0 [])
      (actions.Throw 0)
  -- ---- values
  pub receiver_does_not_conform : refuses_array
      (actions.Call (codes "P") (codes "y") (codes "()I") (given.Known 0 ∷ []))
  pub receiver_of_other_kind : refuses
      (actions.Call (codes "P") (codes "y") (codes "()I") (given.Int (pos 1) ∷ []))
  pub no_receiver : refuses (actions.Call (codes "P") (codes "y") (codes "()I") [])
  pub value_too_many : refuses (call_T (codes "use") (codes "()V") (given.Null ∷ []))
  pub element_of_other_kind : refuses_array (actions.ArraySet 0 (pos 0) given.Null)
  -- every reference conforms to an interface, and arrays by their components
  pub interface_takes_array : takes (codes "[I") (codes "(LI;)I")
  pub interfaces_take_classes : takes (codes "[LP;") (codes "([LI;)I")
  pub interfaces_take_arrays : takes (codes "[[I") (codes "([LI;)I")
  pub interfaces_take_no_numbers : takes_none (codes "[I") (codes "([LI;)I")
  pub objects_take_classes : takes (codes "[LP;") (codes "([Ljava/lang/Object;)I")
  pub objects_take_arrays : takes (codes "[[I") (codes "([Ljava/lang/Object;)I")
  pub objects_take_no_numbers : takes_none (codes "[I") (codes "([Ljava/lang/Object;)I")
  pub deep_arrays_take_classes : takes (codes "[[LP;") (codes "([[Ljava/lang/Object;)I")
  pub deep_arrays_take_no_numbers : takes_none (codes "[[I") (codes "([[Ljava/lang/Object;)I")
  pub null_conforms : shows asking_program (
      call_T (codes "one") (codes "([LI;)I") (given.Null ∷ [])
      ∷ actions.Stop
      ∷ []
      ) (result_int (pos 1) 0 0 [] ∷ []) ends.Stopped
  -- ---- methods and constructors
  pub native_method : refuses (call_T (codes "native") (codes "()V") [])
  pub inherited_method : refuses (actions.Call (codes "Below") (codes "use") (codes "()V") [])
  pub method_of_library : refuses (actions.Call (codes "L") (codes "number") (codes "()B") [])
  pub class_initialiser : refuses (call_T (codes "<clinit>") (codes "()V") [])
  pub abstract_class : refuses (actions.Construct (codes "Abstract") (codes "()V") [])
  pub constructor_of_library : refuses (actions.Construct object (codes "()V") [])
  -- ---- answers
  pub return_nothing_pending : refuses (actions.Return None)
  pub return_value_pending : refuses (actions.Return (Some (given.Int (pos 1))))
  pub value_for_nothing : no_answer (codes "use") (codes "()V") (event used_null 0 0 [])
      (actions.Return (Some (given.Int (pos 1))))
  pub nothing_for_value : no_answer (codes "number") (codes "()I") (event asked_number 0 0 [])
      (actions.Return None)
  pub answer_of_other_kind : no_answer (codes "number") (codes "()I") (event asked_number 0 0 [])
      (actions.Return (Some (given.Long (pos 1))))
  pub value_for_put : no_answer (codes "put") (codes "()V") (event put_n 0 0 [])
      (actions.Return (Some (given.Int (pos 1))))
  pub nothing_for_get : no_answer (codes "get") (codes "()I") (event got_n 0 0 [])
      (actions.Return None)
  pub int_for_float : no_answer (codes "add") (codes "()F") (event added 0 0 [])
      (actions.Return (Some (given.Int (pos 1))))
  pub throw_on_get : no_answer_behind arithmetic_class (codes "get") (codes "()I") got_n
      (actions.Throw 0)
  pub throw_on_put : no_answer_behind arithmetic_class (codes "put") (codes "()V") put_n
      (actions.Throw 0)
  pub throw_on_float : no_answer_behind arithmetic_class (codes "add") (codes "()F") added
      (actions.Throw 0)
  pub throw_of_object : no_answer_behind object (codes "use") (codes "()V") used_null
      (actions.Throw 0)
  -- ---- arrays and objects of the library
  pub set_outside : refuses_array (actions.ArraySet 0 (pos 1) (given.Int (pos 1)))
  pub get_below : refuses_array (actions.ArrayGet 0 (negsuc 0))
  pub length_of_object : refuses_object (actions.ArrayLength 0)
  pub get_of_object : refuses_object (actions.ArrayGet 0 (pos 0))
  pub negative_array : refuses (actions.NewArray (codes "[I") (negsuc 0))
  pub array_of_nothing : refuses (actions.NewArray (codes "[V") (pos 1))
  pub array_of_missing_class : shows asking_program
      (actions.NewArray (codes "[Lnot/There;") (pos 0) ∷ [])
      (made 0 (codes "[Lnot/There;") 0 0 (0 ∷ []) ∷ []) ends.Waits
  pub interface_made : refuses (actions.NewExternal (codes "I") [])
  pub also_a_class : refuses (actions.NewExternal object (codes "P" ∷ []))
  pub no_such_class : refuses (actions.NewExternal (codes "None") [])
  pub also_twice : shows asking_program
      (actions.NewExternal object (codes "I" ∷ codes "I" ∷ []) ∷ actions.Stop ∷ [])
      (event (events.Made (new_external 0 object (codes "I" ∷ codes "I" ∷ []))) 0 0 (0 ∷ []) ∷ [])
      ends.Stopped
