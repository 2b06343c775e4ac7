-- Small programs and what they show: throwables of arrays, casts, monitors and arithmetic, and
-- their order;
-- arrays of arrays; and elements of narrow arrays.
use Rattle.std.specs.Prelude.{ℕ, pos, negsuc, List, [], ◌∷◌, codes, Some, None}
use Rattle.class_model.specs.declared.descriptor.FieldType.TheVariants as types
use Rattle.class_model.specs.declared.descriptor.Kind.TheVariants as kinds
use Rattle.class_model.specs.declared.opcodes.TheConstants.{IALOAD, BALOAD, CALOAD, SALOAD, AASTORE, BASTORE, CASTORE, SASTORE, POP, DUP, IDIV, IREM, IUSHR}
use Rattle.class_tree.specs.Names.{object}
use Rattle.machine_values.specs.declared.action.Action.TheVariants as actions
use Rattle.machine_values.specs.declared.action.Given.{Given}
use Rattle.machine_values.specs.declared.action.Given.TheVariants as given
use Rattle.machine_values.specs.declared.event.End.TheVariants as ends
use Rattle.machine_values.specs.declared.event.EventKind.TheVariants as events
use Rattle.machine_values.specs.declared.event.Seen.TheVariants as seen
use Rattle.machine_laws.specs.TestPrograms.{reference, program, with_code, class, int, x_of_P, P_class, T_fields, shows, event, result_int, old_ref, call_T, new_external, threw_new, made}
use Rattle.member_link.specs.Machine.Ops as ops
use Rattle.member_link.specs.Machine.Ops.{Op}
use Rattle.member_link.specs.Machine.Programs.{Program, RunMethod}

-- throwables, and their order
abbrev pub throwing_aload : RunMethod
throwing_aload = with_code 9 (codes "aload") (codes "([II)I") 2 (
    ops.load_local kinds.Ref 0
    ∷ ops.load_local kinds.Int 1
    ∷ ops.load_element IALOAD
    ∷ ops.return_value types.Int
    ∷ []
    )

abbrev pub throwing_len : RunMethod
throwing_len = with_code 9 (codes "len") (codes "([I)I") 1 (
    ops.load_local kinds.Ref 0
    ∷ ops.array_length
    ∷ ops.return_value types.Int
    ∷ []
    )

abbrev pub throwing_neg : RunMethod
throwing_neg = with_code 9 (codes "neg") (codes "(I)V") 1 (
    ops.load_local kinds.Int 0
    ∷ ops.new_array (codes "[I")
    ∷ ops.shuffle_stack POP
    ∷ ops.return_nothing
    ∷ []
    )

abbrev pub throwing_many : RunMethod
throwing_many = with_code 9 (codes "many") (codes "(II)I") 2 (
    ops.load_local kinds.Int 0
    ∷ ops.load_local kinds.Int 1
    ∷ ops.new_arrays (codes "[[I") 2
    ∷ ops.shuffle_stack POP
    ∷ int (pos 1)
    ∷ ops.return_value types.Int
    ∷ []
    )

abbrev pub throwing_cast : RunMethod
throwing_cast = with_code 9 (codes "cast") (codes "(Ljava/lang/Object;)I") 1 (
    ops.load_local kinds.Ref 0
    ∷ ops.check_cast (codes "P")
    ∷ ops.shuffle_stack POP
    ∷ int (pos 1)
    ∷ ops.return_value types.Int
    ∷ []
    )

abbrev pub throwing_is : RunMethod
throwing_is = with_code 9 (codes "is") (codes "(Ljava/lang/Object;)I") 1 (
    ops.load_local kinds.Ref 0
    ∷ ops.instance_of (codes "P")
    ∷ ops.return_value types.Int
    ∷ []
    )

abbrev pub throwing_exit : RunMethod
throwing_exit = with_code 9 (codes "exit") (codes "(Ljava/lang/Object;)V") 1 (
    ops.load_local kinds.Ref 0
    ∷ ops.leave_monitor
    ∷ ops.return_nothing
    ∷ []
    )

abbrev pub throwing_throw_it : RunMethod
throwing_throw_it = with_code 9 (codes "throw_it") (codes "(Ljava/lang/Throwable;)V") 1 (
    ops.load_local kinds.Ref 0
    ∷ ops.throw_reference
    ∷ []
    )

abbrev pub throwing_store : RunMethod
throwing_store = with_code 9 (codes "store") (codes "([Ljava/lang/Object;ILjava/lang/Object;)V") 3 (
    ops.load_local kinds.Ref 0
    ∷ ops.load_local kinds.Int 1
    ∷ ops.load_local kinds.Ref 2
    ∷ ops.store_element AASTORE
    ∷ ops.return_nothing
    ∷ []
    )

-- an operation on two ints
abbrev of_two_ints : List ℕ → Op → RunMethod
of_two_ints name op = with_code 9 name (codes "(II)I") 2 (
    ops.load_local kinds.Int 0
    ∷ ops.load_local kinds.Int 1
    ∷ op
    ∷ ops.return_value types.Int
    ∷ []
    )

abbrev pub throwing_div : RunMethod
throwing_div = of_two_ints (codes "div") (ops.division IDIV)

abbrev pub throwing_rem : RunMethod
throwing_rem = of_two_ints (codes "rem") (ops.division IREM)

abbrev pub throwing_shift : RunMethod
throwing_shift = of_two_ints (codes "shift") (ops.pure_arithmetic IUSHR)

abbrev pub throwing_clone : RunMethod
throwing_clone = with_code 9 (codes "clone") (codes "([I)Ljava/lang/Object;") 1 (
    ops.load_local kinds.Ref 0
    ∷ ops.call_virtual (reference (codes "[I") (codes "clone") (codes "()Ljava/lang/Object;"))
    ∷ ops.return_value (types.Named object)
    ∷ []
    )

abbrev pub throwing_get : RunMethod
throwing_get = with_code 9 (codes "get") (codes "(LP;)I") 1 (
    ops.load_local kinds.Ref 0
    ∷ ops.get_field x_of_P
    ∷ ops.return_value types.Int
    ∷ []
    )

abbrev pub throwing_put : RunMethod
throwing_put = with_code 9 (codes "put") (codes "(LP;)V") 1 (
    ops.load_local kinds.Ref 0
    ∷ int (pos 1)
    ∷ ops.put_field x_of_P None
    ∷ ops.return_nothing
    ∷ []
    )

-- is the argument an I
abbrev pub throwing_is_I : RunMethod
throwing_is_I = with_code 9 (codes "is_I") (codes "(Ljava/lang/Object;)I") 1 (
    ops.load_local kinds.Ref 0
    ∷ ops.instance_of (codes "I")
    ∷ ops.return_value types.Int
    ∷ []
    )

-- new int[a][b][c]
abbrev pub throwing_cube : RunMethod
throwing_cube = with_code 9 (codes "cube") (codes "(III)I") 3 (
    ops.load_local kinds.Int 0
    ∷ ops.load_local kinds.Int 1
    ∷ ops.load_local kinds.Int 2
    ∷ ops.new_arrays (codes "[[[I") 3
    ∷ ops.array_length
    ∷ ops.return_value types.Int
    ∷ []
    )

abbrev pub throwing_program : Program
throwing_program = program (
    P_class
    ∷ T_fields [] (
    throwing_aload
    ∷ throwing_len
    ∷ throwing_neg
    ∷ throwing_many
    ∷ throwing_cast
    ∷ throwing_is
    ∷ throwing_exit
    ∷ throwing_throw_it
    ∷ throwing_store
    ∷ throwing_div
    ∷ throwing_rem
    ∷ throwing_shift
    ∷ throwing_clone
    ∷ throwing_get
    ∷ throwing_put
    ∷ throwing_is_I
    ∷ throwing_cube
    ∷ []
    )
    ∷ class 1537 (codes "I") [] []
    ∷ []
    )

-- an int through the element of an array, which may be narrow
abbrev through_array : List ℕ → List ℕ → ℕ → ℕ → RunMethod
through_array name array store load = with_code 9 name (codes "(I)I") 2 (
    int (pos 1)
    ∷ ops.new_array array
    ∷ ops.shuffle_stack DUP
    ∷ ops.store_local kinds.Ref 1
    ∷ int (pos 0)
    ∷ ops.load_local kinds.Int 0
    ∷ ops.store_element store
    ∷ ops.load_local kinds.Ref 1
    ∷ int (pos 0)
    ∷ ops.load_element load
    ∷ ops.return_value types.Int
    ∷ []
    )

abbrev pub narrow_b : RunMethod
narrow_b = through_array (codes "b") (codes "[B") BASTORE BALOAD

abbrev pub narrow_z : RunMethod
narrow_z = through_array (codes "z") (codes "[Z") BASTORE BALOAD

abbrev pub narrow_c : RunMethod
narrow_c = through_array (codes "c") (codes "[C") CASTORE CALOAD

abbrev pub narrow_s : RunMethod
narrow_s = through_array (codes "s") (codes "[S") SASTORE SALOAD

abbrev pub narrow_program : Program
narrow_program = program (
    T_fields [] (narrow_b ∷ narrow_z ∷ narrow_c ∷ narrow_s ∷ [])
    ∷ []
    )

-- a method of T raises NullPointerException for these arguments
abbrev pub throws_null : List ℕ → List ℕ → List Given → Type 0
throws_null name desc values =
    shows throwing_program (call_T name desc values ∷ actions.Stop ∷ [])
    (threw_new 0 (codes "java/lang/NullPointerException") 0 0 (0 ∷ []) ∷ []) ends.Stopped

-- so many arrays are made for three lengths
abbrev pub makes_cube : ℕ → ℕ → ℕ → ℕ → Type 0
makes_cube a b c count = shows throwing_program (
    call_T (codes "cube") (codes "(III)I")
    (given.Int (pos a) ∷ given.Int (pos b) ∷ given.Int (pos c) ∷ [])
    ∷ actions.Stop
    ∷ []
    ) (result_int (pos a) count 0 [] ∷ []) ends.Stopped

pub record RunArrays : Type 0 where
  -- null is tested before the index
  pub null_array : shows throwing_program (
      call_T (codes "aload") (codes "([II)I") (given.Null ∷ given.Int (negsuc 0) ∷ [])
      ∷ actions.Stop
      ∷ []
      ) (threw_new 0 (codes "java/lang/NullPointerException") 0 0 (0 ∷ []) ∷ []) ends.Stopped
  pub index_outside : shows throwing_program (
      actions.NewArray (codes "[I") (pos 2)
      ∷ call_T (codes "aload") (codes "([II)I") (given.Known 0 ∷ given.Int (pos 2) ∷ [])
      ∷ actions.Stop
      ∷ []
      ) (
      made 0 (codes "[I") 0 0 (0 ∷ [])
      ∷ threw_new 1 (codes "java/lang/ArrayIndexOutOfBoundsException") 0 0 (0 ∷ 0 ∷ [])
      ∷ []
      ) ends.Stopped
  pub negative_length : shows throwing_program (
      call_T (codes "neg") (codes "(I)V") (given.Int (negsuc 0) ∷ [])
      ∷ actions.Stop
      ∷ []
      ) (threw_new 0 (codes "java/lang/NegativeArraySizeException") 0 0 (0 ∷ []) ∷ []) ends.Stopped
  pub too_long : shows throwing_program (
      call_T (codes "neg") (codes "(I)V") (given.Int (pos 1000001) ∷ [])
      ∷ []
      ) [] ends.ArrayTooLong
  -- all counts are tested before any product
  pub negative_count_first : shows throwing_program (
      call_T (codes "many") (codes "(II)I") (
      given.Int (pos 2000000)
      ∷ given.Int (negsuc 0)
      ∷ []
      )
      ∷ actions.Stop
      ∷ []
      ) (threw_new 0 (codes "java/lang/NegativeArraySizeException") 0 0 (0 ∷ []) ∷ []) ends.Stopped
  pub one_empty_array : shows throwing_program (
      call_T (codes "many") (codes "(II)I") (given.Int (pos 0) ∷ given.Int (pos 2000000) ∷ [])
      ∷ actions.Stop
      ∷ []
      ) (result_int (pos 1) 1 0 [] ∷ []) ends.Stopped
  pub three_arrays : shows throwing_program (
      call_T (codes "many") (codes "(II)I") (given.Int (pos 2) ∷ given.Int (pos 3) ∷ [])
      ∷ actions.Stop
      ∷ []
      ) (result_int (pos 1) 3 0 [] ∷ []) ends.Stopped
  pub cast_null : shows throwing_program (
      call_T (codes "cast") (codes "(Ljava/lang/Object;)I") (given.Null ∷ [])
      ∷ call_T (codes "is") (codes "(Ljava/lang/Object;)I") (given.Null ∷ [])
      ∷ actions.Stop
      ∷ []
      ) (result_int (pos 1) 0 0 [] ∷ result_int (pos 0) 0 0 [] ∷ []) ends.Stopped
  pub cast_fails : shows throwing_program (
      actions.NewArray (codes "[I") (pos 1)
      ∷ call_T (codes "cast") (codes "(Ljava/lang/Object;)I") (given.Known 0 ∷ [])
      ∷ actions.Stop
      ∷ []
      ) (
      made 0 (codes "[I") 0 0 (0 ∷ [])
      ∷ threw_new 1 (codes "java/lang/ClassCastException") 0 0 (0 ∷ 0 ∷ [])
      ∷ []
      ) ends.Stopped
  pub exit_not_entered : shows throwing_program (
      actions.NewArray (codes "[I") (pos 1)
      ∷ call_T (codes "exit") (codes "(Ljava/lang/Object;)V") (given.Known 0 ∷ [])
      ∷ actions.Stop
      ∷ []
      ) (
      made 0 (codes "[I") 0 0 (0 ∷ [])
      ∷ threw_new 1 (codes "java/lang/IllegalMonitorStateException") 0 0 (0 ∷ 0 ∷ [])
      ∷ []
      ) ends.Stopped
  pub throw_null : shows throwing_program (
      call_T (codes "throw_it") (codes "(Ljava/lang/Throwable;)V") (given.Null ∷ [])
      ∷ actions.Stop
      ∷ []
      ) (threw_new 0 (codes "java/lang/NullPointerException") 0 0 (0 ∷ []) ∷ []) ends.Stopped
  pub store_other : shows throwing_program (
      actions.NewArray (codes "[LP;") (pos 1)
      ∷ actions.NewArray (codes "[I") (pos 1)
      ∷ call_T (codes "store") (codes "([Ljava/lang/Object;ILjava/lang/Object;)V") (
      given.Known 0
      ∷ given.Int (pos 0)
      ∷ given.Known 1
      ∷ []
      )
      ∷ actions.Stop
      ∷ []
      ) (
      made 0 (codes "[LP;") 0 0 (0 ∷ [])
      ∷ made 1 (codes "[I") 0 0 (0 ∷ 0 ∷ [])
      ∷ threw_new 2 (codes "java/lang/ArrayStoreException") 0 0 (0 ∷ 0 ∷ 0 ∷ [])
      ∷ []
      ) ends.Stopped
  pub store_outside_first : shows throwing_program (
      actions.NewArray (codes "[LP;") (pos 1)
      ∷ actions.NewArray (codes "[I") (pos 1)
      ∷ call_T (codes "store") (codes "([Ljava/lang/Object;ILjava/lang/Object;)V") (
      given.Known 0
      ∷ given.Int (pos 1)
      ∷ given.Known 1
      ∷ []
      )
      ∷ actions.Stop
      ∷ []
      ) (
      made 0 (codes "[LP;") 0 0 (0 ∷ [])
      ∷ made 1 (codes "[I") 0 0 (0 ∷ 0 ∷ [])
      ∷ threw_new 2 (codes "java/lang/ArrayIndexOutOfBoundsException") 0 0 (0 ∷ 0 ∷ 0 ∷ [])
      ∷ []
      ) ends.Stopped
  pub least_by_minus_one : shows throwing_program (
      call_T (codes "div") (codes "(II)I") (
      given.Int (negsuc 2147483647)
      ∷ given.Int (negsuc 0)
      ∷ []
      )
      ∷ call_T (codes "rem") (codes "(II)I") (
      given.Int (negsuc 2147483647)
      ∷ given.Int (negsuc 0)
      ∷ []
      )
      ∷ call_T (codes "div") (codes "(II)I") (given.Int (negsuc 6) ∷ given.Int (pos 2) ∷ [])
      ∷ call_T (codes "rem") (codes "(II)I") (given.Int (negsuc 6) ∷ given.Int (pos 2) ∷ [])
      ∷ actions.Stop
      ∷ []
      ) (
      result_int (negsuc 2147483647) 0 0 []
      ∷ result_int (pos 0) 0 0 []
      ∷ result_int (negsuc 2) 0 0 []
      ∷ result_int (negsuc 0) 0 0 []
      ∷ []
      ) ends.Stopped
  pub shift_by_low_bits : shows throwing_program (
      call_T (codes "shift") (codes "(II)I") (given.Int (negsuc 0) ∷ given.Int (pos 33) ∷ [])
      ∷ actions.Stop
      ∷ []
      ) (result_int (pos 2147483647) 0 0 [] ∷ []) ends.Stopped
  pub clone_of_array : shows throwing_program (
      actions.NewArray (codes "[I") (pos 1)
      ∷ call_T (codes "clone") (codes "([I)Ljava/lang/Object;") (given.Known 0 ∷ [])
      ∷ actions.Return (Some given.Null)
      ∷ actions.Stop
      ∷ []
      ) (
      made 0 (codes "[I") 0 0 (0 ∷ [])
      ∷ event (events.Call object (codes "clone") (codes "()Ljava/lang/Object;") (
      seen.Ref (old_ref 0)
      ∷ []
      )) 0 0 (0 ∷ [])
      ∷ event (events.Result (Some seen.Null)) 0 0 (0 ∷ [])
      ∷ []
      ) ends.Stopped
  pub narrow_byte : shows narrow_program (
      call_T (codes "b") (codes "(I)I") (given.Int (pos 200) ∷ [])
      ∷ actions.Stop
      ∷ []
      ) (result_int (negsuc 55) 1 0 [] ∷ []) ends.Stopped
  pub narrow_boolean : shows narrow_program (
      call_T (codes "z") (codes "(I)I") (given.Int (pos 2) ∷ [])
      ∷ call_T (codes "z") (codes "(I)I") (given.Int (pos 3) ∷ [])
      ∷ actions.Stop
      ∷ []
      ) (result_int (pos 0) 1 0 [] ∷ result_int (pos 1) 2 0 [] ∷ []) ends.Stopped
  pub narrow_char : shows narrow_program (
      call_T (codes "c") (codes "(I)I") (given.Int (negsuc 0) ∷ [])
      ∷ actions.Stop
      ∷ []
      ) (result_int (pos 65535) 1 0 [] ∷ []) ends.Stopped
  pub narrow_short : shows narrow_program (
      call_T (codes "s") (codes "(I)I") (given.Int (pos 40000) ∷ [])
      ∷ actions.Stop
      ∷ []
      ) (result_int (negsuc 25535) 1 0 [] ∷ []) ends.Stopped
  pub field_of_null : throws_null (codes "get") (codes "(LP;)I") (given.Null ∷ [])
  pub store_into_null : throws_null (codes "put") (codes "(LP;)V") (given.Null ∷ [])
  pub length_of_null : throws_null (codes "len") (codes "([I)I") (given.Null ∷ [])
  pub exit_null : throws_null (codes "exit") (codes "(Ljava/lang/Object;)V") (given.Null ∷ [])
  pub clone_null : throws_null (codes "clone") (codes "([I)Ljava/lang/Object;") (given.Null ∷ [])
  -- an object of the library is an instance of what it also implements
  pub instance_of_also : shows throwing_program (
      actions.NewExternal object (codes "I" ∷ [])
      ∷ call_T (codes "is_I") (codes "(Ljava/lang/Object;)I") (given.Known 0 ∷ [])
      ∷ actions.Stop
      ∷ []
      ) (
      event (events.Made (new_external 0 object (codes "I" ∷ []))) 0 0 (0 ∷ [])
      ∷ result_int (pos 1) 0 0 (0 ∷ [])
      ∷ []
      ) ends.Stopped
  pub no_instance : shows throwing_program (
      actions.NewExternal object []
      ∷ call_T (codes "is_I") (codes "(Ljava/lang/Object;)I") (given.Known 0 ∷ [])
      ∷ actions.Stop
      ∷ []
      ) (
      made 0 object 0 0 (0 ∷ [])
      ∷ result_int (pos 0) 0 0 (0 ∷ [])
      ∷ []
      ) ends.Stopped
  -- 1 + 2 + 2 * 3 arrays, and none behind a length of 0
  pub nine_arrays : makes_cube 2 3 4 9
  pub three_arrays_of_none : makes_cube 2 0 4 3
  pub product_too_long : shows throwing_program (
      call_T (codes "cube") (codes "(III)I")
      (given.Int (pos 1000) ∷ given.Int (pos 1000) ∷ given.Int (pos 2) ∷ [])
      ∷ []
      ) [] ends.ArrayTooLong
