-- Small programs and what they show: what the library is asked, and what its objects are instances
-- of.
use Rattle.std.specs.Prelude.{ℕ, ℤ, pos, List, [], ◌∷◌, codes, Some, None}
use Rattle.class_model.specs.declared.descriptor.FieldType.TheVariants as types
use Rattle.class_model.specs.declared.descriptor.Kind.TheVariants as kinds
use Rattle.class_model.specs.declared.opcodes.TheConstants.{DUP, FADD}
use Rattle.class_tree.specs.Headers.{Name}
use Rattle.class_tree.specs.Names.{object, throwable}
use Rattle.machine_values.specs.declared.action.Action.{Action}
use Rattle.machine_values.specs.declared.action.Action.TheVariants as actions
use Rattle.machine_values.specs.declared.action.Given.TheVariants as given
use Rattle.machine_values.specs.declared.event.End.TheVariants as ends
use Rattle.machine_values.specs.declared.event.Event.{Event}
use Rattle.machine_values.specs.declared.event.EventKind.TheVariants as events
use Rattle.machine_values.specs.declared.event.Seen.TheVariants as seen
use Rattle.machine_values.specs.declared.object.Constant.TheVariants as constants
use Rattle.machine_laws.specs.TestPrograms.{reference, program, with_code, without_code, class_above, class, init_of, T_fields, shows, event, result_int, new_ref, old_ref, call_T, new_external, string_ref, result, threw_new}
use Rattle.member_link.specs.Machine.Ops as ops
use Rattle.member_link.specs.Machine.Programs.{Program, RunMethod}
use Rattle.member_link.specs.References.{Reference}

-- an external receiver, a field of the library, floats and dynamic calls
abbrev pub outside_copy : RunMethod
outside_copy = with_code 9 (codes "copy") (codes "()Ljava/lang/Object;") 0 (
    ops.push_constant (constants.Str (codes "a"))
    ∷ ops.call_virtual (reference object (codes "clone") (codes "()Ljava/lang/Object;"))
    ∷ ops.return_value (types.Named object)
    ∷ []
    )

abbrev pub outside_read : RunMethod
outside_read = with_code 9 (codes "read") (codes "()I") 0 (
    ops.get_static (reference (codes "L") (codes "n") (codes "I"))
    ∷ ops.return_value types.Int
    ∷ []
    )

abbrev pub outside_add : RunMethod
outside_add = with_code 9 (codes "add") (codes "(FF)F") 2 (
    ops.load_local kinds.Float 0
    ∷ ops.load_local kinds.Float 1
    ∷ ops.float_arithmetic FADD
    ∷ ops.return_value types.Float
    ∷ []
    )

abbrev pub outside_dyn : RunMethod
outside_dyn = with_code 9 (codes "dyn") (codes "(I)I") 1 (
    ops.load_local kinds.Int 0
    ∷ ops.call_dynamic (codes "T") 0 (codes "get") (codes "(I)I")
    ∷ ops.return_value types.Int
    ∷ []
    )

-- static Object NAME() { return new CLASS(); }
abbrev pub outside_new : List ℕ → Name → RunMethod
outside_new name class = with_code 9 name (codes "()Ljava/lang/Object;") 0 (
    ops.new_object class
    ∷ ops.shuffle_stack DUP
    ∷ ops.call_special (init_of class) class
    ∷ ops.return_value (types.Named object)
    ∷ []
    )

abbrev pub outside_program : Program
outside_program = program (
    T_fields [] (
    outside_copy
    ∷ outside_read
    ∷ outside_add
    ∷ outside_dyn
    ∷ outside_new (codes "object") object
    ∷ outside_new (codes "throwable") throwable
    ∷ []
    )
    ∷ []
    )

-- ---- objects of the library that also implement interfaces

-- static int is(Object o) { return o instanceof I ? 1 : 0; }
abbrev pub also_is : RunMethod
also_is = with_code 9 (codes "is") (codes "(Ljava/lang/Object;)I") 1 (
    ops.load_local kinds.Ref 0
    ∷ ops.instance_of (codes "I")
    ∷ ops.return_value types.Int
    ∷ []
    )

-- static I cast(Object o) { return (I) o; }
abbrev pub also_cast : RunMethod
also_cast = with_code 9 (codes "cast") (codes "(Ljava/lang/Object;)LI;") 1 (
    ops.load_local kinds.Ref 0
    ∷ ops.check_cast (codes "I")
    ∷ ops.return_value (types.Named (codes "I"))
    ∷ []
    )

abbrev pub y_of_I : Reference
y_of_I = reference (codes "I") (codes "y") (codes "()I")

-- static int ask(I i) { return i.y(); }
abbrev pub also_ask : RunMethod
also_ask = with_code 9 (codes "ask") (codes "(LI;)I") 1 (
    ops.load_local kinds.Ref 0
    ∷ ops.call_interface y_of_I
    ∷ ops.return_value types.Int
    ∷ []
    )

-- interface J extends I, and interface K
abbrev pub also_program : Program
also_program = program (
    class 1537 (codes "I") [] (without_code 1025 (codes "y") (codes "()I") ∷ [])
    ∷ class_above 1537 (codes "J") object (codes "I" ∷ []) [] []
    ∷ class 1537 (codes "K") [] []
    ∷ T_fields [] (also_is ∷ also_cast ∷ also_ask ∷ [])
    ∷ []
    )

-- what a method of T shows of an object that also implements these, behind the event of the object
abbrev pub also_shows :
    List Name → List ℕ → List ℕ → List Action → List Event → Type 0
also_shows also name desc answers shown = shows also_program
    (actions.NewExternal object also ∷ call_T name desc (given.Known 0 ∷ []) ∷ answers)
    (event (events.Made (new_external 0 object also)) 0 0 (0 ∷ []) ∷ shown) ends.Stopped

abbrev pub also_instance : List Name → ℤ → Type 0
also_instance also answer = also_shows also (codes "is") (codes "(Ljava/lang/Object;)I")
    (actions.Stop ∷ []) (result_int answer 0 0 (0 ∷ []) ∷ [])

abbrev pub also_casts : List Name → Event → Type 0
also_casts also shown = also_shows also (codes "cast") (codes "(Ljava/lang/Object;)LI;")
    (actions.Stop ∷ []) (shown ∷ [])

-- the cast gives the object itself
abbrev pub itself : Event
itself = result (seen.Ref (old_ref 0)) 0 0 (0 ∷ [])

pub record RunOutside : Type 0 where
  -- the instance initialiser of Object is not asked for, and that of another class is
  pub object_made : shows outside_program
      (call_T (codes "object") (codes "()Ljava/lang/Object;") [] ∷ actions.Stop ∷ [])
      (result (seen.Ref (new_ref 0 object)) 1 0 (0 ∷ []) ∷ []) ends.Stopped
  pub throwable_made : shows outside_program (
      call_T (codes "throwable") (codes "()Ljava/lang/Object;") []
      ∷ actions.Return None
      ∷ actions.Stop
      ∷ []
      ) (
      event
      (events.Call throwable (codes "<init>") (codes "()V")
      (seen.Ref (new_ref 0 throwable) ∷ [])) 1 0 (0 ∷ [])
      ∷ result (seen.Ref (old_ref 0)) 1 0 (0 ∷ [])
      ∷ []
      ) ends.Stopped
  pub instance_of_second : also_instance (codes "K" ∷ codes "I" ∷ []) (pos 1)
  pub instance_of_superinterface : also_instance (codes "J" ∷ []) (pos 1)
  pub no_instance_of_other : also_instance (codes "K" ∷ []) (pos 0)
  pub cast_to_interface : also_casts (codes "I" ∷ []) itself
  pub cast_to_second : also_casts (codes "K" ∷ codes "I" ∷ []) itself
  pub cast_to_superinterface : also_casts (codes "J" ∷ []) itself
  pub cast_to_other : also_casts (codes "K" ∷ [])
      (threw_new 1 (codes "java/lang/ClassCastException") 0 0 (0 ∷ 0 ∷ []))
  -- the library is asked for the method of the interface
  pub interface_called : also_shows (codes "J" ∷ []) (codes "ask") (codes "(LI;)I")
      (actions.Return (Some (given.Int (pos 7))) ∷ actions.Stop ∷ []) (
      event (events.Call (codes "I") (codes "y") (codes "()I") (seen.Ref (old_ref 0) ∷ [])) 0 0
      (0 ∷ [])
      ∷ result_int (pos 7) 0 0 (0 ∷ [])
      ∷ []
      )
  pub interface_not_called : also_shows (codes "K" ∷ []) (codes "ask") (codes "(LI;)I")
      (actions.Stop ∷ [])
      (threw_new 1 (codes "java/lang/IncompatibleClassChangeError") 0 0 (0 ∷ 0 ∷ []) ∷ [])
  pub dynamic_call : shows outside_program (
      call_T (codes "dyn") (codes "(I)I") (given.Int (pos 4) ∷ [])
      ∷ actions.Return (Some (given.Int (pos 9)))
      ∷ actions.Stop
      ∷ []
      ) (
      event (events.Dynamic (codes "T") 0 (codes "get") (codes "(I)I") (seen.Int (pos 4) ∷ [])) 0
      0 []
      ∷ result_int (pos 9) 0 0 []
      ∷ []
      ) ends.Stopped
  pub float_asked : shows outside_program (
      call_T (codes "add") (codes "(FF)F") (given.Float 1 ∷ given.Float 2 ∷ [])
      ∷ actions.Return (Some (given.Float 3))
      ∷ actions.Stop
      ∷ []
      ) (
      event (events.Float FADD (seen.Float 1 ∷ seen.Float 2 ∷ [])) 0 0 []
      ∷ event (events.Result (Some (seen.Float 3))) 0 0 []
      ∷ []
      ) ends.Stopped
  pub external_receiver : shows outside_program (
      call_T (codes "copy") (codes "()Ljava/lang/Object;") []
      ∷ actions.Return (Some given.Null)
      ∷ actions.Stop
      ∷ []
      ) (
      event (events.Call object (codes "clone") (codes "()Ljava/lang/Object;") (
      seen.Ref (string_ref 0 (codes "a"))
      ∷ []
      )) 0 0 (0 ∷ [])
      ∷ event (events.Result (Some seen.Null)) 0 0 (0 ∷ [])
      ∷ []
      ) ends.Stopped
  pub library_field : shows outside_program (
      call_T (codes "read") (codes "()I") []
      ∷ actions.Return (Some (given.Int (pos 5)))
      ∷ actions.Stop
      ∷ []
      ) (
      event (events.Get (codes "L") (codes "n") (codes "I") None) 0 0 []
      ∷ result_int (pos 5) 0 0 []
      ∷ []
      ) ends.Stopped
