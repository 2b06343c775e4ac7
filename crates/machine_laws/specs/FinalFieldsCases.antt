-- Small programs and what they show: stores into final fields.
use Rattle.std.specs.Prelude.{pos, [], ◌∷◌, codes, Some, None}
use Rattle.class_model.specs.declared.descriptor.FieldType.TheVariants as types
use Rattle.class_model.specs.declared.descriptor.Kind.TheVariants as kinds
use Rattle.class_model.specs.declared.opcodes.TheConstants.{DUP}
use Rattle.class_tree.specs.Names.{object}
use Rattle.machine_values.specs.declared.action.Action.TheVariants as actions
use Rattle.machine_values.specs.declared.event.End.TheVariants as ends
use Rattle.machine_values.specs.declared.value.Value.TheVariants as values
use Rattle.machine_laws.specs.TestPrograms.{reference, member, program, with_code, class, int, init_of_object, T_fields, shows, result_int, call_T, threw_new}
use Rattle.member_link.specs.Machine.Ops as ops
use Rattle.member_link.specs.Machine.Programs.{Program, RunMethod}

-- final fields are stored in initialisers of their class alone
abbrev pub final_init : RunMethod
final_init = with_code 1 (codes "<init>") (codes "(I)V") 2 (
    ops.load_local kinds.Ref 0
    ∷ ops.call_special init_of_object object
    ∷ ops.load_local kinds.Ref 0
    ∷ ops.load_local kinds.Int 1
    ∷ ops.put_field (reference (codes "F") (codes "v") (codes "I")) (Some (codes "F"))
    ∷ ops.return_nothing
    ∷ []
    )

abbrev pub final_set : RunMethod
final_set = with_code 1 (codes "set") (codes "()V") 1 (
    ops.load_local kinds.Ref 0
    ∷ int (pos 2)
    ∷ ops.put_field (reference (codes "F") (codes "v") (codes "I")) None
    ∷ ops.return_nothing
    ∷ []
    )

abbrev pub final_put : RunMethod
final_put = with_code 9 (codes "put") (codes "()V") 0 (
    int (pos 2)
    ∷ ops.put_static (reference (codes "F") (codes "w") (codes "I")) None
    ∷ ops.return_nothing
    ∷ []
    )

abbrev pub final_ok : RunMethod
final_ok = with_code 9 (codes "ok") (codes "()I") 1 (
    ops.new_object (codes "F")
    ∷ ops.shuffle_stack DUP
    ∷ int (pos 5)
    ∷ ops.call_special (reference (codes "F") (codes "<init>") (codes "(I)V")) (codes "F")
    ∷ ops.get_field (reference (codes "F") (codes "v") (codes "I"))
    ∷ ops.return_value types.Int
    ∷ []
    )

abbrev pub final_bad : RunMethod
final_bad = with_code 9 (codes "bad") (codes "()V") 1 (
    ops.new_object (codes "F")
    ∷ ops.shuffle_stack DUP
    ∷ int (pos 5)
    ∷ ops.call_special (reference (codes "F") (codes "<init>") (codes "(I)V")) (codes "F")
    ∷ ops.call_virtual (reference (codes "F") (codes "set") (codes "()V"))
    ∷ ops.return_nothing
    ∷ []
    )

abbrev pub final_bad_null : RunMethod
final_bad_null = with_code 9 (codes "bad_null") (codes "()V") 1 (
    ops.push_value values.Null
    ∷ int (pos 2)
    ∷ ops.put_field (reference (codes "F") (codes "v") (codes "I")) None
    ∷ ops.return_nothing
    ∷ []
    )

abbrev pub final_program : Program
final_program = program (
    class 33 (codes "F") (
    member 16 (codes "v") (codes "I")
    ∷ member 24 (codes "w") (codes "I")
    ∷ []
    ) (final_init ∷ final_set ∷ final_put ∷ [])
    ∷ T_fields [] (final_ok ∷ final_bad ∷ final_bad_null ∷ [])
    ∷ []
    )

pub record RunFinalFields : Type 0 where
  pub final_inside : shows final_program (
      call_T (codes "ok") (codes "()I") []
      ∷ actions.Stop
      ∷ []
      ) (result_int (pos 5) 1 0 [] ∷ []) ends.Stopped
  pub final_outside : shows final_program (
      call_T (codes "bad") (codes "()V") []
      ∷ actions.Stop
      ∷ []
      ) (threw_new 0 (codes "java/lang/IllegalAccessError") 1 0 (0 ∷ []) ∷ []) ends.Stopped
  pub final_before_null : shows final_program (
      call_T (codes "bad_null") (codes "()V") []
      ∷ actions.Stop
      ∷ []
      ) (threw_new 0 (codes "java/lang/IllegalAccessError") 0 0 (0 ∷ []) ∷ []) ends.Stopped
  pub final_static : shows final_program (
      actions.Call (codes "F") (codes "put") (codes "()V") []
      ∷ actions.Stop
      ∷ []
      ) (threw_new 0 (codes "java/lang/IllegalAccessError") 0 0 (0 ∷ []) ∷ []) ends.Stopped
