-- Small programs and what they show: synchronized methods.
use Rattle.std.specs.Prelude.{ℕ, pos, [], ◌∷◌, codes, None}
use Rattle.class_model.specs.declared.descriptor.FieldType.TheVariants as types
use Rattle.class_model.specs.declared.descriptor.Kind.TheVariants as kinds
use Rattle.class_model.specs.declared.opcodes.TheConstants.{DUP, IADD}
use Rattle.class_tree.specs.Headers.{Name}
use Rattle.class_tree.specs.Names.{object}
use Rattle.machine_values.specs.declared.action.Action.TheVariants as actions
use Rattle.machine_values.specs.declared.action.Given.TheVariants as given
use Rattle.machine_values.specs.declared.event.End.TheVariants as ends
use Rattle.machine_values.specs.declared.event.EventKind.TheVariants as events
use Rattle.machine_values.specs.declared.event.Seen.TheVariants as seen
use Rattle.machine_values.specs.declared.event.SeenRef.{SeenRef}
use Rattle.machine_values.specs.declared.object.Constant.TheVariants as constants
use Rattle.machine_values.specs.declared.value.Value.TheVariants as values
use Rattle.machine_laws.specs.TestPrograms.{reference, member, program, with_code, class, int, init_of_object, use_of_L, T_fields, shows, event, result_int, new_ref, old_ref, call_T, constant_ref, result_nothing, threw_new, made, asked_use}
use Rattle.member_link.specs.Machine.Ops as ops
use Rattle.member_link.specs.Machine.Programs.{Program, RunMethod}

-- class S {
--   int n;
--   synchronized int inc() { return ++n; }
--   synchronized void keep() { L.use(this); }
--   static synchronized void hold() { L.use(null); }
--   static synchronized void hold_class() { L.use(S.class); }
-- }
abbrev pub sync_init : RunMethod
sync_init = with_code 1 (codes "<init>") (codes "()V") 1 (
    ops.load_local kinds.Ref 0
    ∷ ops.call_special init_of_object object
    ∷ ops.return_nothing
    ∷ []
    )

abbrev pub sync_inc : RunMethod
sync_inc = with_code 32 (codes "inc") (codes "()I") 1 (
    ops.load_local kinds.Ref 0
    ∷ ops.shuffle_stack DUP
    ∷ ops.get_field (reference (codes "S") (codes "n") (codes "I"))
    ∷ int (pos 1)
    ∷ ops.pure_arithmetic IADD
    ∷ ops.put_field (reference (codes "S") (codes "n") (codes "I")) None
    ∷ ops.load_local kinds.Ref 0
    ∷ ops.get_field (reference (codes "S") (codes "n") (codes "I"))
    ∷ ops.return_value types.Int
    ∷ []
    )

abbrev pub sync_keep : RunMethod
sync_keep = with_code 32 (codes "keep") (codes "()V") 1 (
    ops.load_local kinds.Ref 0
    ∷ ops.call_static use_of_L
    ∷ ops.return_nothing
    ∷ []
    )

abbrev pub sync_hold : RunMethod
sync_hold = with_code 40 (codes "hold") (codes "()V") 0 (
    ops.push_value values.Null
    ∷ ops.call_static use_of_L
    ∷ ops.return_nothing
    ∷ []
    )

abbrev pub sync_sy : RunMethod
sync_sy = with_code 9 (codes "sy") (codes "()I") 1 (
    ops.new_object (codes "S")
    ∷ ops.shuffle_stack DUP
    ∷ ops.call_special (reference (codes "S") (codes "<init>") (codes "()V")) (codes "S")
    ∷ ops.store_local kinds.Ref 0
    ∷ ops.load_local kinds.Ref 0
    ∷ ops.call_virtual (reference (codes "S") (codes "inc") (codes "()I"))
    ∷ ops.return_value types.Int
    ∷ []
    )

abbrev pub sync_sk : RunMethod
sync_sk = with_code 9 (codes "sk") (codes "()I") 1 (
    ops.new_object (codes "S")
    ∷ ops.shuffle_stack DUP
    ∷ ops.call_special (reference (codes "S") (codes "<init>") (codes "()V")) (codes "S")
    ∷ ops.store_local kinds.Ref 0
    ∷ ops.load_local kinds.Ref 0
    ∷ ops.call_virtual (reference (codes "S") (codes "keep") (codes "()V"))
    ∷ int (pos 1)
    ∷ ops.return_value types.Int
    ∷ []
    )

abbrev pub sync_hold_class : RunMethod
sync_hold_class = with_code 40 (codes "hold_class") (codes "()V") 0 (
    ops.push_constant (constants.Class (codes "S"))
    ∷ ops.call_static use_of_L
    ∷ ops.return_nothing
    ∷ []
    )

-- static void twice(Object o) { enters o twice, and leaves it once }
abbrev pub sync_twice : RunMethod
sync_twice = with_code 9 (codes "twice") (codes "(Ljava/lang/Object;)V") 1 (
    ops.load_local kinds.Ref 0
    ∷ ops.enter_monitor
    ∷ ops.load_local kinds.Ref 0
    ∷ ops.enter_monitor
    ∷ ops.load_local kinds.Ref 0
    ∷ ops.leave_monitor
    ∷ ops.return_nothing
    ∷ []
    )

abbrev pub class_ref : ℕ → Name → SeenRef
class_ref number name = constant_ref number (codes "java/lang/Class") (constants.Class name)

abbrev pub sync_program : Program
sync_program = program (
    class 33 (codes "S") (member 0 (codes "n") (codes "I") ∷ []) (
    sync_init
    ∷ sync_inc
    ∷ sync_keep
    ∷ sync_hold
    ∷ sync_hold_class
    ∷ []
    )
    ∷ T_fields [] (sync_sy ∷ sync_sk ∷ sync_twice ∷ [])
    ∷ []
    )

pub record RunSynchronization : Type 0 where
  pub sync_counts : shows sync_program (call_T (codes "sy") (codes "()I") [] ∷ actions.Stop ∷ []) (
      result_int (pos 1) 1 1 []
      ∷ []
      ) ends.Stopped
  pub sync_holds : shows sync_program (
      call_T (codes "sk") (codes "()I") []
      ∷ actions.Return None
      ∷ actions.Stop
      ∷ []
      ) (
      asked_use (seen.Ref (new_ref 0 (codes "S"))) 1 1 (1 ∷ [])
      ∷ result_int (pos 1) 1 1 (0 ∷ [])
      ∷ []
      ) ends.Stopped
  pub sync_throw_leaves : shows sync_program (
      call_T (codes "sk") (codes "()I") []
      ∷ actions.NewExternal (codes "java/lang/ArithmeticException") []
      ∷ actions.Throw 1
      ∷ actions.Stop
      ∷ []
      ) (
      asked_use (seen.Ref (new_ref 0 (codes "S"))) 1 1 (1 ∷ [])
      ∷ made 1 (codes "java/lang/ArithmeticException") 1 1 (1 ∷ 0 ∷ [])
      ∷ event (events.Threw (old_ref 1)) 1 1 (0 ∷ 0 ∷ [])
      ∷ []
      ) ends.Stopped
  pub sync_static : shows sync_program (
      actions.Call (codes "S") (codes "hold") (codes "()V") []
      ∷ actions.Return None
      ∷ actions.Stop
      ∷ []
      ) (asked_use seen.Null 0 1 [] ∷ event (events.Result None) 0 1 [] ∷ []) ends.Stopped
  -- a static method enters the monitor of its class
  pub class_monitor : shows sync_program (
      actions.Call (codes "S") (codes "hold_class") (codes "()V") []
      ∷ actions.Return None
      ∷ actions.Stop
      ∷ []
      ) (
      asked_use (seen.Ref (class_ref 0 (codes "S"))) 0 1 (1 ∷ [])
      ∷ result_nothing 0 1 (0 ∷ [])
      ∷ []
      ) ends.Stopped
  -- and leaves it where the library throws
  pub class_monitor_thrown : shows sync_program (
      actions.Call (codes "S") (codes "hold_class") (codes "()V") []
      ∷ actions.NewExternal (codes "java/lang/ArithmeticException") []
      ∷ actions.Throw 1
      ∷ actions.Stop
      ∷ []
      ) (
      asked_use (seen.Ref (class_ref 0 (codes "S"))) 0 1 (1 ∷ [])
      ∷ made 1 (codes "java/lang/ArithmeticException") 0 1 (1 ∷ 0 ∷ [])
      ∷ event (events.Threw (old_ref 1)) 0 1 (0 ∷ 0 ∷ [])
      ∷ []
      ) ends.Stopped
  -- a monitor is entered again, and stays entered behind the method
  pub entered_twice : shows sync_program (
      actions.NewArray (codes "[I") (pos 1)
      ∷ call_T (codes "twice") (codes "(Ljava/lang/Object;)V") (given.Known 0 ∷ [])
      ∷ actions.Stop
      ∷ []
      ) (
      made 0 (codes "[I") 0 0 (0 ∷ [])
      ∷ result_nothing 0 2 (1 ∷ [])
      ∷ []
      ) ends.Stopped
  pub enter_null : shows sync_program (
      call_T (codes "twice") (codes "(Ljava/lang/Object;)V") (given.Null ∷ [])
      ∷ actions.Stop
      ∷ []
      ) (threw_new 0 (codes "java/lang/NullPointerException") 0 0 (0 ∷ []) ∷ []) ends.Stopped
