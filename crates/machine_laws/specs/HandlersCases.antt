-- Small programs and what they show: which handler catches a throwable, and what the frames
-- below it keep.
use Rattle.std.specs.Prelude.{ℕ, ℤ, pos, List, [], ◌∷◌, codes, Option, Some, None}
use Rattle.class_model.specs.declared.descriptor.FieldType.TheVariants as types
use Rattle.class_model.specs.declared.descriptor.Kind.TheVariants as kinds
use Rattle.class_model.specs.declared.opcodes.TheConstants.{POP, IADD, IDIV}
use Rattle.class_tree.specs.Headers.{Name}
use Rattle.class_tree.specs.Names.{throwable}
use Rattle.machine_values.specs.declared.action.Action.TheVariants as actions
use Rattle.machine_values.specs.declared.action.Given.TheVariants as given
use Rattle.machine_values.specs.declared.event.End.TheVariants as ends
use Rattle.machine_values.specs.declared.event.EventKind.TheVariants as events
use Rattle.machine_values.specs.declared.event.Seen.TheVariants as seen
use Rattle.machine_laws.specs.TestPrograms.{reference, program, with_code, class, int, use_of_L, T_fields, shows, event, result_int, new_ref, call_T, with_catches, range, new_external, threw_new, asked_use}
use Rattle.member_link.specs.Machine.Ops as ops
use Rattle.member_link.specs.Machine.Programs.{Program, RunMethod}

abbrev pub arithmetic_class : Name
arithmetic_class = codes "java/lang/ArithmeticException"

-- static int NAME(int d) { try { return 10 / d; } catch (FIRST e) { return 1; } catch (SECOND e)
-- { return 2; } }
abbrev pub catching : List ℕ → Option Name → Option Name → RunMethod
catching name first second = with_catches 9 name (codes "(I)I") 1 (
    int (pos 10)
    ∷ ops.load_local kinds.Int 0
    ∷ ops.division IDIV
    ∷ ops.return_value types.Int
    ∷ ops.shuffle_stack POP
    ∷ int (pos 1)
    ∷ ops.return_value types.Int
    ∷ ops.shuffle_stack POP
    ∷ int (pos 2)
    ∷ ops.return_value types.Int
    ∷ []
    ) (
    range 0 4 4 first
    ∷ range 0 4 7 second
    ∷ []
    )

-- static int NAME(int d) { return 10 / d; }
abbrev pub dividing : List ℕ → RunMethod
dividing name = with_code 9 name (codes "(I)I") 1 (
    int (pos 10)
    ∷ ops.load_local kinds.Int 0
    ∷ ops.division IDIV
    ∷ ops.return_value types.Int
    ∷ []
    )

-- static int outer(int d) { try { return 5 + inner(d); } catch (Throwable e) { L.use(e); return
-- d; } }
abbrev pub catching_call : RunMethod
catching_call = with_catches 9 (codes "outer") (codes "(I)I") 2 (
    int (pos 5)
    ∷ ops.load_local kinds.Int 0
    ∷ ops.call_static (reference (codes "T") (codes "inner") (codes "(I)I"))
    ∷ ops.pure_arithmetic IADD
    ∷ ops.return_value types.Int
    ∷ ops.call_static use_of_L
    ∷ ops.load_local kinds.Int 0
    ∷ ops.return_value types.Int
    ∷ []
    ) (range 0 5 5 (Some throwable) ∷ [])

abbrev pub handlers_program : Program
handlers_program = program (
    T_fields [] (
    catching (codes "same") (Some arithmetic_class) (Some throwable)
    ∷ catching (codes "above") (Some (codes "java/lang/NullPointerException")) (Some throwable)
    ∷ catching (codes "any") None (Some arithmetic_class)
    ∷ catching (codes "none") (Some (codes "java/lang/NullPointerException"))
    (Some (codes "java/lang/ClassCastException"))
    ∷ dividing (codes "inner")
    ∷ catching_call
    ∷ []
    )
    ∷ []
    )

abbrev pub handles : List ℕ → ℤ → Type 0
handles name answer =
    shows handlers_program (call_T name (codes "(I)I") (given.Int (pos 0) ∷ []) ∷ actions.Stop ∷ [])
    (result_int answer 0 0 [] ∷ []) ends.Stopped

-- ---- an object of the library that also implements interfaces

-- static int NAME(Throwable e) { try { throw e; } catch (FIRST e) { return 1; } catch (SECOND e)
-- { return 2; } }
abbrev pub rethrowing : List ℕ → Option Name → Option Name → RunMethod
rethrowing name first second = with_catches 9 name (codes "(Ljava/lang/Throwable;)I") 1 (
    ops.load_local kinds.Ref 0
    ∷ ops.throw_reference
    ∷ ops.shuffle_stack POP
    ∷ int (pos 1)
    ∷ ops.return_value types.Int
    ∷ ops.shuffle_stack POP
    ∷ int (pos 2)
    ∷ ops.return_value types.Int
    ∷ []
    ) (
    range 0 2 2 first
    ∷ range 0 2 5 second
    ∷ []
    )

abbrev pub external_program : Program
external_program = program (
    T_fields [] (
    rethrowing (codes "class") (Some (codes "java/lang/NullPointerException"))
    (Some arithmetic_class)
    ∷ rethrowing (codes "interface") (Some (codes "I")) (Some throwable)
    ∷ []
    )
    ∷ class 1537 (codes "I") [] []
    ∷ []
    )

-- of an ArithmeticException that also implements these
abbrev pub handles_external : List Name → List ℕ → ℤ → Type 0
handles_external also name answer = shows external_program (
    actions.NewExternal arithmetic_class also
    ∷ call_T name (codes "(Ljava/lang/Throwable;)I") (given.Known 0 ∷ [])
    ∷ actions.Stop
    ∷ []
    ) (
    event (events.Made (new_external 0 arithmetic_class also)) 0 0 (0 ∷ [])
    ∷ result_int answer 0 0 (0 ∷ [])
    ∷ []
    ) ends.Stopped

pub record RunHandlers : Type 0 where
  -- the first handler of the table that catches it, of its class or of one above
  pub own_class : handles (codes "same") (pos 1)
  pub superclass : handles (codes "above") (pos 2)
  pub every_class : handles (codes "any") (pos 1)
  pub no_handler : shows handlers_program
      (call_T (codes "none") (codes "(I)I") (given.Int (pos 0) ∷ []) ∷ actions.Stop ∷ [])
      (threw_new 0 arithmetic_class 0 0 (0 ∷ []) ∷ []) ends.Stopped
  -- a frame that waited for a call loses its stack and keeps its locals
  pub of_caller : shows handlers_program (
      call_T (codes "outer") (codes "(I)I") (given.Int (pos 0) ∷ [])
      ∷ actions.Return None
      ∷ actions.Stop
      ∷ []
      ) (
      asked_use (seen.Ref (new_ref 0 arithmetic_class)) 0 0 (0 ∷ [])
      ∷ result_int (pos 0) 0 0 (0 ∷ [])
      ∷ []
      ) ends.Stopped
  pub caller_not_reached : shows handlers_program (
      call_T (codes "outer") (codes "(I)I") (given.Int (pos 5) ∷ [])
      ∷ actions.Stop
      ∷ []
      ) (result_int (pos 7) 0 0 [] ∷ []) ends.Stopped
  -- a handler catches by the class and by what an object also implements; the verifier takes no
  -- handler of an interface
  pub external_by_class : handles_external (codes "I" ∷ []) (codes "class") (pos 2)
  pub external_by_interface : handles_external (codes "I" ∷ []) (codes "interface") (pos 1)
  pub external_without_interface : handles_external [] (codes "interface") (pos 2)
