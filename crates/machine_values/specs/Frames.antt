-- The frame of a method (JVM Specification SE 8, 2.6).
use Rattle.std.specs.Prelude.{ℕ, List, Option}
use Rattle.class_model.specs.declared.class_file.MethodAt.{MethodAt}
use Rattle.machine_values.specs.declared.value.Value.{Value}

-- its method, the number of the instruction at which it stands, the locals by unit, the operand stack with its top first,
-- and the reference whose monitor the method entered as a synchronized one
pub record MethodState : Type 0 where
  pub at : MethodAt
  pub place : ℕ
  pub locals : List (Option Value)
  pub stack : List Value
  pub held : Option ℕ
