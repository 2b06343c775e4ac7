-- What an operation comes to with its operands (JVM Specification SE 8, 2.6.4, 2.6.5 and 2.10).
use Rattle.std.specs.Prelude.{ℕ, List, Option}
use Rattle.class_model.specs.declared.class_file.MethodAt.{MethodAt}
use Rattle.class_tree.specs.Headers.{Name}
use Rattle.machine_values.specs.declared.value.Value.{Value}
use Rattle.member_link.specs.Machine.Worlds.{Memory, Halt}
use Rattle.member_link.specs.References.{Reference}

-- What the library is asked, with values as the machine has them: to run a method, a dynamic call, to read and write a field of
-- its own (a static one without a receiver), and to compute with floats and doubles.
pub data Asked : Type 0 where
  asks_call : Reference → List Value → Asked
  asks_dynamic : Name → ℕ → List ℕ → List ℕ → List Value → Asked
  asks_get : Reference → Option Value → Asked
  asks_put : Reference → Option Value → Value → Asked
  asks_float : ℕ → List Value → Asked

pub data Completion : Type 0 where
  -- it pushes values, the topmost last, and control goes on behind it
  gives : Memory → List Value → Completion
  -- the machine raises a throwable of its own, and a reference is thrown
  raises : Name → Completion
  throws : ℕ → Completion
  -- a class of the folder is begun first, and the operation is still to be done
  begins : ℕ → Completion
  -- a method of the folder is called with these arguments, the receiver first
  calls : MethodAt → List Value → Completion
  asks : Asked → Completion
  -- the run ends
  ends : Halt → Completion
