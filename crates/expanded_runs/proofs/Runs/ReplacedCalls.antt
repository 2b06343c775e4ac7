-- What a call comes to that flat code replaces by the callee's own code.
use Rattle.std.specs.Prelude.{◌≡◌, nat_le, ℕ, true, false, List, [], ◌∷◌, length, slice_get, Some, IsTrue, IsFalse}
use Rattle.expanded_code.specs.Expanded.{Argument, arguments, tests_receiver}
use Rattle.expanded_code.specs.Expansions.{Coded}
use Rattle.expanded_runs.proofs.Runs.Setup.{Setup, before}
use Rattle.machine_values.specs.Frames.{MethodState}
use Rattle.machine_values.specs.Values.{has_kind}
use Rattle.machine_values.specs.declared.value.Value.{Value}
use Rattle.machine_values.specs.declared.value.Value.TheVariants.{Null, Ref}
use Rattle.member_link.specs.Machine.Codes.{method_code}
use Rattle.member_link.specs.Machine.Completions.{begins, calls, raises}
use Rattle.member_link.specs.Machine.Ops.{Op}
use Rattle.member_link.specs.Machine.Performing.{is_initialiser, locking_of, no_lock}
use Rattle.member_link.specs.Machine.Programs.{Point, Program, RunClass, RunMethod, code_run, run_method}
use Rattle.member_link.specs.Machine.Throwables.{null_pointer}
use Rattle.member_link.specs.Machine.Work.{arity, work}
use Rattle.member_link.specs.Machine.Worlds.{Memory, is_begun}
use Rattle.same_runs.specs.Laws.CaughtUp.{operands_of}
use Rattle.same_runs.specs.Laws.Operations.{WorksOnOperands}
use Rattle.same_runs.specs.SameMemories.{IsInert}

-- values of the kinds of arguments
abbrev pub FitArguments : List Argument → List Value → Type 0
FitArguments [] [] = Unit {0}
FitArguments (argument ∷ others) (value ∷ values) =
    IsTrue (has_kind argument.kind value) × FitArguments others values
FitArguments arguments values = ⊥

-- The class of a static callee begins first, which runs nothing; the receiver is null; or the callee's frame is put on top.
pub data ComesTo (P : Program) (memory : Memory) (op : Op) (values : List Value) (g : Coded)
    : Type 0 where
  comes_to_begin : (class : ℕ) (found : RunClass)
      → slice_get P.classes class ≡ Some found
      → IsInert P class
      → IsFalse (is_begun memory class)
      → work P memory op values ≡ begins class
      → ComesTo P memory op values g
  comes_to_null : (others : List Value)
      → IsTrue (tests_receiver g.scope)
      → values ≡ Null ∷ others
      → work P memory op values ≡ raises null_pointer
      → ComesTo P memory op values g
  comes_to_call :
      ((tested : IsTrue (tests_receiver g.scope)) → (reference : ℕ) × (others : List Value) × (values ≡ Ref reference ∷ others))
      → work P memory op values ≡ calls g.at values
      → ComesTo P memory op values g

-- the callee of the first program: it is no class initialiser, enters no monitor, and runs its own code
pub record IsPlainMethod (u : Setup) (g : Coded) : Type 0 where
  pub method : RunMethod
  pub is : run_method (before u) g.at ≡ Some method
  pub no_initialiser : is_initialiser method ≡ false
  pub unlocked : locking_of (Some method) ≡ no_lock
  pub code : code_run method ≡ Some (method_code u.links g.scope)
  pub no_handlers : g.scope.part.handlers ≡ []

pub record ReplacedCall (u : Setup) (memory : Memory) (f : MethodState) (point : Point) (g : Coded)
    : Type 0 where
  pub works : WorksOnOperands point.op
  pub enough : nat_le (arity point.op) (length f.stack) ≡ true
  pub comes : ComesTo (before u) memory point.op (operands_of (arity point.op) f) g
  pub fit : (unit : ℕ) → FitArguments (arguments g.scope unit) (operands_of (arity point.op) f)
  pub callee : IsPlainMethod u g
