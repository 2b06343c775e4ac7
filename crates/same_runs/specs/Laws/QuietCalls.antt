-- Quiet turns of one run that work on operands, call a method and return from it, while the other run stands still.
use Rattle.std.proofs.Common.{◌≡◌, ◌+◌, nat_le, ℕ, true, false, List, [], ◌∷◌, length, Some, None, refl, ap, ◌∙◌}
use Rattle.class_model.specs.declared.class_file.MethodAt.{MethodAt}
use Rattle.machine_values.specs.Frames.{MethodState}
use Rattle.machine_values.specs.Values.{units_of_values}
use Rattle.machine_values.specs.declared.frame.RunFrame.{RunFrame}
use Rattle.machine_values.specs.declared.frame.RunFrame.TheVariants.{Method}
use Rattle.machine_values.specs.declared.value.Value.{Value}
use Rattle.member_link.specs.Machine.Beginnings.{frame_with}
use Rattle.member_link.specs.Machine.Completions.{calls, gives}
use Rattle.member_link.specs.Machine.Ops.{return_nothing}
use Rattle.member_link.specs.Machine.Performing.{Locking, is_initialiser, locked_by, locking_of, no_lock, resumed, with_frame}
use Rattle.member_link.specs.Machine.Programs.{Point, Program, RunMethod, name_of_class, point_at, run_method}
use Rattle.member_link.specs.Machine.Runs.{Run}
use Rattle.member_link.specs.Machine.Stepping.{op_step, point_step}
use Rattle.member_link.specs.Machine.Work.{arity, work}
use Rattle.member_link.specs.Machine.Worlds.{Memory, World, going}
use Rattle.same_runs.specs.Simulations.{Keeps, Quietly}
use Rattle.same_runs.specs.Laws.CaughtUp.{less, operands_of}
use Rattle.same_runs.specs.Laws.Operations.{WorksOnOperands, step_works}
use Rattle.same_runs.specs.Laws.QuietBeginnings.{quietly_then, standing}
use Rattle.same_runs.specs.Laws.QuietMoves.{quiet_turn}

-- An operation that gives values: the frame goes on with them, and the memory is another one.
pub quiet_gives :
    {Q : Program} {others : List RunFrame} (r : Run) (f : MethodState) (memory later : Memory) (steps : ℕ) (point : Point)
    (values : List Value)
    → r.world.halt ≡ going
    → point_at Q f.at f.place ≡ Some point
    → WorksOnOperands point.op
    → nat_le (arity point.op) (length f.stack) ≡ true
    → work Q memory point.op (operands_of (arity point.op) f) ≡ gives later values
    → Quietly Q (standing r (Method f ∷ others) memory steps)
    (standing r (Method (resumed (less (arity point.op) f) values) ∷ others) later (steps + 1))
quiet_gives {Q = Q} {others = others} r f memory later steps point values goes is works enough given =
    quiet_turn r (Method f ∷ others) (Method (resumed (less (arity point.op) f) values) ∷ others) memory later steps goes refl refl
    (ap (point_step Q counted f others) is ∙ step_works Q f others point.op works counted ∙ rw (enough, given) refl) where
      counted : World
      counted = (standing r (Method f ∷ others) memory (steps + 1)).world

-- A call of a method that is not synchronized: its frame is on top then, and that of the caller waits.
pub quiet_call :
    {Q : Program} {others : List RunFrame} (r : Run) (f : MethodState) (memory : Memory) (steps : ℕ) (point : Point) (to : MethodAt)
    (values : List Value)
    → r.world.halt ≡ going
    → point_at Q f.at f.place ≡ Some point
    → WorksOnOperands point.op
    → nat_le (arity point.op) (length f.stack) ≡ true
    → work Q memory point.op (operands_of (arity point.op) f) ≡ calls to values
    → locking_of (run_method Q to) ≡ no_lock
    → Quietly Q (standing r (Method f ∷ others) memory steps)
    (standing r (Method (frame_with Q to (units_of_values values) None) ∷ Method (less (arity point.op) f) ∷ others) memory (steps + 1))
quiet_call {Q = Q} {others = others} r f memory steps point to values goes is works enough called_then free =
    quiet_turn r (Method f ∷ others) (Method (frame_with Q to (units_of_values values) None) ∷ Method (less (arity point.op) f) ∷ others)
    memory memory steps goes refl refl
    (ap (point_step Q counted f others) is ∙ step_works Q f others point.op works counted ∙ rw (enough, called_then) entered) where
      counted : World
      counted = (standing r (Method f ∷ others) memory (steps + 1)).world

      below : List RunFrame
      below = Method (less (arity point.op) f) ∷ others

      entered : with_frame Q counted to values below (locked_by memory (name_of_class Q to.class) (locking_of (run_method Q to)) values)
          ≡ record counted { memory = memory; frames = Method (frame_with Q to (units_of_values values) None) ∷ below }
      entered =
          ap (λ (locking : Locking). with_frame Q counted to values below (locked_by memory (name_of_class Q to.class) locking values)) free

-- A method without a result returns, that is no class initialiser and holds no monitor: its caller goes on.
pub quiet_return :
    {Q : Program} {others : List RunFrame} (r : Run) (f waiting : MethodState) (memory : Memory) (steps : ℕ) (point : Point)
    (method : RunMethod)
    → r.world.halt ≡ going
    → point_at Q f.at f.place ≡ Some point
    → point.op ≡ return_nothing
    → run_method Q f.at ≡ Some method
    → is_initialiser method ≡ false
    → f.held ≡ None
    → Quietly Q (standing r (Method f ∷ Method waiting ∷ others) memory steps)
    (standing r (Method (resumed waiting []) ∷ others) memory (steps + 1))
quiet_return {Q = Q} {others = others} r f waiting memory steps point method goes is returns is_method no_initialiser holds_none =
    quiet_turn r (Method f ∷ Method waiting ∷ others) (Method (resumed waiting []) ∷ others) memory memory steps goes refl refl
    (ap (point_step Q counted f (Method waiting ∷ others)) is
    ∙ ap (op_step Q counted f (Method waiting ∷ others)) returns
    ∙ rw (is_method, no_initialiser, holds_none) refl) where
      counted : World
      counted = (standing r (Method f ∷ Method waiting ∷ others) memory (steps + 1)).world

-- Where quiet turns lead to a run from which a turn keeps a relation, it does so from the run before them.
pub quiet_keeps :
    {P Q : Program} {Relates : ℕ → Run → Run → Type 0} {measure : ℕ} {one other waits : Run}
    → Quietly Q other waits
    → Keeps P Q Relates measure one waits
    → Keeps P Q Relates measure one other
quiet_keeps quietly keeps = record {
  waits = keeps.waits;
  quietly = quietly_then quietly keeps.quietly;
  measure_then = keeps.measure_then;
  goes_on = keeps.goes_on;
}
