-- Quiet turns of flat code around a callee: the arguments are stored, and the result is narrowed.
use Rattle.std.specs.Prelude.{◌+◌, ◌-◌, ℕ, List, ◌∷◌, ◌++◌, length, replicate, Option, None}
use Rattle.machine_values.specs.Frames.{MethodState}
use Rattle.machine_values.specs.Values.{units_of_values}
use Rattle.machine_values.specs.declared.frame.RunFrame.{RunFrame}
use Rattle.machine_values.specs.declared.frame.RunFrame.TheVariants.{Method}
use Rattle.machine_values.specs.declared.value.Value.{Value}
use Rattle.member_link.specs.Machine.Programs.{Program}
use Rattle.member_link.specs.Machine.Runs.{Run}
use Rattle.same_runs.specs.Laws.QuietBeginnings.{standing}
use Rattle.same_runs.specs.Renamings.{Names, SameValues}
use Rattle.same_runs.specs.SameMoves.{KeepsOutside, ShiftedUnits}
use Rattle.same_runs.specs.Simulations.{Quietly}

-- a run goes on quietly to where its top frame is another one
pub record GoesTo (Q : Program) (r : Run) (others : List RunFrame) (g : MethodState) : Type 0 where
  pub steps : ℕ
  pub quietly : Quietly Q r (standing r (Method g ∷ others) r.world.memory steps)

-- Arguments are stored, from a unit on and among so many, and what is below them is left on the stack.
pub record Stores (Q : Program) (r : Run) (others : List RunFrame) (g : MethodState)
    (unit size count : ℕ) (values below : List Value)
    : Type 0 where
  pub locals : List (Option Value)
  pub goes : GoesTo Q r others (record g { place = g.place + count; stack = below; locals = locals })
  pub units : (names : Names) (ones : List Value)
      → SameValues names ones values
      → ShiftedUnits names unit size
      (units_of_values ones ++ replicate (size - length (units_of_values ones)) None) locals
  pub outside : KeepsOutside unit size g.locals locals
