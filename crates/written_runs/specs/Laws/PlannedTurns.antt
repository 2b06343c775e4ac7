-- A turn of the first run at a planned frame, by what is written of its instruction.
use Rattle.std.proofs.Common.{◌≡◌, ◌≤◌, ◌-◌, ℕ, List, [], ◌∷◌, length, Option, Some, None, refl}
use Rattle.class_model.specs.declared.instr.Instr.{Instr}
use Rattle.flow_code.specs.declared.point.FlatInstr.{FlatInstr}
use Rattle.flow_code.specs.declared.point.FlatInstr.TheVariants.{NullTest, Of}
use Rattle.machine_values.specs.Frames.{MethodState}
use Rattle.machine_values.specs.declared.frame.RunFrame.{RunFrame}
use Rattle.machine_values.specs.declared.frame.RunFrame.TheVariants.{Method}
use Rattle.making_code.specs.Items.{WInstr}
use Rattle.member_link.specs.Machine.Runs.{Run}
use Rattle.plan_flow.specs.Written.Blocks.{state_written}
use Rattle.plan_flow.specs.Written.Templates.{template}
use Rattle.written_runs.specs.Inner.PlannedFrames.{InPlanned, scope_in}
use Rattle.written_runs.specs.Inner.Setup.{Setup, first}
use Rattle.written_runs.specs.Laws.Simulation.{KeepsTurn}
use Rattle.written_runs.specs.Inner.Standing.{Stands, is_awaited}
use Rattle.written_runs.specs.Inner.Together.{IsSettled, Together, weight}

-- Runs that go together, where a planned frame stands on top and its instruction is next in both.
pub record AtPlanned (u : Setup) (measure : ℕ) (one other : Run) : Type 0 where
  pub t : Together u measure one other
  pub none_now : t.along.now ≡ []
  pub f : MethodState
  pub g : MethodState
  pub ones : List RunFrame
  pub others : List RunFrame
  pub stands : t.along.ones ≡ Method f ∷ ones
  pub stands_also : t.along.others ≡ Method g ∷ others
  pub in_planned : InPlanned u t.along.virtuals t.along.known t.along.names (length ones) f g
  pub settled : IsSettled u one.world.memory in_planned.one f g in_planned.block
  pub below : Stands u t.along.virtuals t.along.known (is_awaited u g.at) t.along.names ones others
  pub low : weight (first u) one.world.memory [] (length in_planned.one.flat.points - f.place) ≤ measure

-- what is written of the instruction there, in place of it, if something is
abbrev pub written_at : {u : Setup} {measure : ℕ} {one other : Run} → AtPlanned u measure one other → ℕ → Instr → Option (List WInstr)
written_at {u = u} a class instr =
    template (scope_in u a.in_planned.one) a.f.place a.settled.point.typed (state_written a.settled.route) a.settled.route class instr

-- What a planned frame's turn is, by what stands at its point: an instruction of which a template is written; one that is written as it is; a test
-- for null. What is written of a template mostly moves, jumps and pushes (`BehindMoves`); but a new object's class may have to begin in the first
-- run, objects may be made before a jump, and what is stored into a field is narrowed.
pub record PlannedParts (u : Setup) : Type 0 where
  pub by_template : (measure : ℕ) (one other : Run) (a : AtPlanned u measure one other) (class : ℕ) (instr : Instr) (instrs : List WInstr)
      → a.settled.point.instr ≡ Of class instr
      → written_at a class instr ≡ Some instrs
      → KeepsTurn u measure one other
  pub as_it_is : (measure : ℕ) (one other : Run) (a : AtPlanned u measure one other) (class : ℕ) (instr : Instr)
      → a.settled.point.instr ≡ Of class instr
      → written_at a class instr ≡ None
      → KeepsTurn u measure one other
  pub tests_null : (measure : ℕ) (one other : Run) (a : AtPlanned u measure one other) (local : ℕ)
      → a.settled.point.instr ≡ NullTest local
      → KeepsTurn u measure one other

pub planned_turn : (u : Setup) → PlannedParts u → (measure : ℕ) (one other : Run) → AtPlanned u measure one other
    → KeepsTurn u measure one other
planned_turn u parts measure one other a = by a.settled.point.instr refl where
  of_template : (class : ℕ) (instr : Instr)
      → a.settled.point.instr ≡ Of class instr
      → (written : Option (List WInstr))
      → written_at a class instr ≡ written
      → KeepsTurn u measure one other
  of_template class instr is None none = parts.as_it_is measure one other a class instr is none
  of_template class instr is (Some instrs) some = parts.by_template measure one other a class instr instrs is some

  by : (instr : FlatInstr) → a.settled.point.instr ≡ instr → KeepsTurn u measure one other
  by (Of class instr) is = of_template class instr is (written_at a class instr) refl
  by (NullTest local) is = parts.tests_null measure one other a local is
