-- Several steps of a run, taken together.
use Rattle.std.specs.Prelude.{◌≡◌, ◌≤◌, ◌+◌, ◌-◌, ◌^◌, ℕ, List, ◌∷◌}
use Rattle.machine_values.specs.Frames.{MethodState}
use Rattle.machine_values.specs.declared.action.Action.{Action}
use Rattle.machine_values.specs.declared.frame.RunFrame.{RunFrame}
use Rattle.machine_values.specs.declared.frame.RunFrame.TheVariants.{Method}
use Rattle.member_link.specs.Machine.Programs.{Program}
use Rattle.member_link.specs.Machine.Runs.{turns}
use Rattle.member_link.specs.Machine.Worlds.{Memory, World, going}
use Rattle.machine_step.specs.Bounded.{IsBoundedWorld}
use Rattle.machine_run.specs.Inner.Performed.{world_operated}
use Rattle.machine_run.specs.Inner.RunWords.{run_at}
use Rattle.machine_run.specs.declared.stepping.Operated.{Operated}

-- so many turns, which take no action, lead from one world to another
pub record Leads (P : Program) (count : ℕ) (before after : World) : Type 0 where
  pub turned : (actions : List Action) (used : ℕ)
      → turns P count (run_at before actions used) ≡ run_at after actions used
  pub bounded : IsBoundedWorld after

-- a world that goes on, with this frame on top and this memory, which can count so many steps more
pub record Runs (w : World) (rest : List RunFrame) (f : MethodState) (memory : Memory) (left : ℕ) : Type 0 where
  pub top : w.frames ≡ Method f ∷ rest
  pub remembers : w.memory ≡ memory
  pub goes_on : w.halt ≡ going
  pub bounded : IsBoundedWorld w
  pub few : w.steps + left ≤ 2 ^ 64 - 1

-- there is such a world
pub record IsRunning (f : MethodState) (memory : Memory) (left : ℕ) : Type 0 where
  pub world : World
  pub rest : List RunFrame
  pub runs : Runs world rest f memory left

-- the frame of a method is on top, and there is such a world
pub record AreRunning (frames : List RunFrame) (memory : Memory) (left : ℕ) : Type 0 where
  pub frame : MethodState
  pub world : World
  pub rest : List RunFrame
  pub top : frames ≡ Method frame ∷ rest
  pub runs : Runs world rest frame memory left

-- the world behind so many operations
abbrev pub behind : World → List RunFrame → MethodState → Memory → ℕ → World
behind w rest f memory count =
    record w { frames = Method f ∷ rest; memory = memory; steps = w.steps + count }

-- operations of the top frame led to these frames and this memory, and to what the last one leaves to do
pub record HasOperated (P : Program) (w : World) (rest : List RunFrame) (frames : List RunFrame)
    (memory : Memory) (count : ℕ) (last : Operated)
    : Type 0 where
  pub frame : MethodState
  pub top : frames ≡ Method frame ∷ rest
  pub leads : Leads P count w (world_operated P (behind w rest frame memory count) frame rest last)
