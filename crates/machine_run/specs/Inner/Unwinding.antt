-- Methods that end until the frame is on top in which a thrown object lands.
use Rattle.std.specs.Prelude.{◌≡◌, ◌≤◌, ℕ, Some, length}
use Rattle.member_link.specs.Machine.Performing.{unwind}
use Rattle.member_link.specs.Machine.Programs.{Program}
use Rattle.member_link.specs.Machine.Worlds.{World}
use Rattle.machine_run.specs.Inner.ThrowTargets.{shape_at, target_in}
use Rattle.machine_run.specs.declared.throw_targets.ThrowTarget.{ThrowTarget}

-- an object lands as before
pub record LandsAlike (P : Program) (reference : ℕ) (target : ThrowTarget) (before now : World)
    : Type 0 where
  pub lands : target_in P (shape_at now.memory.heap reference) now.frames ≡ Some target
  pub unwound :
      unwind P reference before.frames before.memory ≡ unwind P reference now.frames now.memory

-- between two worlds methods ended, but none of those frames that are left where an object lands
pub record AreEnding (left : ℕ) (before now : World) : Type 0 where
  pub rest : now ≡ record before { memory = now.memory; frames = now.frames }
  pub lands :
      (P : Program) (reference : ℕ) (target : ThrowTarget)
      → target.left ≡ left
      → target_in P (shape_at before.memory.heap reference) before.frames ≡ Some target
      → LandsAlike P reference target before now

-- and no others are left
pub record AreEnded (left : ℕ) (before now : World) : Type 0 where
  pub ending : AreEnding left before now
  pub few : length now.frames ≤ left
