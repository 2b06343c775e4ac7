-- What lasts while a run goes on: objects keep their references and what they are, events and known references are added at the end
-- alone, and counts do not fall.
use Rattle.std.specs.Prelude.{◌≡◌, ◌≢◌, ◌≤◌, IsTrue, List, [], ◌∷◌, ◌++◌}
use Rattle.machine_values.specs.declared.object.Object.{Object}
use Rattle.member_link.specs.Machine.Runs.{Run}
use Rattle.member_link.specs.Machine.Stepping.{is_library_turn}
use Rattle.member_link.specs.Machine.Worlds.{World, Memory, going}

-- each object is still there, and is what it was
abbrev pub KeepShapes : List Object → List Object → Type 0
KeepShapes [] after = Unit {0}
KeepShapes (one ∷ ones) [] = ⊥
KeepShapes (one ∷ ones) (other ∷ others) = (other.shape ≡ one.shape) × KeepShapes ones others

-- items were added at the end
pub record IsPrefix {A : Type 0} (before after : List A) : Type 0 where
  pub more : List A
  pub all : after ≡ before ++ more

pub record MemoryGrows (before after : Memory) : Type 0 where
  pub objects : KeepShapes before.heap.objects after.heap.objects
  pub constants : IsPrefix before.heap.constants after.heap.constants
  pub begun : IsPrefix before.begun after.begun
  pub allocations : before.allocations ≤ after.allocations
  pub entries : before.entries ≤ after.entries

pub record WorldGrows (before after : World) : Type 0 where
  pub memory : MemoryGrows before.memory after.memory
  pub known : IsPrefix before.known after.known
  pub events : IsPrefix before.events after.events
  pub steps : before.steps ≤ after.steps

-- ---- laws of runs

-- the run is over: it ended, or waits for an action that is not there
pub data IsOver (r : Run) : Type 0 where
  has_ended : r.world.halt ≢ going → IsOver r
  has_no_action : IsTrue (is_library_turn r.world.frames) → r.actions ≡ [] → IsOver r
