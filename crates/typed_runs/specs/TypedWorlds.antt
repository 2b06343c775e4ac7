-- Worlds whose values have the types that verification gave.
use Rattle.std.specs.Prelude.{◌≢◌}
use Rattle.std.specs.List.{AllByRecursion}
use Rattle.member_link.specs.Machine.Programs.{Program}
use Rattle.member_link.specs.Machine.Worlds.{World, stuck}
use Rattle.typed_runs.specs.Conforming.{IsInHeap, IsTypedMemory}
use Rattle.typed_runs.specs.TypedFrames.{FramesConform, nothing_awaited}
use Rattle.typed_runs.specs.TypedPrograms.{Typings, IsTypedProgram}

-- The program is typed, what memory holds conforms to its types, the frames conform to those of their points, and what the library knows is in
-- the heap.
pub record TypedWorld (P : Program) (T : Typings) (w : World) : Type 0 where
  pub program : IsTypedProgram P T
  pub memory : IsTypedMemory P w.memory
  pub frames : FramesConform P T w.memory.heap nothing_awaited w.frames
  pub known : AllByRecursion (IsInHeap w.memory.heap) w.known

-- a world that follows a typed one is typed, and is not stuck unless that was
pub record StaysTyped (P : Program) (T : Typings) (before after : World) : Type 0 where
  pub typed : TypedWorld P T after
  pub not_stuck : before.halt ≢ stuck → after.halt ≢ stuck
