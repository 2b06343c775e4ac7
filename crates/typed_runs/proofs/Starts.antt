use Rattle.member_link.specs.Machine.Programs.{Program}
use Rattle.member_link.specs.Machine.Worlds.{start}
use Rattle.typed_runs.specs.Conforming.{IsTypedMemory}
use Rattle.typed_runs.specs.TypedFrames.{lowest}
use Rattle.typed_runs.specs.TypedPrograms.{Typings, IsTypedProgram}
use Rattle.typed_runs.specs.TypedWorlds.{TypedWorld}

pub start_memory : (P : Program) → IsTypedMemory P start.memory
start_memory P = record {
  objects = λ reference object is. cc;
  constants = tt;
  statics = tt;
}

pub start_typed : (P : Program) (T : Typings) → IsTypedProgram P T → TypedWorld P T start
start_typed P T program = record {
  program = program;
  memory = start_memory P;
  frames = lowest tt;
  known = tt;
}
