-- What the frames that type a folder say of the worlds of its program.
use Rattle.flow_code.specs.TypedFrames.{FolderFrames}
use Rattle.member_link.specs.Machine.Programs.{Program}
use Rattle.member_link.specs.Machine.Worlds.{World}
use Rattle.typed_runs.specs.FolderTypings.{HasTypings}
use Rattle.typed_runs.specs.TypedPrograms.{Typings, IsTypedProgram}
use Rattle.typed_runs.specs.TypedWorlds.{TypedWorld}

-- These frames are those of a typing of the program, and a world that is typed by it is followed by one that is
pub record StaysTypedBy (P : Program) (typed : FolderFrames) (before after : World)
    : Type 0 where
  pub typing : Typings
  pub program : IsTypedProgram P typing
  pub frames : HasTypings typed typing
  pub stays : TypedWorld P typing before → TypedWorld P typing after
