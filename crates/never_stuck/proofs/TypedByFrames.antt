-- The frames that type a folder are those of a typing of its program.
use Rattle.std.specs.Prelude.{◌<◌, length, Result, Ok, Err, OnOk}
use Rattle.std.proofs.Common.{sym, subst}
use Rattle.class_tree.specs.Headers.{Classes, headers_of}
use Rattle.class_tree.specs.Trees.{IsTree}
use Rattle.flow_code.specs.TypedFrames.{FolderFrames}
use Rattle.member_link.specs.Linked.{IsLinked}
use Rattle.member_link.specs.Machine.Classes.{program_of}
use Rattle.member_link.specs.Machine.Links.{AreLinksOf}
use Rattle.member_link.specs.Machine.Programs.{Program, Links}
use Rattle.member_link.specs.Machine.Worlds.{World}
use Rattle.member_link.specs.TreePrograms.{IsProgram}
use Rattle.never_stuck.specs.FolderTypings.{StaysTypedBy}
use Rattle.type_rules.specs.Verified.{TypesFolder}
use Rattle.typed_runs.specs.FolderTypings.{HasTypings}
use Rattle.typed_runs.specs.TypedPrograms.{Typings, IsTypedProgram}
use Rattle.typed_runs.specs.TypedWorlds.{TypedWorld}

module _ {A E : Type 0} (classes : Classes) (typed : FolderFrames) (before now : World) (tree : IsTree classes)
    (types : (classes : Classes) (typed : FolderFrames) (links : Links)
    → IsTree classes → IsLinked classes → TypesFolder classes typed → AreLinksOf (headers_of classes) links → 0 < length classes.folder
    → (T : Typings) × IsTypedProgram (program_of classes links) T × HasTypings typed T) where
  pub stays_typed_by : (r : Result A E)
      → OnOk r ((P : Program) (T : Typings) → IsProgram classes P → TypedWorld P T before → TypedWorld P T now)
      → OnOk r ((P : Program) → IsProgram classes P → IsLinked classes → TypesFolder classes typed → 0 < length classes.folder
      → StaysTypedBy P typed before now)
  stays_typed_by (Ok a) stays = λ P is linked fits some.
      let t = types classes typed is.links tree linked fits is.are_links some in
      record {
        typing = t.0;
        program = subst (λ (p : Program). IsTypedProgram p t.0) (sym is.same) t.1;
        frames = t.2;
        stays = stays P t.0 is;
      }
  stays_typed_by (Err e) stays = tt
