-- What the proof goes on: a verified folder, whose program is typed, and the program in which its hosts run expanded flat codes.
use Rattle.class_tree.specs.Headers.{Classes, headers_of}
use Rattle.class_tree.specs.Hierarchy.{IsHierarchy}
use Rattle.class_tree.specs.Trees.{IsTree}
use Rattle.expanded_runs.specs.ExpandedPrograms.{AreExpanded}
use Rattle.flow_code.specs.TypedFrames.{FolderFrames}
use Rattle.member_link.specs.Machine.Classes.{program_of}
use Rattle.member_link.specs.Machine.Links.{AreLinksOf}
use Rattle.member_link.specs.Machine.Programs.{Links, Program}
use Rattle.member_link.specs.Machine.Replaced.{Replacement, replaced}
use Rattle.same_runs.specs.ClearedFields.{ReplacesByFlats}
use Rattle.same_runs.specs.Flats.{Flats}
use Rattle.type_rules.specs.Verified.{TypesFolder}
use Rattle.typed_runs.specs.FolderTypings.{HasTypings}
use Rattle.typed_runs.specs.TypedPrograms.{IsTypedProgram, Typings}

-- the folder, the frames that type it, its links, flat codes of some of its methods, what takes the place, and how its program is typed
pub record Setup : Type 0 where
  pub classes : Classes
  pub typed : FolderFrames
  pub links : Links
  pub flats : Flats
  pub r : Replacement
  pub typings : Typings

-- the folder's program, and that in which hosts run flat codes
abbrev pub before : Setup → Program
before u = program_of u.classes u.links

abbrev pub after : Setup → Program
after u = replaced (before u) u.r

pub record IsSetup (u : Setup) : Type 0 where
  pub tree : IsTree u.classes
  pub hierarchy : IsHierarchy (headers_of u.classes)
  pub linked : AreLinksOf (headers_of u.classes) u.links
  pub types : TypesFolder u.classes u.typed
  pub expanded : AreExpanded u.classes u.typed u.flats
  pub replaces : ReplacesByFlats u.classes u.links u.flats u.r
  pub program : IsTypedProgram (before u) u.typings
  pub typings : HasTypings u.typed u.typings
