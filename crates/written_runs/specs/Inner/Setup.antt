-- What the proof goes on: a folder, flat codes of some of its methods with plans of them, the program in which these methods run their flat codes, and
-- the one in which they run what is written by the plans.
use Rattle.class_tree.specs.Headers.{Name, Classes, headers_of}
use Rattle.class_tree.specs.Trees.{IsTree}
use Rattle.std.specs.Prelude.{ℕ, List}
use Rattle.member_link.specs.Machine.Classes.{program_of}
use Rattle.member_link.specs.Machine.Links.{AreLinksOf}
use Rattle.member_link.specs.Machine.Programs.{Links, Program}
use Rattle.member_link.specs.Machine.Replaced.{Replacement, replaced}
use Rattle.plan_flow.specs.Written.WrittenPrograms.{GivesConstructors, ReplacesByWritten, WrittenMethods}
use Rattle.same_runs.specs.ClearedFields.{ReplacesByFlats}
use Rattle.same_runs.specs.Flats.{Flats}
use Rattle.typed_runs.specs.TypedPrograms.{IsTypedProgram, Typings}
use Rattle.written_runs.specs.WrittenRuns.{AreFlatsOf, AreReady}

pub record Setup : Type 0 where
  pub classes : Classes
  pub links : Links
  pub constructor : Name → List ℕ
  pub written : WrittenMethods
  pub flats : Flats
  -- what takes the place in the first program, and in the second
  pub r : Replacement
  pub s : Replacement
  -- how the first is typed
  pub typings : Typings

-- the programs in which methods run flat codes, and written ones
abbrev pub first : Setup → Program
first u = replaced (program_of u.classes u.links) u.r

abbrev pub second : Setup → Program
second u = replaced (program_of u.classes u.links) u.s

pub record IsSetup (u : Setup) : Type 0 where
  pub tree : IsTree u.classes
  pub linked : AreLinksOf (headers_of u.classes) u.links
  pub ready : AreReady u.classes u.links u.written
  pub flats : AreFlatsOf u.written u.flats
  pub constructors : GivesConstructors u.classes u.constructor
  pub replaces : ReplacesByFlats u.classes u.links u.flats u.r
  pub replaces_also : ReplacesByWritten u.classes u.links u.constructor u.written u.s
  pub program : IsTypedProgram (first u) u.typings
