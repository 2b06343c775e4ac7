-- The program with flat codes and the one with written codes begin classes alike.
use Rattle.class_tree.specs.Headers.{headers_of}
use Rattle.class_tree.specs.Hierarchy.{IsHierarchy}
use Rattle.member_link.specs.Machine.Classes.{program_of}
use Rattle.member_link.specs.Machine.Programs.{Program}
use Rattle.same_runs.specs.Laws.QuietBeginnings.{BeginAlike, hierarchies_begin_alike}
use Rattle.same_runs.specs.Laws.ReplacedPrograms.{replaced_same}
use Rattle.same_runs.specs.SamePrograms.{SamePrograms}
use Rattle.written_runs.specs.Inner.Setup.{IsSetup, Setup, first, second}
use Rattle.written_runs.specs.Laws.AddedConstructors.{AddsToCandidates, first_alike, first_second_same}

-- the folder's own program
abbrev pub own : Setup → Program
own u = program_of u.classes u.links

module _ {u : Setup} (is : IsSetup u) where
  -- the first program is the folder's but for codes and flags
  pub own_same : SamePrograms (own u) (first u)
  own_same = replaced_same (first_alike u is)

  pub begin_alike : IsHierarchy (headers_of u.classes) → AddsToCandidates u → BeginAlike (first u) (second u)
  begin_alike hierarchy adds =
      hierarchies_begin_alike (first u) (second u) (first_second_same u is hierarchy adds) is.program.hierarchy is.program.links
