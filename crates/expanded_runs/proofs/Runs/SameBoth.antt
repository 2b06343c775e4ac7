-- The two programs are the same but for the codes of methods and flags of fields, and classes begin alike in both.
use Rattle.expanded_runs.proofs.Runs.Setup.{IsSetup, Setup, after, before}
use Rattle.same_runs.specs.Laws.FlatPrograms.{none_added_alike}
use Rattle.same_runs.specs.Laws.QuietBeginnings.{BeginAlike, hierarchies_begin_alike}
use Rattle.same_runs.specs.Laws.ReplacedPrograms.{replaced_same}
use Rattle.same_runs.specs.SamePrograms.{SamePrograms}

module _ {u : Setup} (is : IsSetup u) where
  pub same_programs : SamePrograms (before u) (after u)
  same_programs = replaced_same (none_added_alike u.classes u.links is.linked u.r is.replaces.none_added)

  pub begin_alike : BeginAlike (before u) (after u)
  begin_alike = hierarchies_begin_alike (before u) (after u) same_programs is.program.hierarchy is.program.links
