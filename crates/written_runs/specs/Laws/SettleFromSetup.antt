-- What settling asks, from the setup, from how flat codes type the first program, and from laws of lower crates.
use Rattle.class_tree.specs.Headers.{headers_of}
use Rattle.class_tree.specs.Hierarchy.{IsHierarchy}
use Rattle.typed_runs.specs.FolderTypings.{HasFlatTypings}
use Rattle.written_runs.specs.Inner.Setup.{IsSetup, Setup}
use Rattle.written_runs.specs.Laws.AddedConstructors.{AddsToCandidates}
use Rattle.written_runs.specs.Laws.ConstructorTexts.{ReadsParameters}
use Rattle.written_runs.specs.Laws.Making.FromSetup.{setup_makes_objects}
use Rattle.written_runs.specs.Laws.Settling.{SettleLaws}
use Rattle.written_runs.specs.Laws.TypedEntries.{types_entries}

pub settle_laws : (u : Setup)
    → IsSetup u
    → IsHierarchy (headers_of u.classes)
    → AddsToCandidates u
    → ReadsParameters
    → HasFlatTypings u.flats u.typings
    → SettleLaws u
settle_laws u setup hierarchy adds reads typings = record {
  is_setup = setup;
  making = setup_makes_objects u setup hierarchy adds reads;
  types = types_entries u setup hierarchy adds typings;
}
