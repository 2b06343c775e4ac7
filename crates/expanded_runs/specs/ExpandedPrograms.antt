-- Flat codes of hosts, with callees in place of their calls.
use Rattle.std.specs.Prelude.{◌≡◌, Some}
use Rattle.class_model.specs.declared.class_file.MethodAt.{MethodAt}
use Rattle.class_tree.specs.Headers.{Classes}
use Rattle.expanded_code.specs.ExpandAnswers.{IsExpanded, IsNoHost}
use Rattle.flow_code.specs.FlatCode.{FlatCode}
use Rattle.flow_code.specs.TypedFrames.{FolderFrames}
use Rattle.same_runs.specs.Flats.{Flats}

-- each of some flat codes is that of a host, with its callees in place of their calls
abbrev pub AreExpanded : Classes → FolderFrames → Flats → Type 0
AreExpanded classes typed flats =
    (at : MethodAt) (flat : FlatCode)
    → flats at ≡ Some flat
    → (¬ IsNoHost classes at) × IsExpanded classes typed at flat
