-- Flat codes of some methods, each by itself.
use Rattle.std.specs.Prelude.{◌≡◌, Some}
use Rattle.class_model.specs.declared.class_file.MethodAt.{MethodAt}
use Rattle.class_tree.specs.Headers.{Classes}
use Rattle.expanded_code.specs.AloneAnswers.{IsFlatAlone}
use Rattle.flow_code.specs.FlatCode.{FlatCode}
use Rattle.flow_code.specs.TypedFrames.{FolderFrames}
use Rattle.same_runs.specs.Flats.{Flats}

-- each of some flat codes is that of a method by itself
abbrev pub AreAlone : Classes → FolderFrames → Flats → Type 0
AreAlone classes typed flats =
    (at : MethodAt) (flat : FlatCode)
    → flats at ≡ Some flat
    → IsFlatAlone classes typed at flat
