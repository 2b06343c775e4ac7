-- What was found of the frames of methods.
use Rattle.std.specs.Prelude.{◌≡◌, ◌↔◌, Bool, List, Some, IsTrue}
use Rattle.std.specs.List.{AllByRecursion}
use Rattle.class_model.specs.declared.class_file.MethodAt.{MethodAt}
use Rattle.class_model.specs.declared.frame.Frame.{Frame}
use Rattle.expanded_code.specs.Callees.{IsWithoutThis}
use Rattle.flow_code.specs.TypedFrames.{FolderFrames, typed_frames_at}
use Rattle.inline_expand.specs.Inner.Verdicts.{verdict}
use Rattle.inline_expand.specs.declared.verdicts.Verdicts.{Verdicts}

abbrev pub AreWithoutThis : List Frame → Type 0
AreWithoutThis frames = AllByRecursion IsWithoutThis frames

-- Where a method is judged, its frames are so.
pub record AreKnown (typed : FolderFrames) (found : Verdicts) : Type 0 where
  pub right : (at : MethodAt) (is_without : Bool) (frames : List Frame)
      → verdict found at ≡ Some is_without
      → typed_frames_at typed at ≡ Some frames
      → IsTrue is_without ↔ AreWithoutThis frames
