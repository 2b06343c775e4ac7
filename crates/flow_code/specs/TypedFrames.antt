-- The frames of a folder's methods by their numbers.
use Rattle.std.specs.Prelude.{List, Option, slice_get, option_and_then}
use Rattle.class_model.specs.declared.class_file.MethodAt.{MethodAt}
use Rattle.class_model.specs.declared.frame.Frame.{Frame}

abbrev pub FolderFrames : Type 0
FolderFrames = List (List (Option (List Frame)))

-- the frames of the method at its numbers; none for a method without code
abbrev pub typed_frames_at : FolderFrames → MethodAt → Option (List Frame)
typed_frames_at typed at =
    option_and_then (λ methods. option_and_then (λ frames. frames) (slice_get methods at.method))
    (slice_get typed at.class)
