-- How the program of a folder that verifies is typed, and one in which methods run flat code.
use Rattle.std.specs.Prelude.{◌≡◌, List, map, Option, Some}
use Rattle.class_model.specs.declared.class_file.MethodAt.{MethodAt}
use Rattle.class_model.specs.declared.frame.Frame.{Frame}
use Rattle.flow_code.specs.FlatCode.{FlatCode}
use Rattle.flow_code.specs.ReadTypes.{read_frame}
use Rattle.flow_code.specs.TypedFrames.{FolderFrames, typed_frames_at}
use Rattle.typed_runs.specs.TypedPrograms.{Typings}

-- the frames of each method's code are those that type the folder
abbrev pub HasTypings : FolderFrames → Typings → Type 0
HasTypings typed typings =
    (at : MethodAt) (frames : List Frame)
    → typed_frames_at typed at ≡ Some frames
    → (typings at).frames ≡ frames

-- the frames of each flat code that a method runs are those of its typed points, read
abbrev pub HasFlatTypings : (MethodAt → Option FlatCode) → Typings → Type 0
HasFlatTypings flats typings =
    (at : MethodAt) (flat : FlatCode)
    → flats at ≡ Some flat
    → (typings at).frames ≡ map (λ point. read_frame flat point.typed) flat.points
