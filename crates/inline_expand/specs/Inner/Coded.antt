-- Methods with code and the frames that type them.
use Rattle.std.specs.Prelude.{◌≡◌, ◌≤◌, List, Option, Some, None, length}
use Rattle.class_model.specs.declared.class_file.MethodAt.{MethodAt}
use Rattle.class_model.specs.declared.frame.Frame.{Frame}
use Rattle.class_tree.specs.Headers.{Classes}
use Rattle.expanded_code.specs.Sites.{HasFrames}
use Rattle.flow_code.specs.TypedFrames.{FolderFrames}
use Rattle.inline_expand.specs.declared.coded.CodedMethod.{CodedMethod}
use Rattle.member_link.specs.Scope.{Scope}

-- it is the method of its numbers
abbrev pub Stands : Classes → FolderFrames → CodedMethod → Type 0
Stands classes typed method = HasFrames classes typed method.at method.host method.frames.now

-- it is the method of these numbers, or there is none with code and frames
abbrev pub IsCoded : Classes → FolderFrames → MethodAt → Option CodedMethod → Type 0
IsCoded classes typed at (Some method) = (method.at ≡ at) × Stands classes typed method
IsCoded classes typed at None =
    (scope : Scope) (frames : List Frame) → ¬ HasFrames classes typed at scope frames

-- the same of one with few bytes of code
abbrev pub IsShortCoded : Classes → FolderFrames → MethodAt → Option CodedMethod → Type 0
IsShortCoded classes typed at (Some method) = (method.at ≡ at) × Stands classes typed method
IsShortCoded classes typed at None =
    (scope : Scope) (frames : List Frame)
    → HasFrames classes typed at scope frames
    → ¬ (length scope.part.code ≤ 64)
