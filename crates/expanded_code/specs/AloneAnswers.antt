-- What is answered where the flat code of a method by itself is asked for.
use Rattle.std.specs.Prelude.{◌≡◌, List, Some, None, Result, Ok, Err}
use Rattle.class_model.specs.declared.class_file.MethodAt.{MethodAt}
use Rattle.class_model.specs.declared.frame.Frame.{Frame}
use Rattle.class_tree.specs.Headers.{Classes}
use Rattle.expanded_code.specs.Alone.{flat_alone}
use Rattle.flow_code.specs.FlatCode.{FlatCode}
use Rattle.flow_code.specs.TypedFrames.{FolderFrames, typed_frames_at}
use Rattle.flow_code.specs.declared.reason.KeptFault.{KeptFault}
use Rattle.flow_code.specs.declared.reason.KeptFault.TheVariants as faults
use Rattle.flow_code.specs.declared.reason.Reason.TheVariants as reasons
use Rattle.member_link.specs.Scope.{Scope, scope_at}

-- it is the flat code of a method by itself, by the frames of its folder
pub record IsFlatAlone (classes : Classes) (typed : FolderFrames) (at : MethodAt) (flat : FlatCode)
    : Type 0 where
  pub scope : Scope
  pub is_scope : scope_at classes at ≡ Some scope
  pub frames : List Frame
  pub are_frames : typed_frames_at typed at ≡ Some frames
  pub is : flat ≡ flat_alone scope at frames

-- A method without code is kept as it is, and no other.
abbrev pub AnswersAlone : Classes → FolderFrames → MethodAt → Result FlatCode KeptFault → Type 0
AnswersAlone classes typed at (Ok flat) = IsFlatAlone classes typed at flat
AnswersAlone classes typed at (Err (faults.Kept reasons.Host)) = scope_at classes at ≡ None
AnswersAlone classes typed at (Err (faults.Kept reason)) = ⊥
AnswersAlone classes typed at (Err faults.NoMemory) = Unit {0}
