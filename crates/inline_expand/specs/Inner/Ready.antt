-- Methods that may stand in a host's code, initialisers with all that they call on their own uninitialised object.
use Rattle.std.specs.Prelude.{◌≡◌, ◌≢◌, ℕ, List, Some, slice_get, IsTrue}
use Rattle.class_model.specs.declared.class_file.ClassFile.{ClassFile}
use Rattle.class_model.specs.declared.class_file.MethodAt.{MethodAt}
use Rattle.class_model.specs.declared.frame.Frame.{Frame}
use Rattle.class_model.specs.declared.frame.VType.TheVariants.{UninitThis}
use Rattle.class_tree.specs.Headers.{Classes, headers_of}
use Rattle.class_tree.specs.Names.{object}
use Rattle.expanded_code.specs.Callees.{Calls, InitialisesAt, MayStandIn, ResultSaysAtMost, frame_behind}
use Rattle.expanded_code.specs.Sites.{HasFrames}
use Rattle.flow_code.specs.TypedFrames.{FolderFrames}
use Rattle.inline_expand.specs.Inner.Founded.{Founded}
use Rattle.member_link.specs.References.{Reference}
use Rattle.member_link.specs.Scope.{Scope, is_init, own_descriptor}
use Rattle.member_link.specs.Signatures.{result_of}

-- The call at an offset runs the callee, and the frame behind it says no more of the result than the callee declares.
pub record CallsAtMost (classes : Classes) (typed : FolderFrames) (from : MethodAt) (at : ℕ)
    (callee : MethodAt)
    : Type 0 where
  pub caller : Scope
  pub before : List Frame
  pub is_caller : HasFrames classes typed from caller before
  pub scope : Scope
  pub frames : List Frame
  pub is_callee : HasFrames classes typed callee scope frames
  pub calls : Calls classes caller at callee
  pub result : (behind : Frame)
      → frame_behind caller before at ≡ Some behind
      → ResultSaysAtMost (headers_of classes) (result_of (own_descriptor scope)) behind

-- the method is an initialiser, and at an offset calls one, other than that of java/lang/Object, on its own uninitialised object
pub record CallsOnThis (scope : Scope) (frames : List Frame) (at : ℕ) : Type 0 where
  pub own : IsTrue (is_init scope)
  pub reference : Reference
  pub is : InitialisesAt scope frames at UninitThis reference
  pub other : reference.class ≢ object

-- one method calls another so
pub record Needs (classes : Classes) (typed : FolderFrames) (from callee : MethodAt) : Type 0 where
  pub scope : Scope
  pub frames : List Frame
  pub is : HasFrames classes typed from scope frames
  pub within : ℕ
  pub on_this : CallsOnThis scope frames within
  pub calls : CallsAtMost classes typed from within callee

-- a method may stand in the code of a host of a class, and each such call of it may be replaced by itself
pub record Fits (classes : Classes) (typed : FolderFrames) (host : ℕ) (callee : MethodAt)
    : Type 0 where
  pub host_class : ClassFile
  pub is_host : slice_get classes.folder host ≡ Some host_class
  pub scope : Scope
  pub frames : List Frame
  pub is : HasFrames classes typed callee scope frames
  pub stands : MayStandIn classes host_class scope frames
  pub called : (within : ℕ)
      → CallsOnThis scope frames within
      → (inner : MethodAt) × CallsAtMost classes typed callee within inner

-- so does each that it needs, without a circle
abbrev pub IsReady : Classes → FolderFrames → ℕ → MethodAt → Type 0
IsReady classes typed host = Founded (Needs classes typed) (Fits classes typed host)
