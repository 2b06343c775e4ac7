-- Which calls are replaced where one callee stands in another, and which objects may be kept in locals: the candidate sites. It is this
-- project's profile.
use Rattle.std.specs.Prelude.{◌≡◌, ◌≢◌, ◌<◌, ℕ, List, ◌∷◌, length, Some, IsTrue}
use Rattle.std.specs.List.{AllByRecursion}
use Rattle.class_model.specs.declared.class_file.MethodAt.{MethodAt}
use Rattle.class_model.specs.declared.frame.Frame.{Frame}
use Rattle.class_model.specs.declared.frame.VType.TheVariants.{Uninit, UninitThis}
use Rattle.class_tree.specs.Headers.{Name, Classes}
use Rattle.class_tree.specs.Names.{object}
use Rattle.expanded_code.specs.Callees.{InitialisesAt, IsCallee}
use Rattle.expanded_code.specs.Candidates.{IsCandidate}
use Rattle.flow_code.specs.TypedFrames.{FolderFrames, typed_frames_at}
use Rattle.member_link.specs.References.{Reference}
use Rattle.member_link.specs.Scope.{Scope, class_of_new, is_init, scope_at}

-- A chain has the callees from the host inwards, the innermost first. A chain has at most six callees, none twice and none the host.
pub record MayFollow (host : MethodAt) (chain : List MethodAt) (callee : MethodAt) : Type 0 where
  pub short : length chain < 6
  pub other : AllByRecursion (λ at. at ≢ callee) (host ∷ chain)

-- a method with code and the frames that type it
pub record HasFrames (classes : Classes) (typed : FolderFrames) (at : MethodAt) (scope : Scope)
    (frames : List Frame)
    : Type 0 where
  pub is_scope : scope_at classes at ≡ Some scope
  pub are_frames : typed_frames_at typed at ≡ Some frames

-- The call of an instance initialiser at an offset is replaced if its object may be kept in locals: the initialiser is a callee behind this
-- chain, and so is each that it calls on its own uninitialised object, but that of java/lang/Object.
pub data Constructs (classes : Classes) (typed : FolderFrames) (host : MethodAt)
    : List MethodAt → MethodAt → ℕ
    → Type 0 where
  constructs : (chain : List MethodAt) (from : MethodAt) (at : ℕ) (callee : MethodAt)
      (scope : Scope) (frames : List Frame)
      → IsCallee classes typed host.class from at callee
      → MayFollow host chain callee
      → HasFrames classes typed callee scope frames
      → ((within : ℕ) (reference : Reference)
      → IsTrue (is_init scope)
      → InitialisesAt scope frames within UninitThis reference
      → reference.class ≢ object
      → Constructs classes typed host (callee ∷ chain) callee within)
      → Constructs classes typed host chain from at

-- The new at an offset is a candidate site: its class is a candidate, and each call of an initialiser on its object is replaced.
pub record IsSite (classes : Classes) (typed : FolderFrames) (host : MethodAt)
    (chain : List MethodAt) (from : MethodAt) (at : ℕ) (class : Name)
    : Type 0 where
  pub scope : Scope
  pub frames : List Frame
  pub is : HasFrames classes typed from scope frames
  pub makes : class_of_new scope at ≡ Some class
  pub candidate : IsCandidate classes class
  pub constructed : (call : ℕ) (reference : Reference)
      → InitialisesAt scope frames call (Uninit at) reference
      → Constructs classes typed host chain from call

-- The call at an offset is replaced by a callee. That of an initialiser is on the object of a candidate site, or is made by an initialiser on
-- its own uninitialised object. Code that nothing reaches may have a frame with such an object in any method: there the call stays.
pub record IsReplaced (classes : Classes) (typed : FolderFrames) (host : MethodAt)
    (chain : List MethodAt) (from : MethodAt) (at : ℕ) (callee : MethodAt)
    : Type 0 where
  pub is_callee : IsCallee classes typed host.class from at callee
  pub follows : MayFollow host chain callee
  pub of_site : (scope : Scope) (frames : List Frame) (new : ℕ) (reference : Reference)
      → HasFrames classes typed from scope frames
      → InitialisesAt scope frames at (Uninit new) reference
      → (class : Name) × IsSite classes typed host chain from new class
  pub of_this : (scope : Scope) (frames : List Frame) (reference : Reference)
      → HasFrames classes typed from scope frames
      → InitialisesAt scope frames at UninitThis reference
      → IsTrue (is_init scope) × Constructs classes typed host chain from at
