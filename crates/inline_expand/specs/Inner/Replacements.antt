-- Callees in place of calls, as the code finds them.
use Rattle.std.specs.Prelude.{◌≡◌, ℕ, List, Option, Some, None, IsTrue}
use Rattle.class_model.specs.declared.class_file.MethodAt.{MethodAt}
use Rattle.class_model.specs.declared.frame.VType.TheVariants.{Uninit, UninitThis}
use Rattle.class_tree.specs.Headers.{Name, Classes}
use Rattle.expanded_code.specs.Callees.{InitialisesAt}
use Rattle.expanded_code.specs.Sites.{Constructs, IsReplaced, IsSite}
use Rattle.flow_code.specs.TypedFrames.{FolderFrames}
use Rattle.inline_expand.specs.Inner.Coded.{Stands}
use Rattle.inline_expand.specs.declared.coded.CodedMethod.{CodedMethod}
use Rattle.member_link.specs.References.{Reference}
use Rattle.member_link.specs.Scope.{is_init}

-- the object on which an initialiser is called may be kept in locals: that of a site, or an initialiser's own
pub record InitialisesKept (classes : Classes) (typed : FolderFrames) (host : MethodAt)
    (chain : List MethodAt) (method : CodedMethod) (at : ℕ)
    : Type 0 where
  pub of_site : (new : ℕ) (reference : Reference)
      → InitialisesAt method.host method.frames.now at (Uninit new) reference
      → (class : Name) × IsSite classes typed host chain method.at new class
  pub of_this : (reference : Reference)
      → InitialisesAt method.host method.frames.now at UninitThis reference
      → IsTrue (is_init method.host) × Constructs classes typed host chain method.at at

-- the one callee that replaces a call, with its code and frames
pub record IsReplacement (classes : Classes) (typed : FolderFrames) (host : MethodAt)
    (chain : List MethodAt) (from : MethodAt) (at : ℕ) (callee : CodedMethod)
    : Type 0 where
  pub stands : Stands classes typed callee
  pub replaced : IsReplaced classes typed host chain from at callee.at
  pub only : (other : MethodAt)
      → IsReplaced classes typed host chain from at other
      → other ≡ callee.at

abbrev pub IsReplacementFound : Classes → FolderFrames → MethodAt → List MethodAt → MethodAt → ℕ → Option CodedMethod → Type 0
IsReplacementFound classes typed host chain from at (Some callee) =
    IsReplacement classes typed host chain from at callee
IsReplacementFound classes typed host chain from at None =
    (callee : MethodAt) → ¬ IsReplaced classes typed host chain from at callee
