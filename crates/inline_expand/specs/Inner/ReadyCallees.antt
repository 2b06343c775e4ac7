-- Callees as the code finds them.
use Rattle.std.specs.Prelude.{◌≡◌, ◌⊎◌, ◌<◌, Bool, true, false, ℕ, List, Option, Some, None, slice_get}
use Rattle.class_model.specs.declared.class_file.MethodAt.{MethodAt}
use Rattle.class_model.specs.declared.instr.Placed.{Placed}
use Rattle.class_tree.specs.Headers.{Classes}
use Rattle.expanded_code.specs.Callees.{IsCallee}
use Rattle.flow_code.specs.TypedFrames.{FolderFrames}
use Rattle.inline_expand.specs.Inner.Coded.{Stands}
use Rattle.inline_expand.specs.Inner.Ready.{CallsAtMost, CallsOnThis, IsReady, Needs}
use Rattle.inline_expand.specs.Inner.Stacks.{IsAmong}
use Rattle.inline_expand.specs.declared.coded.CodedMethod.{CodedMethod}
use Rattle.inline_expand.specs.declared.ready.HostClass.{HostClass}
use Rattle.member_link.specs.Scope.{instructions}

-- the class of that number, and the methods of the same folder
pub record IsHostClass (host : HostClass) : Type 0 where
  pub is : slice_get host.tree.now.folder host.number ≡ Some host.class.now
  pub methods : host.methods.now ≡ host.tree.now

-- the one method that a call runs, with its code and frames, if it can be ready
pub record IsTheCallee (classes : Classes) (typed : FolderFrames) (from : MethodAt) (at : ℕ)
    (callee : CodedMethod)
    : Type 0 where
  pub stands : Stands classes typed callee
  pub calls : CallsAtMost classes typed from at callee.at
  pub only : (other : MethodAt) → CallsAtMost classes typed from at other → other ≡ callee.at

abbrev pub FindsCallee : Classes → FolderFrames → MethodAt → ℕ → Option CodedMethod → Type 0
FindsCallee classes typed from at (Some callee) = IsTheCallee classes typed from at callee
FindsCallee classes typed from at None =
    (host : ℕ) (callee : MethodAt)
    → CallsAtMost classes typed from at callee
    → ¬ IsReady classes typed host callee

-- the methods that an initialiser calls on its own uninitialised object
pub record CallsEach (classes : Classes) (typed : FolderFrames) (method : CodedMethod)
    (callees : List MethodAt)
    : Type 0 where
  pub called : (within : ℕ)
      → CallsOnThis method.host method.frames.now within
      → (inner : MethodAt) × CallsAtMost classes typed method.at within inner
  pub each : (need : MethodAt) → Needs classes typed method.at need → IsAmong callees need
  pub only : (need : MethodAt) → IsAmong callees need → Needs classes typed method.at need

abbrev pub CallsThese : Classes → FolderFrames → CodedMethod → Option (List MethodAt) → Type 0
CallsThese classes typed method None = (host : ℕ) → ¬ IsReady classes typed host method.at
CallsThese classes typed method (Some callees) = CallsEach classes typed method callees

-- ---- one call after the other

-- the one method that the call at an offset runs is among these
pub record KnownCall (classes : Classes) (typed : FolderFrames) (from : MethodAt) (at : ℕ)
    (callees : List MethodAt)
    : Type 0 where
  pub callee : MethodAt
  pub calls : CallsAtMost classes typed from at callee
  pub only : (other : MethodAt) → CallsAtMost classes typed from at other → other ≡ callee
  pub among : IsAmong callees callee

-- so it is with each call on the own object among the first so many instructions
pub record CallsBefore (classes : Classes) (typed : FolderFrames) (method : CodedMethod) (count : ℕ)
    (callees : List MethodAt)
    : Type 0 where
  pub known : (number : ℕ) (placed : Placed)
      → number < count
      → slice_get (instructions method.host) number ≡ Some placed
      → CallsOnThis method.host method.frames.now placed.at
      → KnownCall classes typed method.at placed.at callees
  pub only : (need : MethodAt) → IsAmong callees need → Needs classes typed method.at need

-- the call at one offset
pub record AddsKnown (classes : Classes) (typed : FolderFrames) (method : CodedMethod) (at : ℕ)
    (before after : List MethodAt)
    : Type 0 where
  pub known : CallsOnThis method.host method.frames.now at
      → KnownCall classes typed method.at at after
  pub keeps : (other : MethodAt) → IsAmong before other → IsAmong after other
  pub only : (other : MethodAt)
      → IsAmong after other
      → IsAmong before other ⊎ Needs classes typed method.at other

abbrev pub AddsOwn : Classes → FolderFrames → CodedMethod → ℕ → List MethodAt → List MethodAt → Bool → Type 0
AddsOwn classes typed method at before after true =
    AddsKnown classes typed method at before after
AddsOwn classes typed method at before after false =
    CallsOnThis method.host method.frames.now at
    × FindsCallee classes typed method.at at None

-- the callee of a call, with its code and frames
pub record IsReadyCallee (classes : Classes) (typed : FolderFrames) (host : ℕ) (from : MethodAt)
    (at : ℕ) (callee : CodedMethod)
    : Type 0 where
  pub stands : Stands classes typed callee
  pub is_callee : IsCallee classes typed host from at callee.at
  pub only : (other : MethodAt) → IsCallee classes typed host from at other → other ≡ callee.at

abbrev pub IsCalleeFound : Classes → FolderFrames → ℕ → MethodAt → ℕ → Option CodedMethod → Type 0
IsCalleeFound classes typed host from at (Some callee) =
    IsReadyCallee classes typed host from at callee
IsCalleeFound classes typed host from at None =
    (callee : MethodAt) → ¬ IsCallee classes typed host from at callee
