-- The candidate sites of a method, in a table by the numbers of its instructions.
use Rattle.std.specs.Prelude.{◌≡◌, ◌⊎◌, ◌<◌, ℕ, List, length, slice_get, Option, Some, None, option_and_then}
use Rattle.class_model.specs.PoolChecks.{class_at}
use Rattle.class_model.specs.declared.class_file.MethodAt.{MethodAt}
use Rattle.class_model.specs.declared.frame.VType.TheVariants.{Uninit}
use Rattle.class_model.specs.declared.instr.Instr.{Instr}
use Rattle.class_model.specs.declared.instr.Instr.TheVariants.{New}
use Rattle.class_model.specs.declared.instr.Placed.{Placed}
use Rattle.class_tree.specs.Headers.{Name, Classes}
use Rattle.expanded_code.specs.Alone.{number_at}
use Rattle.expanded_code.specs.Callees.{InitialisesAt}
use Rattle.expanded_code.specs.Candidates.{IsCandidate}
use Rattle.expanded_code.specs.Sites.{Constructs, IsSite}
use Rattle.flow_code.specs.TypedFrames.{FolderFrames}
use Rattle.inline_expand.specs.declared.coded.CodedMethod.{CodedMethod}
use Rattle.inline_expand.specs.declared.initialised.Object.{Object}
use Rattle.inline_expand.specs.declared.initialised.Object.TheVariants as made
use Rattle.member_link.specs.CodedMethods.{placed_at}
use Rattle.member_link.specs.References.{Reference}
use Rattle.member_link.specs.Scope.{Scope, class_of_new, instructions}

-- ---- candidates

-- the class of the object that an instruction makes, if it is a new
abbrev pub class_made : Scope → Instr → Option Name
class_made s (New index) = class_at s.class.pool index
class_made s other = None

-- the class that is made, if it is a candidate
abbrev pub IsCandidateOf : Classes → Option Name → Option Name → Type 0
IsCandidateOf classes made (Some class) = (made ≡ Some class) × IsCandidate classes class
IsCandidateOf classes made None = (class : Name) → made ≡ Some class → ¬ IsCandidate classes class

-- those of the first so many instructions
pub record AreCandidates (classes : Classes) (s : Scope) (count : ℕ) (table : List (Option Name))
    : Type 0 where
  pub long : length table ≡ count
  pub each : (number : ℕ) (placed : Placed) (class : Option Name)
      → number < count
      → slice_get (instructions s) number ≡ Some placed
      → slice_get table number ≡ Some class
      → IsCandidateOf classes (class_made s placed.instr) class

-- ---- sites

-- the offset of the new of an object, if it is not the one of the initialiser itself
abbrev pub new_of : Object → Option ℕ
new_of (made.New at) = Some at
new_of made.This = None

-- the offset of the new of the object that an initialiser is called on
abbrev pub IsNewInitialised : CodedMethod → ℕ → Option ℕ → Type 0
IsNewInitialised method at (Some new) =
    (reference : Reference)
    × InitialisesAt method.host method.frames.now at (Uninit new) reference
IsNewInitialised method at None =
    (new : ℕ) (reference : Reference)
    → ¬ InitialisesAt method.host method.frames.now at (Uninit new) reference

-- the class of an entry, if it is there and has one
abbrev pub joined : Option (Option Name) → Option Name
joined entry = option_and_then (λ class. class) entry

-- a candidate's object at an offset, whose initialisers are replaced as far as they are called by the first so many instructions
pub record IsKeptSoFar (classes : Classes) (typed : FolderFrames) (host : MethodAt)
    (chain : List MethodAt) (method : CodedMethod) (count at : ℕ) (class : Name)
    : Type 0 where
  pub makes : class_of_new method.host at ≡ Some class
  pub candidate : IsCandidate classes class
  pub constructed : (number : ℕ) (call : Placed) (reference : Reference)
      → number < count
      → slice_get (instructions method.host) number ≡ Some call
      → InitialisesAt method.host method.frames.now call.at (Uninit at) reference
      → Constructs classes typed host chain method.at call.at

abbrev pub IsSoFar : Classes → FolderFrames → MethodAt → List MethodAt → CodedMethod → ℕ → ℕ → Option (Option Name) → Type 0
IsSoFar classes typed host chain method count at None = ⊥
IsSoFar classes typed host chain method count at (Some None) =
    (class : Name) → ¬ IsSite classes typed host chain method.at at class
IsSoFar classes typed host chain method count at (Some (Some class)) =
    IsKeptSoFar classes typed host chain method count at class

pub record AreSites (classes : Classes) (typed : FolderFrames) (host : MethodAt)
    (chain : List MethodAt) (method : CodedMethod) (count : ℕ) (sites : List (Option Name))
    : Type 0 where
  pub long : length sites ≡ length (instructions method.host)
  pub each : (at : ℕ) (placed : Placed)
      → placed_at (instructions method.host) at ≡ Some placed
      → IsSoFar classes typed host chain method count at
      (slice_get sites (number_at method.host at))

-- ---- one call

-- an entry stays, or the call at an offset takes it away
abbrev pub StaysOrFalls : Classes → FolderFrames → MethodAt → List MethodAt → CodedMethod → ℕ → ℕ → Option (Option Name) → Option (Option Name) → Type 0
StaysOrFalls classes typed host chain method at new before after =
    ((after ≡ before)
    × ((class : Name) (reference : Reference)
    → before ≡ Some (Some class)
    → InitialisesAt method.host method.frames.now at (Uninit new) reference
    → Constructs classes typed host chain method.at at))
    ⊎ ((after ≡ Some None)
    × ((reference : Reference)
    × InitialisesAt method.host method.frames.now at (Uninit new) reference)
    × (¬ Constructs classes typed host chain method.at at))

pub record SpoilsAt (classes : Classes) (typed : FolderFrames) (host : MethodAt)
    (chain : List MethodAt) (method : CodedMethod) (at : ℕ) (before after : List (Option Name))
    : Type 0 where
  pub long : length after ≡ length before
  pub each : (new : ℕ) (placed : Placed)
      → placed_at (instructions method.host) new ≡ Some placed
      → StaysOrFalls classes typed host chain method at new
      (slice_get before (number_at method.host new)) (slice_get after (number_at method.host new))

-- ---- what the table says

abbrev pub IsSiteFound : Classes → FolderFrames → MethodAt → List MethodAt → MethodAt → ℕ → Option Name → Type 0
IsSiteFound classes typed host chain from at (Some class) =
    IsSite classes typed host chain from at class
IsSiteFound classes typed host chain from at None =
    (class : Name) → ¬ IsSite classes typed host chain from at class
