-- Chains of callees, and the initialisers that may follow them.
use Rattle.std.specs.Prelude.{◌≢◌, ℕ, zero, suc, List}
use Rattle.std.specs.List.{AllByRecursion}
use Rattle.class_model.specs.declared.class_file.MethodAt.{MethodAt}
use Rattle.class_tree.specs.Headers.{Classes}
use Rattle.flow_code.specs.TypedFrames.{FolderFrames}
use Rattle.inline_expand.specs.Inner.Ready.{IsReady, Needs}
use Rattle.inline_expand.specs.Inner.Stacks.{IsAmong}

-- a method is none of these
abbrev pub IsNoneOf : List MethodAt → MethodAt → Type 0
IsNoneOf methods at = AllByRecursion (λ other. other ≢ at) methods

-- A method, and all that it needs, in at most so many steps: none of them is one of these.
abbrev pub IsShallow : Classes → FolderFrames → List MethodAt → ℕ → MethodAt → Type 0
IsShallow classes typed outer zero at = ⊥
IsShallow classes typed outer (suc left) at =
    IsNoneOf outer at
    × ((need : MethodAt) → Needs classes typed at need → IsShallow classes typed outer left need)

-- so is each of these
abbrev pub AreShallow : Classes → FolderFrames → List MethodAt → ℕ → List MethodAt → Type 0
AreShallow classes typed outer left methods =
    (at : MethodAt) → IsAmong methods at → IsShallow classes typed outer left at

-- ---- step by step

abbrev pub AreReady : Classes → FolderFrames → ℕ → List MethodAt → Type 0
AreReady classes typed host methods =
    (at : MethodAt) → IsAmong methods at → IsReady classes typed host at

abbrev pub NoneIsOneOf : List MethodAt → List MethodAt → Type 0
NoneIsOneOf others methods = AllByRecursion (IsNoneOf others) methods

-- these are what some methods need
pub record IsNeeded (classes : Classes) (typed : FolderFrames) (methods needs : List MethodAt)
    : Type 0 where
  pub each : (at need : MethodAt)
      → IsAmong methods at
      → Needs classes typed at need
      → IsAmong needs need
  pub only : (need : MethodAt)
      → IsAmong needs need
      → (at : MethodAt) × IsAmong methods at × Needs classes typed at need
