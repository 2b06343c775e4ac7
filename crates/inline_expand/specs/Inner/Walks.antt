-- A walk over the methods that a method needs.
use Rattle.std.specs.Prelude.{◌≡◌, ◌≢◌, ◌⊎◌, ℕ, true, false, List, [], ◌∷◌, Option, Some, None}
use Rattle.class_model.specs.declared.class_file.MethodAt.{MethodAt}
use Rattle.class_tree.specs.Headers.{Classes}
use Rattle.flow_code.specs.TypedFrames.{FolderFrames}
use Rattle.inline_expand.specs.Inner.Ready.{Fits, IsReady, Needs}
use Rattle.inline_expand.specs.Inner.Stacks.{IsAmong, IsLeft, method_of, nearest}
use Rattle.inline_expand.specs.Inner.Verdicts.{verdict}
use Rattle.inline_expand.specs.declared.verdicts.Verdicts.{Verdicts}
use Rattle.inline_expand.specs.declared.visits.Visit.{Visit}
use Rattle.inline_expand.specs.declared.visits.Visit.TheVariants.{Enter, Leave}

-- ---- verdicts

-- each verdict is right
pub record AreRight (classes : Classes) (typed : FolderFrames) (host : ℕ) (verdicts : Verdicts) : Type 0 where
  pub ready : (at : MethodAt) → verdict verdicts at ≡ Some true → IsReady classes typed host at
  pub unready : (at : MethodAt) → verdict verdicts at ≡ Some false → ¬ IsReady classes typed host at

-- ---- what is above a method on the stack

abbrev pub IsDone : Verdicts → List MethodAt → MethodAt → Type 0
IsDone verdicts above at = (verdict verdicts at ≡ Some true) ⊎ IsAmong above at

-- what a method needs that is to be left is ready or above it
abbrev pub Settles : Classes → FolderFrames → ℕ → Verdicts → List MethodAt → Visit → Type 0
Settles classes typed host verdicts above (Enter at) = Unit {0}
Settles classes typed host verdicts above (Leave at) =
    Fits classes typed host at × ((need : MethodAt) → Needs classes typed at need → IsDone verdicts above need)

-- so it is with each; and the first method is ready or on the stack
abbrev pub AreSettled : Classes → FolderFrames → ℕ → MethodAt → Verdicts → List MethodAt → List Visit → Type 0
AreSettled classes typed host root verdicts above [] = IsDone verdicts above root
AreSettled classes typed host root verdicts above (visit ∷ below) =
    Settles classes typed host verdicts above visit
    × AreSettled classes typed host root verdicts (method_of visit ∷ above) below

-- ---- how the walk came to a method

abbrev pub IsLed : Classes → FolderFrames → MethodAt → Option MethodAt → MethodAt → Type 0
IsLed classes typed root None at = at ≡ root
IsLed classes typed root (Some from) at = Needs classes typed from at

abbrev pub AreLed : Classes → FolderFrames → MethodAt → List Visit → Type 0
AreLed classes typed root [] = Unit {0}
AreLed classes typed root (visit ∷ below) =
    IsLed classes typed root (nearest below) (method_of visit) × AreLed classes typed root below

-- ---- the walk

pub record Walks (classes : Classes) (typed : FolderFrames) (host : ℕ) (root : MethodAt) (verdicts : Verdicts)
    (stack : List Visit)
    : Type 0 where
  pub ready : (at : MethodAt) → verdict verdicts at ≡ Some true → IsReady classes typed host at
  pub unready : (at : MethodAt)
      → verdict verdicts at ≡ Some false
      → IsLeft stack at ⊎ (¬ IsReady classes typed host at)
  pub settled : AreSettled classes typed host root verdicts [] stack
  pub led : AreLed classes typed root stack

-- the next method to look at was not found to be ready; where there is none, the walk has come to its end
abbrev pub Advances : Classes → FolderFrames → ℕ → MethodAt → Verdicts → List Visit → Option MethodAt → Type 0
Advances classes typed host root verdicts stack None = Walks classes typed host root verdicts []
Advances classes typed host root verdicts stack (Some at) =
    Walks classes typed host root verdicts (Enter at ∷ stack) × (verdict verdicts at ≢ Some true)

pub record GoesOn (before : Verdicts) (old : List Visit) (after : Verdicts) (new : List Visit)
    (next : Option MethodAt)
    : Type 0 where
  pub walks : (classes : Classes) (typed : FolderFrames) (host : ℕ) (root : MethodAt)
      → Walks classes typed host root before old
      → Advances classes typed host root after new next
  pub unseen : (at : MethodAt) → verdict after at ≡ None → verdict before at ≡ None

-- ---- what a method needs

pub record NeedsThese (classes : Classes) (typed : FolderFrames) (host : ℕ) (at : MethodAt) (needs : List MethodAt)
    : Type 0 where
  pub fits : Fits classes typed host at
  pub each : (need : MethodAt) → Needs classes typed at need → IsAmong needs need
  pub only : (need : MethodAt) → IsAmong needs need → Needs classes typed at need

abbrev pub HasNeeds : Classes → FolderFrames → ℕ → MethodAt → Option (List MethodAt) → Type 0
HasNeeds classes typed host at None = ¬ IsReady classes typed host at
HasNeeds classes typed host at (Some needs) = NeedsThese classes typed host at needs
