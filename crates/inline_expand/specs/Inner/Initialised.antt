-- Calls of instance initialisers as the code finds them.
use Rattle.std.specs.Prelude.{◌≡◌, ◌≢◌, ℕ, List, Option, Some, None}
use Rattle.class_model.specs.declared.frame.Frame.{Frame}
use Rattle.class_model.specs.declared.frame.VType.{VType}
use Rattle.class_model.specs.declared.frame.VType.TheVariants.{Top, Uninit, UninitThis}
use Rattle.class_tree.specs.Names.{object}
use Rattle.expanded_code.specs.Callees.{InitialisesAt}
use Rattle.inline_expand.specs.declared.initialised.Initialisation.{Initialisation}
use Rattle.inline_expand.specs.declared.initialised.Object.{Object}
use Rattle.inline_expand.specs.declared.initialised.Object.TheVariants.{New, This}
use Rattle.member_link.specs.References.{Reference}
use Rattle.member_link.specs.Scope.{Scope}

abbrev pub type_or_top : Option VType → VType
type_or_top None = Top
type_or_top (Some type) = type

-- an uninitialised object, and its type
abbrev pub object_of : Option VType → Option Object
object_of (Some (Uninit at)) = Some (New at)
object_of (Some UninitThis) = Some This
object_of type = None

abbrev pub type_of_object : Object → VType
type_of_object (New at) = Uninit at
type_of_object This = UninitThis

-- the call at an offset, of an initialiser of this class on this object
pub record Initialises (s : Scope) (frames : List Frame) (at : ℕ) (call : Initialisation)
    : Type 0 where
  pub reference : Reference
  pub is : InitialisesAt s frames at (type_of_object call.object) reference
  pub class : reference.class ≡ call.class.now

abbrev pub IsInitialisation : Scope → List Frame → ℕ → Option Initialisation → Type 0
IsInitialisation s frames at (Some call) = Initialises s frames at call
IsInitialisation s frames at None =
    (object : Object) (reference : Reference)
    → ¬ InitialisesAt s frames at (type_of_object object) reference

-- it is on the method's own object, and of another class than java/lang/Object
abbrev pub IsOtherOnThis : Initialisation → Type 0
IsOtherOnThis call = (call.object ≡ This) × (call.class.now ≢ object)
