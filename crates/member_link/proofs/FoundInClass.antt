-- What the look-up of a method in a class and above it answers.
use Rattle.std.proofs.Common.{◌≡◌, ◌↔◌, ◌⊎◌, ℕ, List, Option, Some, None, sym, subst, ◌∙◌, inl, inr}
use Rattle.class_model.specs.declared.header.Header.{Header}
use Rattle.class_tree.specs.Headers.{Name, Headers}
use Rattle.class_tree.specs.Hierarchy.{StandsAt}
use Rattle.class_tree.specs.declared.place.Place.{Place}
use Rattle.member_link.proofs.FoundOr.{some_same, none_same}
use Rattle.member_link.specs.DeclaredMembers.{Declared}
use Rattle.member_link.specs.Defaults.{IsOneDefault}
use Rattle.member_link.specs.Inner.DefaultsOf.{AreDefaults}
use Rattle.member_link.specs.Found.{AreSame}
use Rattle.member_link.specs.Methods.{CountsFor, FindsInInterfaces, FindsInClass, upwards, in_interfaces}
use Rattle.member_link.specs.Upwards.{FirstUpwards}
use Rattle.member_link.specs.declared.defaults.DefaultMethods.{DefaultMethods}
use Rattle.member_link.specs.declared.defaults.DefaultMethods.TheVariants.{Nothing, Several}
use Rattle.member_link.specs.declared.found.Found.{Found}
use Rattle.member_link.proofs.UpwardsOnce.{upwards_as}

-- where something is found, it is the place of a method, and else there is none
pub same_some : (Is : Found → Declared → Type 0) (result : Option Found) (answer : Option Declared) → AreSame Is result answer → (found : Found) → result ≡ Some found → (method : Declared) × (answer ≡ Some method) × Is found method
same_some Is result answer same found is = some_same Is found answer (subst (λ (r : Option Found). AreSame Is r answer) is same)

pub same_none : (Is : Found → Declared → Type 0) (result : Option Found) (answer : Option Declared) → AreSame Is result answer → result ≡ None → answer ≡ None
same_none Is result answer same is = none_same Is answer (subst (λ (r : Option Found). AreSame Is r answer) is same)

-- where there is no default, or two, there is not one
pub not_one_default : (headers : Headers) (class : Name) (name desc : List ℕ) (defaults : DefaultMethods) → AreDefaults headers class name desc defaults → (defaults ≡ Nothing) ⊎ (defaults ≡ Several) → (method : Declared) → ¬ IsOneDefault headers class name desc method
not_one_default headers class name desc defaults are (inl none) method one = subst (AreDefaults headers class name desc) none are method one.is_default
not_one_default headers class name desc defaults are (inr several) method one =
    let two = subst (AreDefaults headers class name desc) several are in
    two.differ (one.only two.one two.is_default ∙ sym (one.only two.other two.is_other))

module _ (headers : Headers) (class : Name) (place : Place) (header : Header) (stands : StandsAt headers class place header) (Counts : Declared → Type 0) (same : (method : Declared) → Counts method ↔ CountsFor header method) (name desc : List ℕ) where
  own_upwards : (found : Option Declared) → FirstUpwards headers Counts name desc header.name found → FirstUpwards headers (CountsFor header) name desc class found
  own_upwards found up = subst (λ (n : Name). FirstUpwards headers (CountsFor header) name desc n found) stands.own_name (upwards_as headers Counts name desc (CountsFor header) same up)

  pub found_upwards : (method : Declared) → FirstUpwards headers Counts name desc header.name (Some method) → FindsInClass headers class name desc (Some method)
  found_upwards method up = upwards header method stands.found (own_upwards (Some method) up)

  pub found_in_interfaces : (found : Option Declared) → FirstUpwards headers Counts name desc header.name None → FindsInInterfaces headers header.name name desc found → FindsInClass headers class name desc found
  found_in_interfaces found up over = in_interfaces header found stands.found (own_upwards None up) (subst (λ (n : Name). FindsInInterfaces headers n name desc found) stands.own_name over)
