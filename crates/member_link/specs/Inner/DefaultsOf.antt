-- What the search for defaults answers.
use Rattle.std.specs.Prelude.{◌≢◌, ℕ, List}
use Rattle.class_tree.specs.Headers.{Name, Headers}
use Rattle.member_link.specs.DeclaredMembers.{Declared}
use Rattle.member_link.specs.Defaults.{IsDefault, IsOneDefault}
use Rattle.member_link.specs.Found.{IsMethodFound}
use Rattle.member_link.specs.declared.defaults.DefaultMethods.{DefaultMethods}
use Rattle.member_link.specs.declared.defaults.DefaultMethods.TheVariants.{Nothing, One, Several}

-- two defaults
pub record HasTwoDefaults (headers : Headers) (class : Name) (name desc : List ℕ) : Type 0 where
  pub one : Declared
  pub other : Declared
  pub is_default : IsDefault headers class name desc one
  pub is_other : IsDefault headers class name desc other
  pub differ : one ≢ other

abbrev pub AreDefaults : Headers → Name → List ℕ → List ℕ → DefaultMethods → Type 0
AreDefaults headers class name desc Nothing =
    (method : Declared) → ¬ IsDefault headers class name desc method
AreDefaults headers class name desc (One found) =
    (method : Declared)
    × IsMethodFound headers found method
    × IsOneDefault headers class name desc method
AreDefaults headers class name desc Several = HasTwoDefaults headers class name desc
