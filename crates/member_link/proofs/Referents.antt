-- What is kept of the one member that a look-up finds.
use Rattle.std.proofs.Common.{◌≡◌, ◌↔◌, Bool, List, [], ◌∷◌, Option, Some, None, IsTrue, sym, ◌∙◌, ℕ}
use Rattle.std.proofs.lemmas.Option.{none-some, same_Some}
use Rattle.class_tree.specs.Headers.{Name, Headers, class_named}
use Rattle.class_tree.specs.Hierarchy.{IsHierarchy}
use Rattle.class_tree.specs.Subtype.{IsArray}
use Rattle.member_link.specs.Access.{IsAccessible}
use Rattle.member_link.specs.DeclaredMembers.{Declared}
use Rattle.member_link.specs.Fields.{FindsFirst, in_class, above_class, in_other_class, absent_class, FindsField}
use Rattle.member_link.specs.Found.{AreSame, IsField, IsFieldFound, IsMethodOf, IsMethodFound}
use Rattle.member_link.specs.Methods.{FindsMethod}
use Rattle.member_link.specs.Inner.Resolutions.{IsReferent}
use Rattle.member_link.specs.declared.found.Found.{Found}
use Rattle.member_link.proofs.FieldsOnce.{field_once}
use Rattle.member_link.proofs.MethodsOnce.{method_once}

-- ---- what the look-up answers

-- the one member that is found
pub record IsOne (Finds : Option Declared → Type 0) (Is : Found → Declared → Type 0) (found : Found) : Type 0 where
  pub member : Declared
  pub finds : Finds (Some member)
  pub is : Is found member
  pub only : (other : Declared) → Finds (Some other) → other ≡ member

module _ (Finds : Option Declared → Type 0) (Is : Found → Declared → Type 0) (once : (one other : Option Declared) → Finds one → Finds other → one ≡ other) where
  finds_none : (answer : Option Declared) → Finds answer → AreSame Is None answer → ¬ ((member : Declared) × Finds (Some member))
  finds_none None finds same (member, other) = none-some member (once None (Some member) finds other)
  finds_none (Some one) finds same other = absurd same

  finds_one : (found : Found) (answer : Option Declared) → Finds answer → AreSame Is (Some found) answer → IsOne Finds Is found
  finds_one found None finds same = absurd same
  finds_one found (Some member) finds same = record {
    member = member;
    finds = finds;
    is = same;
    only = λ other also. same_Some other member (once (Some other) (Some member) also finds);
  }

-- ---- fields and methods

module _ (headers : Headers) (class : Name) (name desc : List ℕ) where
  pub no_field : IsField headers class name desc None → ¬ ((member : Declared) × FindsField headers class name desc (Some member))
  no_field none = finds_none (FindsField headers class name desc) (IsFieldFound headers) (field_once headers class name desc) none.field none.finds none.same

  pub one_field : (found : Found) → IsField headers class name desc (Some found) → IsOne (FindsField headers class name desc) (IsFieldFound headers) found
  one_field found some = finds_one (FindsField headers class name desc) (IsFieldFound headers) (field_once headers class name desc) found some.field some.finds some.same

  pub no_method : IsMethodOf headers class name desc None → ¬ ((member : Declared) × FindsMethod headers class name desc (Some member))
  no_method none = finds_none (FindsMethod headers class name desc) (IsMethodFound headers) (method_once headers class name desc) none.method none.finds none.same

  pub one_method : (found : Found) → IsMethodOf headers class name desc (Some found) → IsOne (FindsMethod headers class name desc) (IsMethodFound headers) found
  one_method found some = finds_one (FindsMethod headers class name desc) (IsMethodFound headers) (method_once headers class name desc) found some.method some.finds some.same

-- a class in which a field is found is there, and so it is no array
there : (headers : Headers) {class : Name} {name desc : List ℕ} {member : Declared} → FindsFirst headers name desc (class ∷ []) (Some member) → ¬ (class_named headers class ≡ None)
there headers (in_class class classes header own is declares) none = none-some header (sym none ∙ is)
there headers (above_class class classes header field is lacks above) none = none-some header (sym none ∙ is)
there headers (in_other_class class classes header found is lacks above beside) none = none-some header (sym none ∙ is)
there headers (absent_class class classes found is beside) none = elim beside [ ]

pub in_no_array : (headers : Headers) → IsHierarchy headers → (class : Name) (name desc : List ℕ) (found : Found) → IsOne (FindsField headers class name desc) (IsFieldFound headers) found → ¬ IsArray class
in_no_array headers tree class name desc found one array = there headers one.finds (tree.no_array class array)

-- ---- what is kept

pub referent : {headers : Headers} {from named : Name} {Finds : Option Declared → Type 0} {Is : Found → Declared → Type 0} {found : Found} (is_accessible : Bool) (one : IsOne Finds Is found) → ((member : Declared) → Is found member → IsTrue is_accessible ↔ IsAccessible headers from named member) → found.flags ≡ one.member.member.flags → IsReferent headers from named Finds (record { flags = found.flags; is_accessible = is_accessible })
referent is_accessible one accessible flags = record {
  member = one.member;
  finds = one.finds;
  only = one.only;
  flags = flags;
  accessible = accessible one.member one.is;
}
