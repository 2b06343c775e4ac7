-- Defaults among the methods of superinterfaces.
use Rattle.std.proofs.Common.{◌≡◌, List, ℕ, Some, None, IsTrue, IsFalse, sym, ap, subst, ◌∙◌}
use Rattle.std.proofs.lemmas.Bool.{both_ways}
use Rattle.std.proofs.lemmas.Option.{none-some, same_Some}
use Rattle.class_model.specs.Members.{has, ABSTRACT}
use Rattle.class_model.specs.declared.header.Header.{Header}
use Rattle.class_tree.specs.Headers.{Name, Headers, class_named}
use Rattle.class_tree.specs.Hierarchy.{IsHierarchy}
use Rattle.class_tree.specs.Order.{header_at}
use Rattle.class_tree.specs.Subtype.{IsBelow}
use Rattle.class_tree.specs.declared.place.Place.{Place}
use Rattle.member_link.specs.DeclaredMembers.{Declared, declared}
use Rattle.member_link.specs.Defaults.{IsSuperinterfaceMethod}
use Rattle.member_link.specs.Inner.DefaultsAt.{inherited_of, IsSuperinterfaceAt, IsHidden, IsDefaultOf}
use Rattle.member_link.specs.Found.{IsMethodFound}
use Rattle.member_link.specs.declared.found.Found.{Found}
use Rattle.member_link.proofs.InheritedMethods.{inherited_is, is_inherited_of, superinterface_method}

module _ (headers : Headers) (hierarchy : IsHierarchy headers) (class : Name) (name desc : List ℕ) (interface : Place) (header : Header) (at : header_at headers interface ≡ Some header) where
  -- a method of a superinterface is the one that the interface declares
  pub own_method_is : (method : Declared) → IsSuperinterfaceMethod headers class name desc method → method.class ≡ header.name → inherited_of name desc header ≡ Some method
  own_method_is method is same =
      let own : is.header ≡ header = same_Some is.header header (sym is.found ∙ ap (class_named headers) same ∙ (hierarchy.of_place interface header at).found) in
      inherited_is name desc header method (record {
        own = same;
        declares = ap (λ (h : Header). declared name desc h.methods) (sym own) ∙ is.declares;
        inherited = is.inherited;
      })

  pub no_default : inherited_of name desc header ≡ None → IsDefaultOf headers class name desc header.name None
  no_default none = λ method is same. none-some method (sym none ∙ own_method_is method is.specific.of_superinterface same)

  pub abstract_no_default : (one : Declared) → inherited_of name desc header ≡ Some one → IsTrue (has one.member.flags ABSTRACT) → IsDefaultOf headers class name desc header.name None
  abstract_no_default one own is_abstract = λ method is same.
      let alike : one ≡ method = same_Some one method (sym own ∙ own_method_is method is.specific.of_superinterface same) in
      both_ways (has method.member.flags ABSTRACT) is.concrete (ap (λ (m : Declared). has m.member.flags ABSTRACT) (sym alike) ∙ is_abstract)

  pub hidden_no_default : IsHidden headers class name desc header.name → IsDefaultOf headers class name desc header.name None
  hidden_no_default hidden = λ method is same.
      is.specific.none_below hidden.other hidden.of_superinterface (subst (IsBelow headers hidden.other.class) (sym same) hidden.below)

  pub one_default : IsSuperinterfaceAt headers class interface → (found : Found) (one : Declared) → inherited_of name desc header ≡ Some one → IsMethodFound headers found one → IsFalse (has one.member.flags ABSTRACT) → ¬ IsHidden headers class name desc header.name → IsDefaultOf headers class name desc header.name (Some found)
  one_default superinterface found one own is concrete not =
      let inherited = is_inherited_of name desc header one own in (
        one,
        is,
        record {
          specific = record {
            of_superinterface = superinterface_method headers hierarchy class interface name desc header at superinterface one inherited;
            none_below = λ other of_superinterface below. not (record { other = other; of_superinterface = of_superinterface; below = subst (IsBelow headers other.class) inherited.own below });
          };
          concrete = concrete;
        },
        inherited.own,
      )
