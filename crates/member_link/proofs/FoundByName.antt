-- What the look-up of a method by the name of a class answers.
use Rattle.std.proofs.Common.{◌≡◌, ℕ, List, Option, None, option_map, option_and_then, sym, subst}
use Rattle.class_model.specs.Names.{init}
use Rattle.class_model.specs.declared.header.Header.{Header}
use Rattle.class_model.specs.declared.header.Member.{Member}
use Rattle.class_tree.specs.Headers.{Name, Headers, class_named}
use Rattle.class_tree.specs.Hierarchy.{StandsAt}
use Rattle.class_tree.specs.declared.place.Place.{Place}
use Rattle.member_link.specs.DeclaredMembers.{Declared, declared_by, declared}
use Rattle.member_link.specs.Found.{AreSame, IsMethodFound, IsMethodOf}
use Rattle.member_link.specs.Methods.{first_named, IsPolymorphic, FindsMethod, initialiser, polymorphic}
use Rattle.member_link.specs.declared.found.Found.{Found}

module _ (headers : Headers) (class : Name) (name desc : List ℕ) (result : Option Found) (of_methods : List Member → Option Member) where
  -- what the methods of the class of this name answer
  abbrev own_of : Option Header → Option Declared
  own_of found = option_and_then (λ header. option_map (declared_by class) (of_methods header.methods)) found

  absent_answers : FindsMethod headers class name desc (own_of (class_named headers class)) → class_named headers class ≡ None → result ≡ None → IsMethodOf headers class name desc result
  absent_answers finds absent none = record {
    method = None;
    finds = subst (λ (found : Option Header). FindsMethod headers class name desc (own_of found)) absent finds;
    same = subst (λ (r : Option Found). AreSame (IsMethodFound headers) r None) (sym none) tt;
  }

  class_answers : FindsMethod headers class name desc (own_of (class_named headers class)) → (place : Place) (header : Header) → StandsAt headers class place header → AreSame (IsMethodFound headers) result (option_map (declared_by header.name) (of_methods header.methods)) → IsMethodOf headers class name desc result
  class_answers finds place header stands same = record {
    method = option_map (declared_by class) (of_methods header.methods);
    finds = subst (λ (found : Option Header). FindsMethod headers class name desc (own_of found)) stands.found finds;
    same = subst (λ (n : Name). AreSame (IsMethodFound headers) result (option_map (declared_by n) (of_methods header.methods))) stands.own_name same;
  }

module _ (headers : Headers) (class : Name) (name desc : List ℕ) (result : Option Found) where
  pub no_initialiser : name ≡ init → class_named headers class ≡ None → result ≡ None → IsMethodOf headers class name desc result
  no_initialiser is = absent_answers headers class name desc result (declared name desc) (initialiser is)

  pub found_initialiser : name ≡ init → (place : Place) (header : Header) → StandsAt headers class place header → AreSame (IsMethodFound headers) result (option_map (declared_by header.name) (declared name desc header.methods)) → IsMethodOf headers class name desc result
  found_initialiser is = class_answers headers class name desc result (declared name desc) (initialiser is)

  pub no_polymorphic : IsPolymorphic headers class name → class_named headers class ≡ None → result ≡ None → IsMethodOf headers class name desc result
  no_polymorphic is = absent_answers headers class name desc result (first_named name) (polymorphic is)

  pub found_polymorphic : IsPolymorphic headers class name → (place : Place) (header : Header) → StandsAt headers class place header → AreSame (IsMethodFound headers) result (option_map (declared_by header.name) (first_named name header.methods)) → IsMethodOf headers class name desc result
  found_polymorphic is = class_answers headers class name desc result (first_named name) (polymorphic is)
