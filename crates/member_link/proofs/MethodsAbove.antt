-- The methods of the classes above a class that have a name and descriptor.
use Rattle.std.proofs.Common.{◌≡◌, Bool, true, false, Option, Some, None, option_map, refl, sym, ap, subst, ◌∙◌}
use Rattle.std.proofs.lemmas.Option.{same_Some, none-some}
use Rattle.class_model.specs.declared.header.Header.{Header}
use Rattle.class_model.specs.declared.header.Member.{Member}
use Rattle.class_tree.specs.Headers.{Name, Headers, class_named}
use Rattle.class_tree.specs.Hierarchy.{IsHierarchy}
use Rattle.class_tree.specs.Order.{header_at}
use Rattle.class_tree.specs.declared.place.Place.{Place}
use Rattle.member_link.specs.DeclaredMembers.{Declared, declared_by, declared}
use Rattle.member_link.specs.Found.{AreSame, IsMethodFound}
use Rattle.member_link.specs.Inner.OpenMethods.{IsSameOf, IsAnyOf, one_passes, none_passes}
use Rattle.member_link.specs.declared.found.Found.{Found}
use Rattle.member_link.proofs.Climbed.{own_some, own_none}
use Rattle.member_link.specs.Laws.OwnMembers.{own_of_declared}

is_declared : {method : Declared} {class : Name} {member : Member} → method.class ≡ class → method.member ≡ member → method ≡ declared_by class member
is_declared {method} {class} same is = ap (λ name. declared_by name method.member) same ∙ ap (declared_by class) is

-- where one method counts and no other, what a test answers of it is the answer
one_counts : {headers : Headers} {Counts : Declared → Type 0} (Answer : Found → Bool → Type 0) {found : Found} {one : Declared} (result : Bool) → IsMethodFound headers found one → Counts one → ((other : Declared) → Counts other → other ≡ one) → Answer found result → IsAnyOf headers Counts Answer result
one_counts Answer {found = found} {one = one} true is counts only answer = one_passes found one is counts answer
one_counts {headers} Answer {found = found} false is counts only answer = none_passes (λ other also. (found, subst (IsMethodFound headers found) (sym (only other also)) is, answer))

module _ (headers : Headers) (hierarchy : IsHierarchy headers) (place : Place) (header : Header) (at : header_at headers place ≡ Some header) (member : Member) where
  abbrev own : Option Member
  own = declared member.name member.desc header.methods

  -- the method of the name and descriptor is the one that the class declares
  of_class : (other : Declared) → IsSameOf headers header.name member other → own ≡ Some other.member
  of_class other is =
      let class = same_Some is.method.header header (sym is.method.found ∙ ap (class_named headers) is.own_class ∙ (hierarchy.of_place place header at).found) in
      sym (
      ap (λ (h : Header). declared other.member.name other.member.desc h.methods) class
      ∙ ap (λ name. declared name other.member.desc header.methods) is.same_name
      ∙ ap (λ desc. declared member.name desc header.methods) is.same_desc
      ) ∙ is.method.declares

  pub own_counts : (Answer : Found → Bool → Type 0) (found : Found) (result : Bool) → AreSame (IsMethodFound headers) (Some found) (option_map (declared_by header.name) own) → Answer found result → IsAnyOf headers (IsSameOf headers header.name member) Answer result
  own_counts Answer found result same answer =
      let known = own_some (IsMethodFound headers) header.name found own same in
      let method = known.0 in
      let is = own_of_declared member.name member.desc header.methods method known.1 in
      let counts : IsSameOf headers header.name member (declared_by header.name method) = record {
        method = record {
          header = header;
          found = (hierarchy.of_place place header at).found;
          declares = ap (λ name. declared name method.desc header.methods) is.3 ∙ ap (λ desc. declared member.name desc header.methods) is.4 ∙ known.1;
        };
        own_class = refl;
        same_name = is.3;
        same_desc = is.4;
      } in
      one_counts Answer result known.2 counts (λ other also. is_declared also.own_class (same_Some other.member method (sym (of_class other also) ∙ known.1))) answer

  pub none_counts : (Answer : Found → Bool → Type 0) → AreSame (IsMethodFound headers) None (option_map (declared_by header.name) own) → IsAnyOf headers (IsSameOf headers header.name member) Answer false
  none_counts Answer same = none_passes (λ other is. absurd (none-some other.member (sym (own_none (IsMethodFound headers) header.name own same) ∙ of_class other is)))
