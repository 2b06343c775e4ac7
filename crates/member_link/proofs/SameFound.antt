-- What it means that two places, or two finds, are the same.
use Rattle.std.proofs.Common.{◌≡◌, ◌&&◌, ℕ, true, eqb, List, Some, sym, ap, ◌∙◌}
use Rattle.std.specs.Bool.{Decides}
use Rattle.std.proofs.lemmas.Bool.{and_parts, and_from, eqb-true, eq-eqb}
use Rattle.std.proofs.lemmas.Option.{same_Some}
use Rattle.class_model.specs.declared.header.Header.{Header}
use Rattle.class_model.specs.declared.header.Member.{Member}
use Rattle.class_tree.specs.Headers.{Headers}
use Rattle.class_tree.specs.Hierarchy.{IsHierarchy}
use Rattle.class_tree.specs.Laws.Places.{same_place}
use Rattle.class_tree.specs.Order.{header_at, place_of, member_place}
use Rattle.class_tree.specs.contracts.place.PlacePartialEq.TheImpl as places
use Rattle.class_tree.specs.declared.place.Place.{Place}
use Rattle.member_link.specs.DeclaredMembers.{Declared}
use Rattle.member_link.specs.Found.{IsFoundIn}
use Rattle.member_link.specs.contracts.found.FoundPartialEq.TheImpl as founds
use Rattle.member_link.specs.declared.found.Found.{Found}

abbrev found_of : Place → ℕ → ℕ → Found
found_of place member flags = record { place = place; member = member; flags = flags }

same_parts : (one other : Found) → one.place ≡ other.place → one.member ≡ other.member → one.flags ≡ other.flags → one ≡ other
same_parts one other place member flags =
    ap (λ p. found_of p one.member one.flags) place ∙ ap (λ m. found_of other.place m one.flags) member ∙ ap (found_of other.place other.member) flags

pub same_found : (one other : Found) → Decides (founds.ghosts.eq one other) (one ≡ other)
same_found one other = (to, from)
  where
    to : founds.ghosts.eq one other ≡ true → one ≡ other
    to same =
        let parts = and_parts (places.ghosts.eq one.place other.place) (eqb one.member other.member && eqb one.flags other.flags) same in
        let rest = and_parts (eqb one.member other.member) (eqb one.flags other.flags) parts.1 in
        same_parts one other ((same_place one.place other.place).0 parts.0) (eqb-true one.member other.member rest.0) (eqb-true one.flags other.flags rest.1)

    from : one ≡ other → founds.ghosts.eq one other ≡ true
    from same =
        and_from (places.ghosts.eq one.place other.place) (eqb one.member other.member && eqb one.flags other.flags) ((same_place one.place other.place).1 (ap (λ (f : Found). f.place) same))
        (and_from (eqb one.member other.member) (eqb one.flags other.flags) (eq-eqb one.member other.member (ap (λ (f : Found). f.member) same)) (eq-eqb one.flags other.flags (ap (λ (f : Found). f.flags) same)))

module _ (headers : Headers) (tree : IsHierarchy headers) where
  -- a class stands at one place
  pub one_place : (place other : Place) (class class_other : Header) → header_at headers place ≡ Some class → header_at headers other ≡ Some class_other → class.name ≡ class_other.name → place ≡ other
  one_place place other class class_other at at_other same =
      same_Some place other (sym (tree.of_place place class at).is_place ∙ ap (place_of headers) same ∙ (tree.of_place other class_other at_other).is_place)

  -- a member is found once
  pub one_find : {members_of : Header → List Member} {one other : Found} {method : Declared} → IsFoundIn members_of headers one method → IsFoundIn members_of headers other method → one ≡ other
  one_find {members_of} {one} {other} {method} is also =
      let place = one_place one.place other.place is.header also.header is.at also.at (is.own_class ∙ sym also.own_class) in
      let header = same_Some is.header also.header (sym is.at ∙ ap (header_at headers) place ∙ also.at) in
      let member = same_Some one.member other.member (sym is.first ∙ ap (λ (h : Header). member_place method.member.name method.member.desc (members_of h)) header ∙ also.first) in
      same_parts one other place member (is.same_flags ∙ sym also.same_flags)
