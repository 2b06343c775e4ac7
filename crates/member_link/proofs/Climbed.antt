-- A way upwards from a class, for a method that counts.
use Rattle.std.proofs.Common.{◌≡◌, ℕ, List, Option, Some, None, IsSome, IfSome, option_map, refl, sym, subst, ◌∙◌}
use Rattle.std.proofs.lemmas.Option.{same_Some}
use Rattle.class_model.specs.declared.header.Header.{Header}
use Rattle.class_model.specs.declared.header.Member.{Member}
use Rattle.class_tree.specs.Headers.{Name, Headers, class_named}
use Rattle.class_tree.specs.Hierarchy.{IsHierarchy, StandsAt, superclass_of}
use Rattle.class_tree.specs.Laws.Headers.{class_there, super_is_there, no_superclass, superclass_is, superclass_there}
use Rattle.class_tree.specs.Order.{header_at}
use Rattle.class_tree.specs.declared.place.Place.{Place}
use Rattle.member_link.specs.DeclaredMembers.{Declared, declared_by, declared}
use Rattle.member_link.specs.Found.{AreSame}
use Rattle.member_link.specs.Upwards.{IsPassedOver, FirstUpwards, in_itself, in_superclass, in_no_superclass}
use Rattle.member_link.specs.declared.found.Found.{Found}

-- ---- the place of the superclass

-- the superclass of a class, and its place
pub record SuperclassAt (headers : Headers) (place : Place) (name : Name) : Type 0 where
  pub high : Place
  pub class : Header
  pub is : superclass_of headers place ≡ Some high
  pub stands : StandsAt headers name high class

pub superclass_at : (headers : Headers) → IsHierarchy headers → (place : Place) (header : Header) → header_at headers place ≡ Some header → (name : Name) → header.super_name ≡ Some name → SuperclassAt headers place name
superclass_at headers tree place header at name some =
    let there = super_is_there headers header name (tree.above header.name header (tree.of_place place header at).found) some in
    let class = class_there headers name there in
    let stands = tree.of_name name class.0 class.1 in
    record {
      high = stands.0;
      class = class.0;
      is = superclass_is headers place header at name some ∙ stands.1.is_place;
      stands = stands.1;
    }

-- ---- the way upwards

-- what is found from a place upwards
abbrev pub FoundFrom : Headers → (Declared → Type 0) → List ℕ → List ℕ → Option Place → Option Declared → Type 0
FoundFrom headers Counts name desc None found = found ≡ None
FoundFrom headers Counts name desc (Some place) found = (header : Header) → header_at headers place ≡ Some header → FirstUpwards headers Counts name desc header.name found

-- whatever is found from the next place is found from the first
pub record IsClimbed (headers : Headers) (Counts : Declared → Type 0) (name desc : List ℕ) (start : Place) (next : Option Place) : Type 0 where
  pub onwards : (found : Option Declared) → FoundFrom headers Counts name desc next found → FoundFrom headers Counts name desc (Some start) found
  pub there : IfSome next (λ place. IsSome (header_at headers place))

module _ (headers : Headers) (tree : IsHierarchy headers) (Counts : Declared → Type 0) (name desc : List ℕ) (start : Place) where
  from_superclass : (place : Place) (header : Header) → header_at headers place ≡ Some header → IsPassedOver Counts name desc header.name header → (found : Option Declared) → FoundFrom headers Counts name desc (superclass_of headers place) found → FirstUpwards headers Counts name desc header.name found
  from_superclass place header at passed found from = by header.super_name refl
    where
      named : class_named headers header.name ≡ Some header
      named = (tree.of_place place header at).found

      by : (super : Option Name) → header.super_name ≡ super → FirstUpwards headers Counts name desc header.name found
      by None none =
          let nothing : found ≡ None = subst (λ (next : Option Place). FoundFrom headers Counts name desc next found) (no_superclass headers place header at none) from in
          subst (FirstUpwards headers Counts name desc header.name) (sym nothing) (in_no_superclass header.name header named passed none)
      by (Some high) some =
          let above = superclass_at headers tree place header at high some in
          let up = subst (λ (next : Option Place). FoundFrom headers Counts name desc next found) above.is from above.class above.stands.at in
          in_superclass header.name high header found named passed some (subst (λ (n : Name). FirstUpwards headers Counts name desc n found) above.stands.own_name up)

  pub climbed_more : (place : Place) (header : Header) → header_at headers place ≡ Some header → IsPassedOver Counts name desc header.name header → IsClimbed headers Counts name desc start (Some place) → IsClimbed headers Counts name desc start (superclass_of headers place)
  climbed_more place header at passed climbed = record {
    onwards = λ found from. climbed.onwards found (λ other other_at. subst (λ (h : Header). FirstUpwards headers Counts name desc h.name found) (same_Some header other (sym at ∙ other_at)) (from_superclass place header at passed found from));
    there = superclass_there headers place;
  }

  pub climbed_here : (place : Place) (header : Header) → header_at headers place ≡ Some header → (member : Member) → declared name desc header.methods ≡ Some member → Counts (declared_by header.name member) → IsClimbed headers Counts name desc start (Some place) → FoundFrom headers Counts name desc (Some start) (Some (declared_by header.name member))
  climbed_here place header at member declares counts climbed =
      climbed.onwards _ (λ other other_at. subst (λ (h : Header). FirstUpwards headers Counts name desc h.name (Some (declared_by header.name member))) (same_Some header other (sym at ∙ other_at)) (in_itself header.name header member (tree.of_place place header at).found declares counts))

-- ---- what the look-up of a class's own member answers

pub own_some : (Is : Found → Declared → Type 0) (class : Name) (found : Found) (own : Option Member) → AreSame Is (Some found) (option_map (declared_by class) own) → (member : Member) × (own ≡ Some member) × Is found (declared_by class member)
own_some Is class found None same = absurd same
own_some Is class found (Some member) same = (member, refl, same)

pub own_none : (Is : Found → Declared → Type 0) (class : Name) (own : Option Member) → AreSame Is None (option_map (declared_by class) own) → own ≡ None
own_none Is class None same = refl
own_none Is class (Some member) same = absurd same
