-- The members that a class declares itself: the place of a name and descriptor is that of the member that is declared.
use Rattle.std.proofs.Common.{◌≡◌, ℕ, true, List, slice_get, Option, Some, None, refl, sym, ap, ◌∙◌, option_and_then}
use Rattle.std.proofs.lemmas.Bool.{and_parts}
use Rattle.std.proofs.lemmas.Option.{same_Some}
use Rattle.std.proofs.lemmas.Slice.Eq.{bytes_eq-Decides}
use Rattle.class_model.specs.declared.header.Member.{Member}
use Rattle.class_tree.specs.Laws.FirstPlaces.{first_passes, first_at}
use Rattle.class_tree.specs.Names.{is_member}
use Rattle.class_tree.specs.Order.{member_place}
use Rattle.member_link.specs.DeclaredMembers.{declared}

-- the member of a name and descriptor stands at this place, and is the one that is declared
pub record IsOwn (name desc : List ℕ) (members : List Member) (place : ℕ) : Type 0 where
  pub member : Member
  pub stands : slice_get members place ≡ Some member
  pub is : declared name desc members ≡ Some member
  pub own_name : member.name ≡ name
  pub own_desc : member.desc ≡ desc

named : (name desc : List ℕ) (member : Member) → is_member name desc member ≡ true → member.name ≡ name
named name desc member is = sym ((bytes_eq-Decides name member.name).0 (and_parts _ _ is).0)

described : (name desc : List ℕ) (member : Member) → is_member name desc member ≡ true → member.desc ≡ desc
described name desc member is = sym ((bytes_eq-Decides desc member.desc).0 (and_parts _ _ is).1)

-- the declared member stands at the place of its name and descriptor
pub first_declared : (name desc : List ℕ) (members : List Member) → declared name desc members ≡ option_and_then (slice_get members) (member_place name desc members)
first_declared name desc members = first_at (is_member name desc) (declared name desc) refl (λ member rest. refl) members

-- the place of a name and descriptor is that of the declared member
pub own_at : (name desc : List ℕ) (members : List Member) (place : ℕ) → member_place name desc members ≡ Some place → IsOwn name desc members place
own_at name desc members place is =
    let passes = first_passes (is_member name desc) members place is in
    record {
      member = passes.item;
      stands = passes.there;
      is = first_declared name desc members ∙ ap (option_and_then (slice_get members)) is ∙ passes.there;
      own_name = named name desc passes.item passes.passes;
      own_desc = described name desc passes.item passes.passes;
    }

-- where a name and descriptor have no place, no member is declared
pub none_own : (name desc : List ℕ) (members : List Member) → member_place name desc members ≡ None → declared name desc members ≡ None
none_own name desc members is = first_declared name desc members ∙ ap (option_and_then (slice_get members)) is

-- a declared member has a place
pub own_of_declared : (name desc : List ℕ) (members : List Member) (member : Member) → declared name desc members ≡ Some member → (place : ℕ) × (member_place name desc members ≡ Some place) × (slice_get members place ≡ Some member) × (member.name ≡ name) × (member.desc ≡ desc)
own_of_declared name desc members member is = by (member_place name desc members) refl
  where
    by : (found : Option ℕ) → member_place name desc members ≡ found → (place : ℕ) × (member_place name desc members ≡ Some place) × (slice_get members place ≡ Some member) × (member.name ≡ name) × (member.desc ≡ desc)
    by None none = absurd (cc (is, none_own name desc members none))
    by (Some place) at =
        let own = own_at name desc members place at in
        let same = same_Some own.member member (sym own.is ∙ is) in
        (place, at, own.stands ∙ ap Some same, ap (λ (m : Member). m.name) (sym same) ∙ own.own_name, ap (λ (m : Member). m.desc) (sym same) ∙ own.own_desc)
