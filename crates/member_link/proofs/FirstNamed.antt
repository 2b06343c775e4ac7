-- The first method of a name, and its place.
use Rattle.std.proofs.Common.{◌≡◌, ◌+◌, ◌<◌, ℕ, suc, Bool, true, false, cond, bytes_eq, List, [], ◌∷◌, length, slice_get, Option, Some, None, IfSome, option_map, refl, sym, ap, subst, ◌∙◌, arith, option_and_then}
use Rattle.std.specs.List.{position_from}
use Rattle.std.proofs.lemmas.Bool.{and_from, and_left}
use Rattle.std.proofs.lemmas.Option.{same_Some, slice_get_within}
use Rattle.std.proofs.lemmas.Slice.Eq.{bytes_eq-Decides}
use Rattle.class_model.specs.declared.header.Header.{Header}
use Rattle.class_model.specs.declared.header.Member.{Member}
use Rattle.class_tree.specs.Headers.{Name, Headers}
use Rattle.class_tree.specs.Laws.FirstPlaces.{first_passes, first_at}
use Rattle.class_tree.specs.Order.{first_place, header_at, member_place}
use Rattle.class_tree.specs.declared.place.Place.{Place}
use Rattle.member_link.specs.DeclaredMembers.{declared_by}
use Rattle.member_link.specs.Found.{AreSame, IsMethodFound}
use Rattle.member_link.specs.Methods.{first_named}

-- ---- the first place where a test is passed

later_place : (i : ℕ) (found : Option ℕ) → option_map (λ place. (i + 1) + place) found ≡ option_map (λ place. i + place) (option_map (λ place. place + 1) found)
later_place i None = refl
later_place i (Some place) = ap Some (omega arith)

place_from : {X : Type 0} (test : X → Bool) (i : ℕ) (xs : List X) → position_from test i xs ≡ option_map (λ place. i + place) (first_place test xs)
place_from test i [] = refl
place_from test i (x ∷ xs) = by (test x) (place_from test (i + 1) xs)
  where
    by : (passes : Bool) → position_from test (i + 1) xs ≡ option_map (λ place. (i + 1) + place) (first_place test xs) → cond passes (Some i) (position_from test (i + 1) xs) ≡ option_map (λ place. i + place) (cond passes (Some 0) (option_map (λ place. place + 1) (first_place test xs)))
    by true later = ap Some (omega arith)
    by false later = later ∙ later_place i (first_place test xs)

pub first_from_start : {X : Type 0} (test : X → Bool) (xs : List X) → position_from test 0 xs ≡ first_place test xs
first_from_start test xs = place_from test 0 xs ∙ by (first_place test xs)
  where
    by : (found : Option ℕ) → option_map (λ place. 0 + place) found ≡ found
    by None = refl
    by (Some place) = ap Some (omega arith)

-- ---- the first method of a name

abbrev has_name : Name → Member → Bool
has_name name member = bytes_eq name member.name

-- the first method of the name stands at this place, and is the first of its own name and descriptor
pub record IsFirstNamed (name : Name) (members : List Member) (place : ℕ) : Type 0 where
  pub member : Member
  pub own_name : name ≡ member.name
  pub stands : slice_get members place ≡ Some member
  pub is : first_named name members ≡ Some member
  pub first : member_place member.name member.desc members ≡ Some place

first_named_at : (name : Name) (members : List Member) → first_named name members ≡ option_and_then (slice_get members) (first_place (has_name name) members)
first_named_at name members = first_at (has_name name) (first_named name) refl (λ member rest. refl) members

-- the first member of a name is the first of its own name and descriptor
own_place : (name desc : List ℕ) (members : List Member) (place : ℕ) (member : Member) → first_place (has_name name) members ≡ Some place → slice_get members place ≡ Some member → member.desc ≡ desc → member_place name desc members ≡ Some place
own_place name desc [] place member is there same = absurd cc
own_place name desc (first ∷ members) place member is there same = by (has_name name first) refl (first_place (has_name name) members) (λ at. own_place name desc members at member) is
  where
    by : (test : Bool) → has_name name first ≡ test → (later : Option ℕ) → ((at : ℕ) → later ≡ Some at → slice_get members at ≡ Some member → member.desc ≡ desc → member_place name desc members ≡ Some at) → cond test (Some 0) (option_map (λ at. at + 1) later) ≡ Some place → member_place name desc (first ∷ members) ≡ Some place
    by true here later more is =
        let front : place ≡ 0 = cc in
        let own : first ≡ member = same_Some first member (sym (ap (slice_get (first ∷ members)) front) ∙ there) in
        ap (λ test. cond test (Some 0) (option_map (λ at. at + 1) (member_place name desc members))) (and_from _ _ here ((bytes_eq-Decides desc first.desc).1 (sym (ap (λ (m : Member). m.desc) own ∙ same))))
        ∙ ap Some (sym front)
    by false other None more is = absurd cc
    by false other (Some at) more is =
        let behind : place ≡ at + 1 = cc in
        let next : place ≡ suc at = omega (arith, behind) in
        ap (λ test. cond test (Some 0) (option_map (λ at. at + 1) (member_place name desc members))) (and_left _ _ other)
        ∙ ap (option_map (λ at. at + 1)) (more at refl (sym (ap (slice_get (first ∷ members)) next) ∙ there) same) ∙ ap Some (sym behind)

pub named_at : (name : Name) (members : List Member) (place : ℕ) → first_place (has_name name) members ≡ Some place → IsFirstNamed name members place
named_at name members place is =
    let passes = first_passes (has_name name) members place is in
    let same = (bytes_eq-Decides name passes.item.name).0 passes.passes in
    record {
      member = passes.item;
      own_name = same;
      stands = passes.there;
      is = first_named_at name members ∙ ap (option_and_then (slice_get members)) is ∙ passes.there;
      first = subst (λ (n : Name). member_place n passes.item.desc members ≡ Some place) same (own_place name passes.item.desc members place passes.item is passes.there refl);
    }

pub none_named : (name : Name) (members : List Member) → first_place (has_name name) members ≡ None → first_named name members ≡ None
none_named name members is = first_named_at name members ∙ ap (option_and_then (slice_get members)) is

pub named_within : (name : Name) (members : List Member) (found : Option ℕ) → found ≡ first_place (has_name name) members → IfSome found (λ place. place < length members)
named_within name members None is = tt
named_within name members (Some place) is =
    let named = named_at name members place (sym is) in
    slice_get_within members place named.member named.stands

-- ---- what the search answers

pub named_found : (headers : Headers) (place : Place) (header : Header) (name : Name) (number : ℕ) (method : Member) → header_at headers place ≡ Some header → first_place (has_name name) header.methods ≡ Some number → slice_get header.methods number ≡ Some method → AreSame (IsMethodFound headers) (Some (record { place = place; member = number; flags = method.flags })) (option_map (declared_by header.name) (first_named name header.methods))
named_found headers place header name number method at is stands =
    let named = named_at name header.methods number is in
    let same = same_Some named.member method (sym named.stands ∙ stands) in
    subst (λ (o : Option Member). AreSame (IsMethodFound headers) (Some (record { place = place; member = number; flags = method.flags })) (option_map (declared_by header.name) o)) (sym (named.is ∙ ap Some same)) (record {
      header = header;
      at = at;
      own_class = refl;
      stands = stands;
      first = subst (λ (m : Member). member_place m.name m.desc header.methods ≡ Some number) same named.first;
      same_flags = refl;
    })

pub named_missing : (headers : Headers) (header : Header) (name : Name) → first_place (has_name name) header.methods ≡ None → AreSame (IsMethodFound headers) None (option_map (declared_by header.name) (first_named name header.methods))
named_missing headers header name none =
    subst (λ (o : Option Member). AreSame (IsMethodFound headers) None (option_map (declared_by header.name) o)) (sym (none_named name header.methods none)) tt
