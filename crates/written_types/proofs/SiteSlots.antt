-- A field of an object that a class of the folder declares has a number among the fields of each class at or below it.
use Rattle.std.proofs.Common.{◌≡◌, ◌⊎◌, ◌≤◌, ℕ, zero, suc, Bool, true, false, List, [], ◌∷◌, ◌++◌, length, map, reverse, Option, Some, None, IsFalse, refl, sym, ap, subst, ◌∙◌, inl, inr, arith}
use Rattle.std.specs.Prelude.{bytes_eq, filter, not, if◌then◌else◌}
use Rattle.std.specs.List.{flat_map}
use Rattle.std.proofs.lemmas.Bool.{and_parts}
use Rattle.std.proofs.lemmas.List.{reverse-append}
use Rattle.std.proofs.lemmas.Option.{none-some, same_Some}
use Rattle.std.proofs.lemmas.Slice.Eq.{bytes_eq-Decides}
use Rattle.class_model.specs.Members.{STATIC, has}
use Rattle.class_model.specs.declared.header.Header.{Header}
use Rattle.class_model.specs.declared.header.Member.{Member}
use Rattle.class_tree.specs.Headers.{Headers, IsThere, Name, all_headers, class_named, named}
use Rattle.class_tree.specs.Hierarchy.{IsHierarchy, climb, height, superclass_of}
use Rattle.class_tree.specs.Laws.Above.{class_is_climbed, hierarchy_is_rooted, hierarchy_is_sound, low_is_there}
use Rattle.class_tree.specs.Laws.Headers.{class_there, superclass_is}
use Rattle.class_tree.specs.Layouts.{classes_up, own_fields, superclasses}
use Rattle.class_tree.specs.Names.{is_interface, is_member}
use Rattle.class_tree.specs.Order.{place_of}
use Rattle.class_tree.specs.Subtype.{IsBelow}
use Rattle.class_tree.specs.declared.place.Place.{Place}
use Rattle.member_link.specs.DeclaredMembers.{declared}
use Rattle.member_link.specs.Machine.Layouts.{own_slots_in, slot_number_in, slots_in}
use Rattle.member_link.specs.Machine.Programs.{number_of_first, same_reference}
use Rattle.member_link.specs.References.{Reference}

-- ---- what is one of a list

abbrev pub IsIn : {A : Type 0} → A → List A → Type 0
IsIn x [] = ⊥
IsIn x (y ∷ ys) = (y ≡ x) ⊎ IsIn x ys

in_front : {A : Type 0} (x : A) (xs ys : List A) → IsIn x xs → IsIn x (xs ++ ys)
in_front x [] ys is = absurd is
in_front x (y ∷ xs) ys (inl same) = inl same
in_front x (y ∷ xs) ys (inr is) = inr (in_front x xs ys is)

in_back : {A : Type 0} (x : A) (xs ys : List A) → IsIn x ys → IsIn x (xs ++ ys)
in_back x [] ys is = is
in_back x (y ∷ xs) ys is = inr (in_back x xs ys is)

in_reverse : {A : Type 0} (x : A) (xs : List A) → IsIn x xs → IsIn x (reverse xs)
in_reverse x [] is = absurd is
in_reverse x (y ∷ xs) is = subst (IsIn x) (sym (reverse-append (y ∷ []) xs)) (by is (λ more. in_reverse x xs more)) where
  by : (y ≡ x) ⊎ IsIn x xs → (IsIn x xs → IsIn x (reverse xs)) → IsIn x (reverse xs ++ y ∷ [])
  by (inl same) others = in_back x (reverse xs) (y ∷ []) (inl same)
  by (inr more) others = in_front x (reverse xs) (y ∷ []) (others more)

in_map : {A B : Type 0} (f : A → B) (x : A) (xs : List A) → IsIn x xs → IsIn (f x) (map f xs)
in_map f x [] is = absurd is
in_map f x (y ∷ xs) (inl same) = inl (ap f same)
in_map f x (y ∷ xs) (inr is) = inr (in_map f x xs is)

in_filter : {A : Type 0} (keeps : A → Bool) (x : A) (xs : List A) → keeps x ≡ true → IsIn x xs → IsIn x (filter keeps xs)
in_filter keeps x [] kept is = absurd is
in_filter keeps x (y ∷ xs) kept is = by (keeps y) refl is (λ more. in_filter keeps x xs kept more) where
  by : (b : Bool) → keeps y ≡ b → (y ≡ x) ⊎ IsIn x xs → (IsIn x xs → IsIn x (filter keeps xs)) → IsIn x (filter keeps (y ∷ xs))
  by true e (inl same) others = rw e (inl same)
  by true e (inr more) others = rw e (inr (others more))
  by false e (inl same) others = let no : true ≡ false = sym kept ∙ sym (ap keeps same) ∙ e in cc
  by false e (inr more) others = rw e (others more)

in_flat_map : {A B : Type 0} (f : A → List B) (x : A) (y : B) (xs : List A) → IsIn x xs → IsIn y (f x) → IsIn y (flat_map f xs)
in_flat_map f x y [] is also = absurd is
in_flat_map f x y (z ∷ xs) (inl same) also = in_front y (f z) (flat_map f xs) (subst (λ a. IsIn y (f a)) (sym same) also)
in_flat_map f x y (z ∷ xs) (inr is) also = in_back y (f z) (flat_map f xs) (in_flat_map f x y xs is also)

-- the first that passes
one_passes : {A : Type 0} (passes : A → Bool) (x : A) (xs : List A) → passes x ≡ true → IsIn x xs
    → (n : ℕ) × (number_of_first passes xs ≡ Some n)
one_passes passes x [] holds is = absurd is
one_passes passes x (y ∷ xs) holds is = by (passes y) refl is (λ more. one_passes passes x xs holds more) where
  by : (b : Bool) → passes y ≡ b → (y ≡ x) ⊎ IsIn x xs → (IsIn x xs → (n : ℕ) × (number_of_first passes xs ≡ Some n))
      → (n : ℕ) × (number_of_first passes (y ∷ xs) ≡ Some n)
  by true e is others = (zero, rw e refl)
  by false e (inl same) others = let no : true ≡ false = sym holds ∙ sym (ap passes same) ∙ e in cc
  by false e (inr more) others = let o = others more in (suc o.0, rw e (rw (o.1) refl))

-- ---- a member that is declared

pub declared_in : (name desc : List ℕ) (members : List Member) (member : Member) → declared name desc members ≡ Some member
    → IsIn member members × (member.name ≡ name) × (member.desc ≡ desc)
declared_in name desc [] member is = absurd (none-some member is)
declared_in name desc (first ∷ members) member is = by (is_member name desc first) refl is (λ e. declared_in name desc members member e) where
  Found : List Member → Type 0
  Found all = IsIn member all × (member.name ≡ name) × (member.desc ≡ desc)

  by : (b : Bool) → is_member name desc first ≡ b → (if b then Some first else declared name desc members) ≡ Some member
      → (declared name desc members ≡ Some member → IsIn member members × (member.name ≡ name) × (member.desc ≡ desc))
      → IsIn member (first ∷ members) × (member.name ≡ name) × (member.desc ≡ desc)
  by true e found others =
      let same = same_Some first member found in
      let parts = and_parts (bytes_eq name first.name) (bytes_eq desc first.desc) e in (
        inl same,
        ap (λ (m : Member). m.name) (sym same) ∙ sym ((bytes_eq-Decides name first.name).0 parts.0),
        ap (λ (m : Member). m.desc) (sym same) ∙ sym ((bytes_eq-Decides desc first.desc).0 parts.1),
      )
  by false e found others = let rest = others found in (inr rest.0, rest.1, rest.2)

-- ---- a class among those above another

fits : (hs : Headers) (fuel : ℕ) (next : Option Place) → climb hs fuel next ≤ fuel
unfolding climb
fits hs zero next = omega arith
fits hs (suc fuel) None = omega arith
fits hs (suc fuel) (Some place) = omega (arith, fits hs fuel (superclass_of hs place))

-- a class is among those upwards of each class at or below it, followed so often
abbrev Reaches : Headers → ℕ → Name → Type 0
Reaches hs fuel high =
    (name : Name) (header : Header) → class_named hs name ≡ Some header → (name ≡ high) ⊎ IsBelow hs name high → height hs (place_of hs name) ≤ fuel
    → IsIn high (classes_up hs fuel (Some name))

-- upwards of a class to one that is no interface
climbs : (hs : Headers) → IsHierarchy hs → (fuel : ℕ) (low high : Name) (header above : Header) → class_named hs low ≡ Some header
    → class_named hs high ≡ Some above → IsFalse (is_interface above)
    → (low ≡ high) ⊎ IsBelow hs low high → height hs (place_of hs low) ≤ fuel → IsIn high (classes_up hs fuel (Some low))
climbs hs hierarchy zero low high header above is above_is kind up enough =
    let stands = hierarchy.of_name low header is in
    let falls = hierarchy.falls stands.0 header stands.1.at in
    let none : height hs (Some stands.0) ≤ 0 = subst (λ p. height hs p ≤ 0) stands.1.is_place enough in
    absurd (omega (arith, falls, none))
climbs hs hierarchy (suc fuel) low high header above is above_is kind (inl same) enough = inl same
climbs hs hierarchy (suc fuel) low high header above is above_is kind (inr up) enough =
    let sound = hierarchy_is_sound hs hierarchy in
    let next = class_is_climbed hs sound (hierarchy_is_rooted hs hierarchy) up header above is above_is kind in
    let stands = hierarchy.of_name low header is in
    let falls = hierarchy.falls stands.0 header stands.1.at in
    let now : height hs (Some stands.0) ≤ suc fuel = subst (λ p. height hs p ≤ suc fuel) stands.1.is_place enough in
    let left : height hs (place_of hs next.0) ≤ fuel =
    subst (λ p. height hs p ≤ fuel) (superclass_is hs stands.0 header stands.1.at next.0 next.1) (omega (arith, falls, now)) in
    let others : Reaches hs fuel high =
    λ name h named more few. climbs hs hierarchy fuel name high h above named above_is kind more few in
    inr (rw is (rw (next.1) (further others next.0 next.2 left))) where
      further : Reaches hs fuel high
          → (name : Name) → (name ≡ high) ⊎ IsBelow hs name high → height hs (place_of hs name) ≤ fuel → IsIn high (classes_up hs fuel (Some name))
      further others name (inl same) left = others name above (subst (λ n. class_named hs n ≡ Some above) (sym same) above_is) (inl same) left
      further others name (inr more) left = let c = class_there hs name (low_is_there more) in others name c.0 c.1 (inr more) left

among_superclasses : (hs : Headers) → IsHierarchy hs → (low high : Name) (above : Header) → IsThere hs low → class_named hs high ≡ Some above
    → IsFalse (is_interface above)
    → (low ≡ high) ⊎ IsBelow hs low high → IsIn high (superclasses hs low)
among_superclasses hs hierarchy low high above is_there is kind up =
    let c = class_there hs low is_there in
    climbs hs hierarchy (length (all_headers hs)) low high c.0 above c.1 is kind up (fits hs (length (all_headers hs)) (place_of hs low))

-- ---- the number of a field

-- the field is one of an object, and a class of the folder that is no interface declares it
pub record FolderField (hs : Headers) (field : Reference) : Type 0 where
  pub header : Header
  pub found : class_named hs field.class ≡ Some header
  pub in_folder : named field.class hs.folder ≡ Some header
  pub member : Member
  pub declares : declared field.name field.desc header.fields ≡ Some member
  pub of_object : has member.flags STATIC ≡ false
  pub no_interface : is_interface header ≡ false

same_itself : (r : Reference) → same_reference r r ≡ true
same_itself r =
    rw ((bytes_eq-Decides r.class r.class).1 refl) (rw ((bytes_eq-Decides r.name r.name).1 refl) ((bytes_eq-Decides r.desc r.desc).1 refl))

abbrev slot_in : Name → Member → Reference
slot_in name member = record { class = name; name = member.name; desc = member.desc }

pub slot_there : (hs : Headers) → IsHierarchy hs → (name : Name) (field : Reference) → FolderField hs field → IsThere hs name
    → (name ≡ field.class) ⊎ IsBelow hs name field.class
    → (n : ℕ) × (slot_number_in hs name field ≡ Some n)
slot_there hs hierarchy name field f there up =
    let above = among_superclasses hs hierarchy name field.class f.header there f.found f.no_interface up in
    let d = declared_in field.name field.desc f.header.fields f.member f.declares in
    let own : IsIn f.member (own_fields hs field.class) =
    rw (f.in_folder) (in_filter (λ (m : Member). not (has m.flags STATIC)) f.member f.header.fields (ap not f.of_object) d.0) in
    let slot : IsIn (slot_in field.class f.member) (own_slots_in hs field.class) = in_map (slot_in field.class) f.member (own_fields hs field.class) own in
    let same : IsIn field (own_slots_in hs field.class) =
    subst (λ (x : List ℕ). IsIn (record field { desc = x }) (own_slots_in hs field.class)) d.2
    (subst (λ (x : List ℕ). IsIn (record field { name = x; desc = f.member.desc }) (own_slots_in hs field.class)) d.1 slot) in
    let is_in : IsIn field (slots_in hs name) =
    in_flat_map (own_slots_in hs) field.class field (reverse (superclasses hs name)) (in_reverse field.class (superclasses hs name) above) same in
    one_passes (same_reference field) field (slots_in hs name) (same_itself field) is_in
