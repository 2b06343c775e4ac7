-- The instance fields of a class by the places of the class and its superclasses.
use Rattle.std.proofs.Common.{◌≡◌, ◌<◌, ◌≤◌, ℕ, zero, suc, List, [], ◌∷◌, ◌++◌, length, reverse, bytes_eq, slice_get, Option, Some, None, option_map, option_and_then, refl, sym, ap, subst, ◌∙◌, arith}
use Rattle.std.specs.List.{flat_map}
use Rattle.std.proofs.lemmas.List.{append-nil, map-append, reverse-append}
use Rattle.std.proofs.lemmas.List.Concat.{flat_map-append}
use Rattle.class_model.specs.Laws.Lists.{none_behind}
use Rattle.class_model.specs.declared.header.Header.{Header}
use Rattle.class_model.specs.declared.header.Member.{Member}
use Rattle.class_tree.specs.Headers.{Name, Headers, all_headers, named, class_named}
use Rattle.class_tree.specs.Hierarchy.{IsHierarchy, StandsAt, climb, height, superclass_of}
use Rattle.class_tree.specs.Laws.FirstPlaces.{first_at}
use Rattle.class_tree.specs.Laws.Headers.{class_there, no_superclass, super_is_there, superclass_is}
use Rattle.class_tree.specs.Layouts.{classes_up, instance_fields, own_fields}
use Rattle.class_tree.specs.Order.{first_place, header_at, place_of}
use Rattle.class_tree.specs.declared.place.Place.{Place}
use Rattle.class_tree.specs.declared.place.Place.TheVariants.{Folder, Library}
use Rattle.machine_values.specs.Values.{blank_value, blank_values}
use Rattle.machine_values.specs.declared.value.Value.{Value}
use Rattle.machine_heap.specs.Blanks.{blank_object}
use Rattle.machine_heap.specs.Inner.Climbs.{Climbs, blanks_at, blanks_up, fields_at}

-- ---- the loops

-- one more place
pub climb_more : (headers : Headers) (from : Option Place) (places : List Place) (place : Place) → Climbs headers from places (Some place) → Climbs headers from (places ++ place ∷ []) (superclass_of headers place)
climb_more headers from [] place climbs = (climbs, refl)
climb_more headers from (first ∷ places) place climbs = (climbs.0, climb_more headers (superclass_of headers first) places place climbs.1)

-- ---- the own fields of a class

-- the class of a name in a list is that at the first place
named_at : (name : Name) (headers : List Header) → named name headers ≡ option_and_then (slice_get headers) (first_place (λ header. bytes_eq name header.name) headers)
named_at name headers = first_at (λ header. bytes_eq name header.name) (named name) refl (λ header rest. refl) headers

-- the own fields of a class are found at its place
module _ (headers : Headers) (name : Name) where
  named_as : (found : Option ℕ) → first_place (λ header. bytes_eq name header.name) headers.folder ≡ found → named name headers.folder ≡ option_and_then (slice_get headers.folder) found
  named_as found is = named_at name headers.folder ∙ ap (option_and_then (slice_get headers.folder)) is

  own_in_folder : (class : ℕ) (header : Header) → slice_get headers.folder class ≡ Some header → (found : Option ℕ) → first_place (λ header. bytes_eq name header.name) headers.folder ≡ found → place_of headers name ≡ Some (Folder class) → own_fields headers name ≡ fields_at headers (Folder class)
  own_in_folder class header at (Some place) is placed =
      let same : Some (Folder place) ≡ Some (Folder class) = rw is at placed in
      let number : place ≡ class = cc in
      let found : named name headers.folder ≡ Some header = named_as (Some place) is ∙ ap (slice_get headers.folder) number ∙ at in
      rw (found, at) refl
  own_in_folder class header at None is placed = by (first_place (λ header. bytes_eq name header.name) headers.library) (rw is at placed)
    where
      by : (other : Option ℕ) → option_map Library other ≡ Some (Folder class) → own_fields headers name ≡ fields_at headers (Folder class)
      by None e = absurd cc
      by (Some place) e = absurd cc

  own_in_library : (class : ℕ) (found : Option ℕ) → first_place (λ header. bytes_eq name header.name) headers.folder ≡ found → place_of headers name ≡ Some (Library class) → own_fields headers name ≡ []
  own_in_library class (Some place) is placed = let e : Some (Folder place) ≡ Some (Library class) = rw is at placed in absurd cc
  own_in_library class None is placed = rw (named_as None is) refl

  pub own_at : (place : Place) (header : Header) → header_at headers place ≡ Some header → place_of headers name ≡ Some place → own_fields headers name ≡ fields_at headers place
  own_at (Folder class) header at placed = own_in_folder class header at (first_place (λ header. bytes_eq name header.name) headers.folder) refl placed
  own_at (Library class) header at placed = own_in_library class (first_place (λ header. bytes_eq name header.name) headers.folder) refl placed

-- ---- all fields

up_is : (headers : Headers) (fuel : ℕ) (name : Name) (header : Header) → class_named headers name ≡ Some header → classes_up headers (suc fuel) (Some name) ≡ name ∷ classes_up headers fuel header.super_name
up_is headers fuel name header is = rw is refl

up_none : (headers : Headers) (fuel : ℕ) → classes_up headers fuel None ≡ []
up_none headers zero = refl
up_none headers (suc fuel) = refl

-- what the fields of these classes hold, the last first
abbrev down : Headers → List Name → List Value
down headers names = blank_values (flat_map (own_fields headers) (reverse names))

down_more : (headers : Headers) (name : Name) (names : List Name) → down headers (name ∷ names) ≡ down headers names ++ blank_values (own_fields headers name)
down_more headers name names =
    ap (λ (all : List Name). blank_values (flat_map (own_fields headers) all)) (reverse-append (name ∷ []) names)
    ∙ ap blank_values (flat_map-append (own_fields headers) (reverse names) (name ∷ []))
    ∙ ap (λ (last : List Member). blank_values (flat_map (own_fields headers) (reverse names) ++ last)) (append-nil (own_fields headers name))
    ∙ map-append (λ field. blank_value field.desc) (flat_map (own_fields headers) (reverse names)) (own_fields headers name)

module _ (headers : Headers) (tree : IsHierarchy headers) where
  down_is : (fuel : ℕ) (places : List Place) (place : Place) (header : Header) → header_at headers place ≡ Some header → Climbs headers (Some place) places None → height headers (Some place) ≤ fuel → down headers (classes_up headers fuel (Some header.name)) ≡ blanks_up headers places
  down_is zero places place header at climbs low = absurd (omega (arith, low, tree.falls place header at))
  down_is (suc fuel) [] place header at climbs low = absurd cc
  down_is (suc fuel) (first ∷ places) place header at climbs low =
      ap (down headers) (up_is headers fuel header.name header stands.found)
      ∙ down_more headers header.name (classes_up headers fuel header.super_name)
      ∙ (λ i. above (down_is fuel) header.super_name refl i ++ own i)
    where
      stands : StandsAt headers header.name place header
      stands = tree.of_place place header at

      same : first ≡ place
      same = let e = climbs.0 in cc

      own : blank_values (own_fields headers header.name) ≡ blanks_at headers first
      own = ap blank_values (own_at headers header.name place header at stands.is_place) ∙ ap (blanks_at headers) (sym same)

      from : Climbs headers (superclass_of headers place) places None
      from = subst (λ (p : Place). Climbs headers (superclass_of headers p) places None) same climbs.1

      ended : (rest : List Place) → Climbs headers None rest None → rest ≡ []
      ended [] e = refl
      ended (one ∷ rest) e = let f = e.0 in absurd cc

      above : ((places : List Place) (place : Place) (header : Header) → header_at headers place ≡ Some header → Climbs headers (Some place) places None → height headers (Some place) ≤ fuel → down headers (classes_up headers fuel (Some header.name)) ≡ blanks_up headers places)
          → (super : Option Name) → header.super_name ≡ super → down headers (classes_up headers fuel super) ≡ blanks_up headers places
      above more None none =
          ap (down headers) (up_none headers fuel)
          ∙ ap (blanks_up headers) (sym (ended places (subst (λ (next : Option Place). Climbs headers next places None) (no_superclass headers place header at none) from)))
      above more (Some name) some =
          let there = class_there headers name (super_is_there headers header name (tree.above header.name header stands.found) some) in
          let placed = tree.of_name name there.0 there.1 in
          let up : superclass_of headers place ≡ Some placed.0 = superclass_is headers place header at name some ∙ placed.1.is_place in
          let falls = subst (λ (next : Option Place). height headers next < height headers (Some place)) up (tree.falls place header at) in
          ap (λ (n : Name). down headers (classes_up headers fuel (Some n))) (sym placed.1.own_name)
          ∙ more places placed.0 there.0 placed.1.at (subst (λ (next : Option Place). Climbs headers next places None) up from) (omega (arith, falls, low))

  climb_low : (fuel : ℕ) (next : Option Place) → climb headers fuel next ≤ fuel
  unfolding climb
  climb_low zero next = omega arith
  climb_low (suc fuel) None = omega arith
  climb_low (suc fuel) (Some place) = omega (arith, climb_low fuel (superclass_of headers place))

  pub climbed_blanks : (places : List Place) (place : Place) (header : Header) → header_at headers place ≡ Some header → Climbs headers (Some place) places None → blank_values (instance_fields headers header.name) ≡ blanks_up headers places
  climbed_blanks places place header at climbs = down_is (length (all_headers headers)) places place header at climbs (climb_low (length (all_headers headers)) (Some place))

  pub blank_object_is : (class : ℕ) (places : List Place) → class < length headers.folder → Climbs headers (Some (Folder class)) places None → blank_object headers class ≡ blanks_up headers places
  blank_object_is class places within climbs = by (slice_get headers.folder class) refl
    where
      by : (found : Option Header) → slice_get headers.folder class ≡ found → blank_object headers class ≡ blanks_up headers places
      by None at = absurd (omega (arith, within, none_behind headers.folder class at))
      by (Some header) at = rw at (climbed_blanks places (Folder class) header at climbs)
