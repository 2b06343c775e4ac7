-- The fields of a class, class by class from the highest.
use Rattle.std.proofs.Common.{◌≡◌, ◌≢◌, ◌+◌, ◌<◌, ◌≤◌, not, ℕ, zero, suc, Bool, true, false, cond, List, [], ◌∷◌, ◌++◌, bytes_eq, length, map, reverse, take, slice_get, Option, Some, None, option_and_then, option_map, refl, sym, ap, subst, ◌∙◌, append_assoc, append-nil, arith}
use Rattle.std.specs.List.{filter, flat_map}
use Rattle.std.proofs.lemmas.List.{map-append, reverse-append}
use Rattle.class_model.specs.Laws.Lists.{take_item}
use Rattle.class_model.specs.Members.{has, STATIC}
use Rattle.class_model.specs.declared.header.Header.{Header}
use Rattle.class_model.specs.declared.header.Member.{Member}
use Rattle.class_tree.specs.Headers.{Headers, Name, all_headers, class_named, named}
use Rattle.class_tree.specs.Hierarchy.{IsHierarchy, climb, height, superclass_of}
use Rattle.class_tree.specs.Laws.FirstPlaces.{first_at}
use Rattle.class_tree.specs.Laws.Headers.{superclass_is}
use Rattle.class_tree.specs.Layouts.{classes_up, own_fields, superclasses}
use Rattle.class_tree.specs.Order.{first_place, place_of}
use Rattle.class_tree.specs.Subtype.{IsChain, below, root}
use Rattle.class_tree.specs.declared.place.Place.{Place}
use Rattle.class_tree.specs.declared.place.Place.TheVariants.{Folder, Library}
use Rattle.field_constructors.specs.Laws.OwnFields.{has_name, named_first}

-- ---- a class of a library

first_none : (headers : Headers) (name : Name) → ((number : ℕ) → place_of headers name ≢ Some (Folder number)) → first_place (has_name name) headers.folder ≡ None
first_none headers name never = by (first_place (has_name name) headers.folder) refl where
  by : (found : Option ℕ) → first_place (has_name name) headers.folder ≡ found → first_place (has_name name) headers.folder ≡ None
  by None none = none
  by (Some place) some = absurd (never place (rw some refl))

pub library_fields : (headers : Headers) (name : Name)
    → ((number : ℕ) → place_of headers name ≢ Some (Folder number))
    → own_fields headers name ≡ []
library_fields headers name never =
    let none : named name headers.folder ≡ None =
    named_first name headers.folder ∙ ap (option_and_then (slice_get headers.folder)) (first_none headers name never) in
    rw none refl

-- ---- the superclasses of a class

climb_low : (headers : Headers) (fuel : ℕ) (next : Option Place) → climb headers fuel next ≤ fuel
unfolding climb
climb_low headers zero next = omega arith
climb_low headers (suc fuel) None = omega arith
climb_low headers (suc fuel) (Some place) = omega (arith, climb_low headers fuel (superclass_of headers place))

module _ (headers : Headers) (hierarchy : IsHierarchy headers) where
  is_high : (name : Name) (header : Header) → class_named headers name ≡ Some header → 0 < height headers (place_of headers name)
  is_high name header is =
      let stands = hierarchy.of_name name header is in
      let falls = hierarchy.falls stands.0 header stands.1.at in
      let some : 0 < height headers (Some stands.0) = omega (arith, falls) in
      subst (λ (p : Option Place). 0 < height headers p) (sym stands.1.is_place) some

  falls_to : (name above : Name) (header : Header) → class_named headers name ≡ Some header → header.super_name ≡ Some above
      → height headers (place_of headers above) < height headers (place_of headers name)
  falls_to name above header is some =
      let stands = hierarchy.of_name name header is in
      let falls = hierarchy.falls stands.0 header stands.1.at in
      let to_above = superclass_is headers stands.0 header stands.1.at above some in
      subst (λ (p : Option Place). height headers (place_of headers above) < height headers p) (sym stands.1.is_place)
      (subst (λ (p : Option Place). height headers p < height headers (Some stands.0)) to_above falls)

  chain_low : {name : Name} {names : List Name} → IsChain headers name names → length names ≤ height headers (place_of headers name)
  chain_low (root name header is none) = let high = is_high name header is in omega arith
  chain_low (below name above header names is some chain) =
      let rest = chain_low chain in let falls = falls_to name above header is some in omega arith

  chain_up : (fuel : ℕ) {name : Name} {names : List Name} → IsChain headers name names → length names ≤ fuel → classes_up headers fuel (Some name) ≡ names
  chain_up zero (root name header is none) few = absurd (omega (arith, few))
  chain_up zero (below name above header names is some chain) few = absurd (omega (arith, few))
  chain_up (suc fuel) (root name header is none) few = rw (is, none) (ap (λ (rest : List Name). name ∷ rest) (up_none fuel)) where
    up_none : (fuel : ℕ) → classes_up headers fuel None ≡ []
    up_none zero = refl
    up_none (suc fuel) = refl
  chain_up (suc fuel) (below name above header names is some chain) few =
      rw (is, some) (ap (λ (rest : List Name). name ∷ rest) (chain_up fuel chain (omega (arith, few))))

  pub chain_superclasses : {name : Name} {names : List Name} → IsChain headers name names → superclasses headers name ≡ names
  chain_superclasses {name} {names} chain =
      let low = chain_low chain in
      let most = climb_low headers (length (all_headers headers)) (place_of headers name) in
      chain_up (length (all_headers headers)) chain (omega (arith, low, most))

-- ---- class by class

abbrev descs_of : Headers → Name → List (List ℕ)
descs_of headers name = map (λ field. field.desc) (own_fields headers name)

abbrev pub descs_down : Headers → List Name → List (List ℕ)
descs_down headers names = map (λ field. field.desc) (flat_map (own_fields headers) (reverse names))

-- the highest ones are done, and the last of those that are left comes next
pub one_down : (headers : Headers) (front : List Name) (name : Name)
    → descs_down headers (front ++ name ∷ []) ≡ descs_of headers name ++ descs_down headers front
one_down headers front name =
    ap (λ (names : List Name). map (λ (field : Member). field.desc) (flat_map (own_fields headers) names)) (reverse-append front (name ∷ []))
    ∙ map-append (λ (field : Member). field.desc) (own_fields headers name) (flat_map (own_fields headers) (reverse front))

-- what is there, and the fields of those that are left, are all
pub record Descends (headers : Headers) (all : List (List ℕ)) (done : List (List ℕ)) (left : List Name) : Type 0 where
  pub goes_on : done ++ descs_down headers left ≡ all

pub descends_first : (headers : Headers) (names : List Name) → Descends headers (descs_down headers names) [] names
descends_first headers names = record { goes_on = refl }

pub descends_more : (headers : Headers) (all done more : List (List ℕ)) (front : List Name) (name : Name) (left : List Name)
    → left ≡ front ++ name ∷ []
    → more ≡ done ++ map (λ field. field.desc) (own_fields headers name)
    → Descends headers all done left
    → Descends headers all more front
descends_more headers all done more front name left is adds so_far = record {
  goes_on =
      ap (λ (descs : List (List ℕ)). descs ++ descs_down headers front) adds
      ∙ append_assoc done (descs_of headers name) (descs_down headers front)
      ∙ ap (λ (descs : List (List ℕ)). done ++ descs) (sym (one_down headers front name))
      ∙ ap (λ (names : List Name). done ++ descs_down headers names) (sym is)
      ∙ so_far.goes_on;
}

pub descends_all : (headers : Headers) (all done : List (List ℕ)) (left : List Name)
    → left ≡ []
    → Descends headers all done left
    → done ≡ all
descends_all headers all done left none so_far =
    sym (append-nil done) ∙ ap (λ (names : List Name). done ++ descs_down headers names) (sym none) ∙ so_far.goes_on

-- ---- the fields of a header

-- the descriptors of the instance fields among the first so many
abbrev pub instance_taken : List Member → ℕ → List (List ℕ)
instance_taken fields at = map (λ one. one.desc) (filter (λ one. not (has one.flags STATIC)) (take at fields))

field_taken : (fields : List Member) (at : ℕ) (field : Member)
    → slice_get fields at ≡ Some field
    → instance_taken fields (at + 1)
    ≡ map (λ one. one.desc) (filter (λ one. not (has one.flags STATIC)) (take at fields) ++ cond (not (has field.flags STATIC)) (field ∷ []) [])
field_taken fields at field is =
    ap (λ (list : List Member). map (λ (one : Member). one.desc) (filter (λ (one : Member). not (has one.flags STATIC)) list)) (take_item fields at field is)
    ∙ ap (map (λ (one : Member). one.desc)) (filtered_last (take at fields))
  where
    filtered_last : (items : List Member) → filter (λ (one : Member). not (has one.flags STATIC)) (items ++ field ∷ []) ≡ filter (λ (one : Member). not (has one.flags STATIC)) items ++ filter (λ (one : Member). not (has one.flags STATIC)) (field ∷ [])
    filtered_last [] = refl
    filtered_last (first ∷ items) = by (not (has first.flags STATIC)) (filtered_last items) where
      by : (passes : Bool)
          → filter (λ (one : Member). not (has one.flags STATIC)) (items ++ field ∷ []) ≡ filter (λ (one : Member). not (has one.flags STATIC)) items ++ filter (λ (one : Member). not (has one.flags STATIC)) (field ∷ [])
          → cond passes (first ∷ filter (λ (one : Member). not (has one.flags STATIC)) (items ++ field ∷ [])) (filter (λ (one : Member). not (has one.flags STATIC)) (items ++ field ∷ []))
          ≡ cond passes (first ∷ filter (λ (one : Member). not (has one.flags STATIC)) items) (filter (λ (one : Member). not (has one.flags STATIC)) items) ++ filter (λ (one : Member). not (has one.flags STATIC)) (field ∷ [])
      by true rest = ap (λ (list : List Member). first ∷ list) rest
      by false rest = rest

pub instance_more : (fields : List Member) (at : ℕ) (field : Member) (front : List (List ℕ))
    → slice_get fields at ≡ Some field
    → has field.flags STATIC ≡ false
    → (front ++ instance_taken fields at) ++ field.desc ∷ [] ≡ front ++ instance_taken fields (at + 1)
instance_more fields at field front is instance =
    append_assoc front (instance_taken fields at) (field.desc ∷ [])
    ∙ ap (λ (descs : List (List ℕ)). front ++ descs)
    (sym (field_taken fields at field is
    ∙ ap (λ (test : Bool). map (λ (one : Member). one.desc) (filter (λ (one : Member). not (has one.flags STATIC)) (take at fields) ++ cond (not test) (field ∷ []) [])) instance
    ∙ map-append (λ (one : Member). one.desc) (filter (λ (one : Member). not (has one.flags STATIC)) (take at fields)) (field ∷ [])))

pub static_more : (fields : List Member) (at : ℕ) (field : Member)
    → slice_get fields at ≡ Some field
    → has field.flags STATIC ≡ true
    → instance_taken fields at ≡ instance_taken fields (at + 1)
static_more fields at field is static =
    sym (field_taken fields at field is
    ∙ ap (λ (test : Bool). map (λ (one : Member). one.desc) (filter (λ (one : Member). not (has one.flags STATIC)) (take at fields) ++ cond (not test) (field ∷ []) [])) static
    ∙ ap (map (λ (one : Member). one.desc)) (append-nil (filter (λ (one : Member). not (has one.flags STATIC)) (take at fields))))
