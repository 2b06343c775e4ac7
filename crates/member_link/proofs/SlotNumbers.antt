-- The number of a field of an object, class by class upwards.
use Rattle.std.proofs.Common.{◌≡◌, ◌+◌, ◌-◌, ◌^◌, ◌<◌, ◌≤◌, ◌&&◌, min, ℕ, zero, suc, Bool, true, false, cond, List, [], ◌∷◌, ◌++◌, length, map, filter, reverse, bytes_eq, slice_get, count_by, Option, Some, None, IsSome, IfSome, is_some, option_map, option_and_then, refl, sym, ap, subst, ◌∙◌, arith, append_assoc}
use Rattle.std.specs.List.{flat_map, position_from}
use Rattle.std.proofs.lemmas.Bool.{false≢true}
use Rattle.std.proofs.lemmas.List.{append-nil, reverse-append}
use Rattle.std.proofs.lemmas.List.Concat.{flat_map-cons}
use Rattle.std.proofs.lemmas.List.Sums.{length-filter}
use Rattle.std.proofs.lemmas.Option.{none-some, same_Some}
use Rattle.class_model.specs.declared.header.Header.{Header}
use Rattle.class_model.specs.declared.header.Member.{Member}
use Rattle.class_tree.specs.Headers.{Name, Classes, Headers, all_headers, class_named, headers_of, named}
use Rattle.class_tree.specs.Hierarchy.{IsHierarchy, climb, height, superclass_of}
use Rattle.class_tree.specs.Laws.FirstPlaces.{first_at}
use Rattle.class_tree.specs.Laws.Headers.{class_there, header_there, no_superclass, super_is_there, superclass_is, superclass_there}
use Rattle.class_tree.specs.Layouts.{classes_up, own_fields, superclasses}
use Rattle.class_tree.specs.Names.{is_member}
use Rattle.class_tree.specs.Order.{first_place, header_at, place_of}
use Rattle.class_tree.specs.declared.place.Place.{Place}
use Rattle.class_tree.specs.declared.place.Place.TheVariants.{Folder, Library}
use Rattle.member_link.specs.Machine.Layouts.{capped, own_slots_in}
use Rattle.member_link.specs.Machine.Programs.{number_of_first, same_reference}
use Rattle.member_link.specs.References.{Reference}
use Rattle.member_link.specs.Inner.SlotWords.{is_of_object, own_number, slot_in}
use Rattle.member_link.specs.Laws.FirstNumbers.{from_start, number_in_back, number_in_front, number_of_mapped}
use Rattle.member_link.specs.Laws.FolderNumbers.{number_at, number_of_place}

-- ---- numbers up to a greatest

pub capped_added :
    (most count : ℕ) (found : Option ℕ)
    → capped most (option_map (λ n. count + n) (capped most found))
    ≡ capped most (option_map (λ n. count + n) found)
capped_added most count None = refl
capped_added most count (Some n) = ap Some (omega arith)

pub capped_below : (most n : ℕ) → n ≤ most → Some n ≡ capped most (Some n)
capped_below most n below = ap Some (omega arith)

-- ---- the fields of a class

module _ (headers : Headers) (field : Reference) where
  none_of_another :
      (name : Name) (fields : List Member)
      → bytes_eq field.class name ≡ false
      → number_of_first (λ (f : Member). bytes_eq field.class name && is_member field.name field.desc f) fields ≡ None
  none_of_another name [] other = refl
  none_of_another name (f ∷ fields) other =
      ap (λ (b : Bool). cond (b && is_member field.name field.desc f) (Some 0) (option_map suc (number_of_first (λ (f : Member). bytes_eq field.class name && is_member field.name field.desc f) fields))) other
      ∙ ap (option_map suc) (none_of_another name fields other)

  in_own :
      (name : Name) (fields : List Member)
      → bytes_eq field.class name ≡ true
      → number_of_first (λ (f : Member). bytes_eq field.class name && is_member field.name field.desc f) fields
      ≡ number_of_first (is_member field.name field.desc) fields
  in_own name [] same = refl
  in_own name (f ∷ fields) same =
      ap (λ (b : Bool). cond (b && is_member field.name field.desc f) (Some 0) (option_map suc (number_of_first (λ (f : Member). bytes_eq field.class name && is_member field.name field.desc f) fields))) same
      ∙ ap (λ (o : Option ℕ). cond (is_member field.name field.desc f) (Some 0) (option_map suc o)) (in_own name fields same)

  length_mapped : (name : Name) (fields : List Member) → length (map (λ (f : Member). let r : Reference = record { class = name; name = f.name; desc = f.desc } in r) fields) ≡ length fields
  length_mapped name [] = refl
  length_mapped name (f ∷ fields) = ap suc (length_mapped name fields)

  -- the first of a class that stands in the folder
  named_at :
      (name : Name) (list : List Header)
      → named name list ≡ option_and_then (slice_get list) (first_place (λ (header : Header). bytes_eq name header.name) list)
  named_at name list = first_at (λ (header : Header). bytes_eq name header.name) (named name) refl (λ header rest. refl) list

  module _ (hierarchy : IsHierarchy headers) where
    in_folder :
        (place : Place) (header : Header)
        → header_at headers place ≡ Some header
        → named header.name headers.folder ≡ option_and_then (slice_get headers.folder) (number_at (Some place))
    in_folder place header at =
        named_at header.name headers.folder
        ∙ ap (option_and_then (slice_get headers.folder)) (sym (number_of_place headers header.name) ∙ ap number_at (hierarchy.of_place place header at).is_place)

    -- a class of the library has none that are known
    pub none_of_library :
        (place : ℕ) (header : Header)
        → header_at headers (Library place) ≡ Some header
        → own_slots_in headers header.name ≡ []
    none_of_library place header at = rw (in_folder (Library place) header at) refl

    own_of_folder :
        (place : ℕ) (header : Header)
        → header_at headers (Folder place) ≡ Some header
        → own_slots_in headers header.name
        ≡ map (λ (f : Member). let r : Reference = record { class = header.name; name = f.name; desc = f.desc } in r) (filter is_of_object header.fields)
    own_of_folder place header at = rw (in_folder (Folder place) header at ∙ at) refl

    number_of_own :
        (place : ℕ) (header : Header)
        → header_at headers (Folder place) ≡ Some header
        → number_of_first (same_reference field) (own_slots_in headers header.name)
        ≡ number_of_first (λ (f : Member). bytes_eq field.class header.name && is_member field.name field.desc f) (filter is_of_object header.fields)
    number_of_own place header at =
        ap (number_of_first (same_reference field)) (own_of_folder place header at)
        ∙ sym (number_of_mapped (same_reference field) (λ (f : Member). let r : Reference = record { class = header.name; name = f.name; desc = f.desc } in r) (filter is_of_object header.fields))

    own_number_is :
        (place : ℕ) (header : Header)
        → header_at headers (Folder place) ≡ Some header
        → number_of_first (same_reference field) (own_slots_in headers header.name) ≡ own_number header field
    own_number_is place header at = number_of_own place header at ∙ by (bytes_eq field.class header.name) refl
      where
        by :
            (same : Bool)
            → bytes_eq field.class header.name ≡ same
            → number_of_first (λ (f : Member). bytes_eq field.class header.name && is_member field.name field.desc f) (filter is_of_object header.fields)
            ≡ cond same (position_from (is_member field.name field.desc) 0 (filter is_of_object header.fields)) None
        by false other = none_of_another header.name (filter is_of_object header.fields) other
        by true same =
            in_own header.name (filter is_of_object header.fields) same
            ∙ sym (from_start (is_member field.name field.desc) (filter is_of_object header.fields))

    -- it is one of the class
    pub number_found :
        (place : ℕ) (header : Header) (back : List Reference) (own : ℕ)
        → header_at headers (Folder place) ≡ Some header
        → own_number header field ≡ Some own
        → number_of_first (same_reference field) (own_slots_in headers header.name ++ back) ≡ Some own
    number_found place header back own at found =
        number_in_front (same_reference field) (own_slots_in headers header.name) back own (own_number_is place header at ∙ found)

    -- it is none of the class
    pub number_behind :
        (place : ℕ) (header : Header) (back : List Reference)
        → header_at headers (Folder place) ≡ Some header
        → own_number header field ≡ None
        → number_of_first (same_reference field) (own_slots_in headers header.name ++ back)
        ≡ option_map (λ (n : ℕ). count_by is_of_object header.fields + n) (number_of_first (same_reference field) back)
    number_behind place header back at none =
        number_in_back (same_reference field) (own_slots_in headers header.name) back (own_number_is place header at ∙ none)
        ∙ ap (λ (len : ℕ). option_map (λ (n : ℕ). len + n) (number_of_first (same_reference field) back))
        (ap length (own_of_folder place header at) ∙ length_mapped header.name (filter is_of_object header.fields) ∙ length-filter is_of_object header.fields)

    -- ---- upwards

    -- the superclass by its place
    super_named :
        (place : Place) (header : Header)
        → header_at headers place ≡ Some header
        → option_and_then (λ (place : Place). option_map (λ (header : Header). header.name) (header_at headers place)) (superclass_of headers place)
        ≡ header.super_name
    super_named place header at = by header.super_name refl
      where
        by :
            (super : Option Name)
            → header.super_name ≡ super
            → option_and_then (λ (place : Place). option_map (λ (header : Header). header.name) (header_at headers place)) (superclass_of headers place) ≡ super
        by None none = ap (option_and_then (λ (place : Place). option_map (λ (header : Header). header.name) (header_at headers place))) (no_superclass headers place header at none)
        by (Some name) some =
            let class = class_there headers name (super_is_there headers header name (hierarchy.above header.name header (hierarchy.of_place place header at).found) some) in
            let stands = hierarchy.of_name name class.0 class.1 in
            ap (option_and_then (λ (place : Place). option_map (λ (header : Header). header.name) (header_at headers place))) (superclass_is headers place header at name some ∙ stands.1.is_place)
            ∙ ap (option_map (λ (header : Header). header.name)) stands.1.at
            ∙ ap Some stands.1.own_name

    -- the classes so far, and those that are left
    pub record Climbed (most : ℕ) (name : Name) (next : Option Place) (number : Option ℕ) : Type 0 where
      pub seen : List Name
      pub left : ℕ
      pub whole :
          superclasses headers name
          ≡ seen ++ classes_up headers left (option_and_then (λ (place : Place). option_map (λ (header : Header). header.name) (header_at headers place)) next)
      pub enough : height headers next ≤ left
      pub there : IfSome next (λ place. IsSome (header_at headers place))
      pub numbered : number ≡ capped most (slot_in headers field seen)

    fits : (fuel : ℕ) (next : Option Place) → climb headers fuel next ≤ fuel
    unfolding climb
    fits zero next = omega arith
    fits (suc fuel) None = omega arith
    fits (suc fuel) (Some place) = omega (arith, fits fuel (superclass_of headers place))

    none_left : (fuel : ℕ) → climb headers fuel None ≤ 0
    unfolding climb
    none_left zero = omega arith
    none_left (suc fuel) = omega arith

    none_up : (left : ℕ) → classes_up headers left None ≡ []
    none_up zero = refl
    none_up (suc left) = refl

    absent_in_front : (name : Name) (front back : List Header) → named name (front ++ back) ≡ None → named name front ≡ None
    absent_in_front name [] back none = refl
    absent_in_front name (first ∷ front) back none = by (bytes_eq name first.name) (absent_in_front name front back) none
      where
        by :
            (test : Bool)
            → (named name (front ++ back) ≡ None → named name front ≡ None)
            → cond test (Some first) (named name (front ++ back)) ≡ None
            → cond test (Some first) (named name front) ≡ None
        by true later none = absurd cc
        by false later none = later none

    -- a class that is not there has none
    none_of_absent : (name : Name) (fuel : ℕ) → class_named headers name ≡ None → slot_in headers field (classes_up headers fuel (Some name)) ≡ None
    none_of_absent name zero absent = refl
    none_of_absent name (suc fuel) absent =
        let up : classes_up headers (suc fuel) (Some name) ≡ name ∷ [] = rw absent (ap (λ (rest : List Name). name ∷ rest) (none_up fuel)) in
        let own : own_slots_in headers name ≡ [] = rw (absent_in_front name headers.folder headers.library absent) refl in
        ap (slot_in headers field) up
        ∙ ap (number_of_first (same_reference field)) (flat_map-cons (own_slots_in headers) name [] ∙ ap (λ (slots : List Reference). slots ++ flat_map (own_slots_in headers) []) own)

    pub climbed_start :
        (most : ℕ) (name : Name) (start : Option Place)
        → start ≡ place_of headers name
        → Climbed most name start None
    climbed_start most name None is = record {
      seen = superclasses headers name;
      left = 0;
      whole = sym (append-nil (superclasses headers name));
      enough = none_left (length (all_headers headers));
      there = tt;
      numbered = ap (capped most) (sym (none_of_absent name (length (all_headers headers)) (hierarchy.absent name (sym is))));
    }
    climbed_start most name (Some place) is =
        let stands = hierarchy.placed name place (sym is) in
        record {
          seen = [];
          left = length (all_headers headers);
          whole = ap (classes_up headers (length (all_headers headers))) (sym (ap (option_map (λ (header : Header). header.name)) stands.1.at ∙ ap Some stands.1.own_name));
          enough = fits (length (all_headers headers)) (Some place);
          there = ap is_some stands.1.at;
          numbered = refl;
        }

    pub climbed_more :
        (most : ℕ) (name : Name) (place : Place) (number after : Option ℕ) (header : Header)
        → header_at headers place ≡ Some header
        → ((slots : List Reference)
        → number ≡ capped most (number_of_first (same_reference field) slots)
        → after ≡ capped most (number_of_first (same_reference field) (own_slots_in headers header.name ++ slots)))
        → Climbed most name (Some place) number
        → Climbed most name (superclass_of headers place) after
    climbed_more most name place number after header at own climbed = by climbed.left climbed.whole climbed.enough
      where
        by :
            (left : ℕ)
            → superclasses headers name
            ≡ climbed.seen ++ classes_up headers left (option_map (λ (header : Header). header.name) (header_at headers place))
            → height headers (Some place) ≤ left
            → Climbed most name (superclass_of headers place) after
        by zero whole enough = absurd (let falls = hierarchy.falls place header at in omega arith)
        by (suc left) whole enough =
            let up : classes_up headers (suc left) (Some header.name) ≡ header.name ∷ classes_up headers left header.super_name = rw ((hierarchy.of_place place header at).found) refl in
            let next = option_and_then (λ (place : Place). option_map (λ (header : Header). header.name) (header_at headers place)) (superclass_of headers place) in
            record {
              seen = climbed.seen ++ header.name ∷ [];
              left = left;
              whole =
                  whole
                  ∙ ap (λ (n : Option Name). climbed.seen ++ classes_up headers (suc left) n) (ap (option_map (λ (header : Header). header.name)) at)
                  ∙ ap (λ (rest : List Name). climbed.seen ++ rest) (up ∙ ap (λ (n : Option Name). header.name ∷ classes_up headers left n) (sym (super_named place header at)))
                  ∙ sym (append_assoc climbed.seen (header.name ∷ []) (classes_up headers left next));
              enough = (let falls = hierarchy.falls place header at in omega arith);
              there = superclass_there headers place;
              numbered =
                  own (flat_map (own_slots_in headers) (reverse climbed.seen)) climbed.numbered
                  ∙ ap (λ (slots : List Reference). capped most (number_of_first (same_reference field) slots))
                  (sym (ap (flat_map (own_slots_in headers)) (reverse-append climbed.seen (header.name ∷ [])) ∙ flat_map-cons (own_slots_in headers) header.name (reverse climbed.seen)));
            }

    pub climbed_all :
        (most : ℕ) (name : Name) (number : Option ℕ)
        → Climbed most name None number
        → number ≡ capped most (slot_in headers field (superclasses headers name))
    climbed_all most name number climbed =
        climbed.numbered
        ∙ ap (λ (names : List Name). capped most (slot_in headers field names))
        (sym (climbed.whole ∙ ap (λ (rest : List Name). climbed.seen ++ rest) (none_up climbed.left) ∙ append-nil climbed.seen))

-- ---- the loop

-- of each class that stands at the first place
pub record IsClimbing (headers : Headers) (field : Reference) (class next : Option Place) (number : Option ℕ) : Type 0 where
  pub there : IfSome next (λ place. IsSome (header_at headers place))
  pub climbed :
      (name : Name) (hierarchy : IsHierarchy headers)
      → class ≡ place_of headers name
      → Climbed headers field hierarchy (2 ^ 64 - 1) name next number

pub climbing_start :
    (headers : Headers) (field : Reference) (class : Option Place)
    → IfSome class (λ place. IsSome (header_at headers place))
    → IsClimbing headers field class class None
climbing_start headers field class there = record {
  there = there;
  climbed = λ name hierarchy is. climbed_start headers field hierarchy (2 ^ 64 - 1) name class is;
}

pub climbing_more :
    (headers : Headers) (field : Reference) (class : Option Place) (place : Place) (number after : Option ℕ)
    → ((header : Header) (slots : List Reference)
    → header_at headers place ≡ Some header
    → number ≡ capped (2 ^ 64 - 1) (number_of_first (same_reference field) slots)
    → after ≡ capped (2 ^ 64 - 1) (number_of_first (same_reference field) (own_slots_in headers header.name ++ slots)))
    → IsClimbing headers field class (Some place) number
    → IsClimbing headers field class (superclass_of headers place) after
climbing_more headers field class place number after own climbing =
    let header = header_there headers place climbing.there in
    record {
      there = superclass_there headers place;
      climbed = λ name hierarchy is.
          climbed_more headers field hierarchy (2 ^ 64 - 1) name place number after header.0 header.1 (λ slots. own header.0 slots header.1) (climbing.climbed name hierarchy is);
    }

pub climbing_all :
    (headers : Headers) (field : Reference) (class : Option Place) (number : Option ℕ)
    → IsHierarchy headers
    → IsClimbing headers field class None number
    → (name : Name)
    → class ≡ place_of headers name
    → number ≡ capped (2 ^ 64 - 1) (slot_in headers field (superclasses headers name))
climbing_all headers field class number hierarchy climbing name is =
    climbed_all headers field hierarchy (2 ^ 64 - 1) name number (climbing.climbed name hierarchy is)
