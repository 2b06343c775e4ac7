-- The fields of an object of a class among those of an object of a class below it, by the members that they are.
use Rattle.std.proofs.Common.{◌≡◌, ◌≢◌, ◌⊎◌, inl, inr, ◌+◌, ◌++◌, ℕ, zero, suc, Bool, true, false, List, [], ◌∷◌, bytes_eq, length, map, reverse, slice_get, Some, None, option_map, IsFalse, refl, sym, ap, subst, ◌∙◌, append-nil}
use Rattle.std.specs.List.{AllByRecursion, flat_map}
use Rattle.std.proofs.lemmas.Bool.{and_parts}
use Rattle.std.proofs.lemmas.Grind.{flat_map-append}
use Rattle.std.proofs.lemmas.List.{append_assoc, length-append, length-map, reverse-append}
use Rattle.std.proofs.lemmas.Option.{none-some, same_Some}
use Rattle.std.proofs.lemmas.Slice.Eq.{bytes_eq-Decides}
use Rattle.class_model.specs.Laws.Lists.{at_index}
use Rattle.class_model.specs.declared.header.Header.{Header}
use Rattle.class_model.specs.declared.header.Member.{Member}
use Rattle.class_tree.specs.Headers.{Name, Headers, class_named}
use Rattle.class_tree.specs.Hierarchy.{IsHierarchy}
use Rattle.class_tree.specs.Laws.Above.{class_is_climbed, hierarchy_is_rooted, hierarchy_is_sound, nothing_above_object, object_no_superclass}
use Rattle.class_tree.specs.Layouts.{instance_fields, own_fields, superclasses}
use Rattle.class_tree.specs.Names.{is_interface, object}
use Rattle.class_tree.specs.Subtype.{IsBelow, IsDirectlyBelow, directly, onwards, superclass}
use Rattle.expanded_code.specs.Laws.SuperChains.{of_each_class, super_there, superclasses_is, superclasses_of_root}
use Rattle.member_link.specs.Laws.FirstNumbers.{number_in_back, number_in_front}
use Rattle.member_link.specs.Machine.Layouts.{own_slots_in, slot_number_in, slots_in}
use Rattle.member_link.specs.Machine.Programs.{number_of_first, same_reference}
use Rattle.member_link.specs.References.{Reference}
use Rattle.written_runs.specs.Laws.ApartFields.{AreDistinct, Differs}

-- ---- slots class by class

module _ (headers : Headers) (hierarchy : IsHierarchy headers) where
  -- those of the superclass's objects, and then the class's own
  pub slots_above_and_own : (name : Name) (header : Header) → class_named headers name ≡ Some header
      → (above : Name) → header.super_name ≡ Some above
      → slots_in headers name ≡ slots_in headers above ++ own_slots_in headers name
  slots_above_and_own name header is above some =
      ap (λ (names : List Name). flat_map (own_slots_in headers) (reverse names)) (superclasses_is headers hierarchy name header is above some)
      ∙ ap (flat_map (own_slots_in headers)) (reverse-append (name ∷ []) (superclasses headers above))
      ∙ flat_map-append (own_slots_in headers) (reverse (superclasses headers above)) (name ∷ [])
      ∙ ap (λ (slots : List Reference). flat_map (own_slots_in headers) (reverse (superclasses headers above)) ++ slots)
      (append-nil (own_slots_in headers name))

  -- as many as fields
  slots_as_many : (names : List Name) → length (flat_map (own_slots_in headers) names) ≡ length (flat_map (own_fields headers) names)
  slots_as_many [] = refl
  slots_as_many (name ∷ names) =
      let one = length-append (own_slots_in headers name) (flat_map (own_slots_in headers) names) in
      let other = length-append (own_fields headers name) (flat_map (own_fields headers) names) in
      let own = length-map (own_fields headers name) (λ (field : Member). record { class = name; name = field.name; desc = field.desc }) in
      let rest = slots_as_many names in
      one ∙ (λ i. own i + rest i) ∙ sym other

  pub slots_count : (name : Name) → length (slots_in headers name) ≡ length (instance_fields headers name)
  slots_count name = slots_as_many (reverse (superclasses headers name))

  -- ---- those of a class above come first

  pub record BeginsWith (low high : Name) : Type 0 where
    pub more : List Reference
    pub are : slots_in headers low ≡ slots_in headers high ++ more

  pub begins_above : (high : Name) (high_header : Header) → class_named headers high ≡ Some high_header → IsFalse (is_interface high_header)
      → (low : Name) (header : Header) → class_named headers low ≡ Some header
      → IsBelow headers low high
      → BeginsWith low high
  begins_above high high_header high_is none low header is =
      of_each_class headers hierarchy (λ (name : Name). IsBelow headers name high → BeginsWith name high) top step low header is where
        top : (top_header : Header) → class_named headers object ≡ Some top_header → IsBelow headers object high → BeginsWith object high
        top top_header there up =
            absurd (nothing_above_object headers (hierarchy_is_sound headers hierarchy) (hierarchy_is_rooted headers hierarchy) up)

        step : (name above : Name) (name_header : Header) → class_named headers name ≡ Some name_header → name ≢ object
            → name_header.super_name ≡ Some above
            → (IsBelow headers above high → BeginsWith above high)
            → IsBelow headers name high
            → BeginsWith name high
        step name above name_header there differ some rest up =
            elim (subst (λ (n : Name). (n ≡ high) ⊎ IsBelow headers n high) same climbed.2) [
              | inl equal ↦ record {
                more = own_slots_in headers name;
                are =
                    slots_above_and_own name name_header there above some
                    ∙ ap (λ (n : Name). slots_in headers n ++ own_slots_in headers name) equal;
              }
              | inr higher ↦
                  let begins = rest higher in
                  record {
                    more = begins.more ++ own_slots_in headers name;
                    are =
                        slots_above_and_own name name_header there above some
                        ∙ ap (λ (slots : List Reference). slots ++ own_slots_in headers name) begins.are
                        ∙ append_assoc (slots_in headers high) begins.more (own_slots_in headers name);
                  }
            ] where
              climbed : (n : Name) × (name_header.super_name ≡ Some n) × ((n ≡ high) ⊎ IsBelow headers n high)
              climbed =
                  class_is_climbed headers (hierarchy_is_sound headers hierarchy) (hierarchy_is_rooted headers hierarchy) up name_header high_header
                  there high_is none

              same : climbed.0 ≡ above
              same = same_Some climbed.0 above (sym climbed.1 ∙ some)

  -- ---- no slot of a class above is of the class

  -- each slot is of a class that is the name's or above
  abbrev IsFrom : Name → Reference → Type 0
  IsFrom name slot = (slot.class ≡ name) ⊎ IsBelow headers name slot.class

  own_from : (name : Name) (fields : List Member)
      → AllByRecursion (IsFrom name) (map (λ (field : Member). record { class = name; name = field.name; desc = field.desc }) fields)
  own_from name [] = tt
  own_from name (field ∷ fields) = (inl refl, own_from name fields)

  all_from : (name above : Name) (header : Header) → class_named headers name ≡ Some header → header.super_name ≡ Some above
      → (slots : List Reference) → AllByRecursion (IsFrom above) slots
      → AllByRecursion (IsFrom name) slots
  all_from name above header is some [] all = tt
  all_from name above header is some (slot ∷ slots) all = (
    elim all.0 [
      | inl same ↦ inr (directly name slot.class (subst (IsDirectlyBelow headers name) (sym same) (superclass name above header is some)))
      | inr up ↦ inr (onwards name above slot.class (superclass name above header is some) up)
    ],
    all_from name above header is some slots all.1,
  )

  both_from : (name : Name) (ones others : List Reference) → AllByRecursion (IsFrom name) ones → AllByRecursion (IsFrom name) others
      → AllByRecursion (IsFrom name) (ones ++ others)
  both_from name [] others all more = more
  both_from name (one ∷ ones) others all more = (all.0, both_from name ones others all.1 more)

  slots_from : (name : Name) (header : Header) → class_named headers name ≡ Some header → AllByRecursion (IsFrom name) (slots_in headers name)
  slots_from name header is =
      of_each_class headers hierarchy (λ (n : Name). AllByRecursion (IsFrom n) (slots_in headers n)) top step name header is where
        top : (top_header : Header) → class_named headers object ≡ Some top_header → AllByRecursion (IsFrom object) (slots_in headers object)
        top top_header there =
            subst (λ (names : List Name). AllByRecursion (IsFrom object) (flat_map (own_slots_in headers) (reverse names)))
            (sym (superclasses_of_root headers hierarchy object top_header there
            (object_no_superclass headers (hierarchy_is_sound headers hierarchy) (hierarchy_is_rooted headers hierarchy) top_header there)))
            (both_from object (own_slots_in headers object) [] (own_from object (own_fields headers object)) tt)

        step : (low above : Name) (low_header : Header) → class_named headers low ≡ Some low_header → low ≢ object → low_header.super_name ≡ Some above
            → AllByRecursion (IsFrom above) (slots_in headers above)
            → AllByRecursion (IsFrom low) (slots_in headers low)
        step low above low_header there differ some rest =
            subst (AllByRecursion (IsFrom low)) (sym (slots_above_and_own low low_header there above some))
            (both_from low (slots_in headers above) (own_slots_in headers low) (all_from low above low_header there some (slots_in headers above) rest)
            (own_from low (own_fields headers low)))

  -- so a field of the class is none of those above
  none_above : (name : Name) (header : Header) (above : Name) → class_named headers name ≡ Some header → header.super_name ≡ Some above
      → (slot : Reference) → slot.class ≡ name
      → (slots : List Reference) → AllByRecursion (IsFrom above) slots
      → number_of_first (same_reference slot) slots ≡ None
  none_above name header above is some slot of [] all = refl
  none_above name header above is some slot of (one ∷ slots) all =
      rw (differs, none_above name header above is some slot of slots all.1) refl where
        apart : one.class ≡ name → ⊥
        apart same = hierarchy.acyclic name (elim all.0 [
          | inl equal ↦ directly name name (subst (IsDirectlyBelow headers name) (sym equal ∙ same) (superclass name above header is some))
          | inr up ↦ onwards name above name (superclass name above header is some) (subst (IsBelow headers above) same up)
        ])

        differs : same_reference slot one ≡ false
        differs = by (same_reference slot one) refl where
          by : (b : Bool) → same_reference slot one ≡ b → same_reference slot one ≡ false
          by false e = e
          by true e =
              let classes = and_parts (bytes_eq slot.class one.class) _ e in
              absurd (apart (sym ((bytes_eq-Decides slot.class one.class).0 classes.0) ∙ of))

  -- ---- own fields

  own_number : (name : Name) (fields : List Member) (number : ℕ) (field : Member) → AreDistinct fields → slice_get fields number ≡ Some field
      → number_of_first (same_reference (record { class = name; name = field.name; desc = field.desc }))
      (map (λ (f : Member). record { class = name; name = f.name; desc = f.desc }) fields)
      ≡ Some number
  own_number name [] number field apart is = absurd (none-some field is)
  own_number name (first ∷ fields) zero field apart is = rw (here) refl where
    same : first ≡ field
    same = same_Some first field is

    here : same_reference (record { class = name; name = field.name; desc = field.desc }) (record { class = name; name = first.name; desc = first.desc })
        ≡ true
    here =
        rw (
          (bytes_eq-Decides name name).1 refl,
          (bytes_eq-Decides field.name first.name).1 (ap (λ (m : Member). m.name) (sym same)),
          (bytes_eq-Decides field.desc first.desc).1 (ap (λ (m : Member). m.desc) (sym same)),
        ) refl
  own_number name (first ∷ fields) (suc number) field apart is =
      rw (differs, own_number name fields number field apart.1 is) refl where
        differs : same_reference (record { class = name; name = field.name; desc = field.desc })
            (record { class = name; name = first.name; desc = first.desc }) ≡ false
        differs = by _ refl where
          by : (b : Bool) → same_reference (record { class = name; name = field.name; desc = field.desc })
              (record { class = name; name = first.name; desc = first.desc }) ≡ b
              → same_reference (record { class = name; name = field.name; desc = field.desc })
              (record { class = name; name = first.name; desc = first.desc }) ≡ false
          by false e = e
          by true e =
              let classes = and_parts (bytes_eq name name) _ e in
              let names = and_parts (bytes_eq field.name first.name) (bytes_eq field.desc first.desc) classes.1 in
              absurd (at_index (Differs first) fields number field apart.0 is (sym ((bytes_eq-Decides field.name first.name).0 names.0))
              (sym ((bytes_eq-Decides field.desc first.desc).0 names.1)))

  -- the number of a field of a class among those of an object at or below it
  pub slot_number_is : (name : Name) (header : Header) (above : Name) → class_named headers name ≡ Some header → header.super_name ≡ Some above
      → IsFalse (is_interface header)
      → AreDistinct (own_fields headers name)
      → (number : ℕ) (field : Member) → slice_get (own_fields headers name) number ≡ Some field
      → (low : Name) → (low ≡ name) ⊎ IsBelow headers low name
      → (low_header : Header) → class_named headers low ≡ Some low_header
      → slot_number_in headers low (record { class = name; name = field.name; desc = field.desc })
      ≡ Some (length (instance_fields headers above) + number)
  slot_number_is name header above is some none apart number field is_field low up low_header low_is =
      elim up [
        | inl same ↦ ap (λ (n : Name). slot_number_in headers n (record { class = name; name = field.name; desc = field.desc })) same ∙ at_own
        | inr below ↦
            let begins = begins_above name header is none low low_header low_is below in
            ap (number_of_first (same_reference (record { class = name; name = field.name; desc = field.desc }))) begins.are
            ∙ number_in_front (same_reference (record { class = name; name = field.name; desc = field.desc })) (slots_in headers name) begins.more
            (length (instance_fields headers above) + number) at_own
      ] where
        higher : (h : Header) × (class_named headers above ≡ Some h)
        higher = super_there headers hierarchy name header is above some

        at_own : slot_number_in headers name (record { class = name; name = field.name; desc = field.desc })
            ≡ Some (length (instance_fields headers above) + number)
        at_own =
            ap (number_of_first (same_reference (record { class = name; name = field.name; desc = field.desc })))
            (slots_above_and_own name header is above some)
            ∙ number_in_back (same_reference (record { class = name; name = field.name; desc = field.desc })) (slots_in headers above)
            (own_slots_in headers name)
            (none_above name header above is some (record { class = name; name = field.name; desc = field.desc }) refl (slots_in headers above)
            (slots_from above higher.0 higher.1))
            ∙ ap (option_map (λ (n : ℕ). length (slots_in headers above) + n)) (own_number name (own_fields headers name) number field apart is_field)
            ∙ ap (λ (n : ℕ). Some (n + number)) (slots_count above)
