-- The type of a field of a class, by its number among the fields.
use Rattle.std.proofs.Common.{◌≡◌, ◌&&◌, ◌++◌, ℕ, zero, suc, Bool, true, false, List, [], ◌∷◌, bytes_eq, map, reverse, slice_get, Some, None, Option, option_map, refl, sym, ap, ◌∙◌}
use Rattle.std.specs.List.{flat_map}
use Rattle.std.proofs.lemmas.Bool.{and_parts}
use Rattle.std.proofs.lemmas.List.{map-append}
use Rattle.std.proofs.lemmas.List.Concat.{flat_map-cons}
use Rattle.std.proofs.lemmas.Option.{none-some, same_Some, slice_get-map}
use Rattle.std.proofs.lemmas.Slice.Eq.{bytes_eq-Decides}
use Rattle.class_model.specs.Descriptors.{type_of}
use Rattle.class_model.specs.declared.descriptor.FieldType.{FieldType}
use Rattle.class_model.specs.declared.header.Member.{Member}
use Rattle.class_tree.specs.Headers.{Headers, Name}
use Rattle.class_tree.specs.Layouts.{own_fields, superclasses}
use Rattle.member_link.specs.FieldConstructors.{field_types}
use Rattle.member_link.specs.Machine.Layouts.{own_slots_in, slot_number_in, slots_in}
use Rattle.member_link.specs.Machine.Programs.{number_of_first, same_reference}
use Rattle.member_link.specs.References.{Reference}

-- what is found first is one of the items
found_first : {A : Type 0} (passes : A → Bool) (items : List A) (place : ℕ) → number_of_first passes items ≡ Some place
    → (item : A) × (slice_get items place ≡ Some item) × (passes item ≡ true)
found_first passes [] place is = absurd (none-some place is)
found_first {A = A} passes (first ∷ others) place is = by (passes first) refl (λ at there. found_first passes others at there) where
  behind : (found : Option ℕ)
      → number_of_first passes others ≡ found
      → ((at : ℕ) → number_of_first passes others ≡ Some at → (item : A) × (slice_get others at ≡ Some item) × (passes item ≡ true))
      → option_map suc found ≡ Some place
      → (item : A) × (slice_get (first ∷ others) place ≡ Some item) × (passes item ≡ true)
  behind None none again there = absurd (none-some place there)
  behind (Some at) some again there =
      let rest = again at some in (rest.0, ap (slice_get (first ∷ others)) (sym (same_Some (suc at) place there)) ∙ rest.1, rest.2)

  by : (test : Bool)
      → passes first ≡ test
      → ((at : ℕ) → number_of_first passes others ≡ Some at → (item : A) × (slice_get others at ≡ Some item) × (passes item ≡ true))
      → (item : A) × (slice_get (first ∷ others) place ≡ Some item) × (passes item ≡ true)
  by true told again =
      let here : zero ≡ place = same_Some zero place (sym (rw (told) refl) ∙ is) in (first, ap (slice_get (first ∷ others)) (sym here), told)
  by false told again = behind (number_of_first passes others) refl again (sym (rw (told) refl) ∙ is)

own_types : (headers : Headers) (name : Name) (fields : List Member)
    → map (λ (r : Reference). type_of r.desc)
    (map (λ (field : Member). record { class = name; name = field.name; desc = field.desc }) fields)
    ≡ map (λ (field : Member). type_of field.desc) fields
own_types headers name [] = refl
own_types headers name (field ∷ fields) = ap (λ (types : List FieldType). type_of field.desc ∷ types) (own_types headers name fields)

types_of_slots : (headers : Headers) (names : List Name)
    → map (λ (r : Reference). type_of r.desc) (flat_map (own_slots_in headers) names)
    ≡ map (λ (field : Member). type_of field.desc) (flat_map (own_fields headers) names)
types_of_slots headers [] = refl
types_of_slots headers (name ∷ names) =
    ap (map (λ (r : Reference). type_of r.desc)) (flat_map-cons (own_slots_in headers) name names)
    ∙ map-append (λ (r : Reference). type_of r.desc) (own_slots_in headers name) (flat_map (own_slots_in headers) names)
    ∙ ap (λ (types : List FieldType). types ++ map (λ (r : Reference). type_of r.desc) (flat_map (own_slots_in headers) names))
    (own_types headers name (own_fields headers name))
    ∙ ap (λ (types : List FieldType). map (λ (field : Member). type_of field.desc) (own_fields headers name) ++ types)
    (types_of_slots headers names)
    ∙ sym (map-append (λ (field : Member). type_of field.desc) (own_fields headers name) (flat_map (own_fields headers) names))
    ∙ ap (map (λ (field : Member). type_of field.desc)) (sym (flat_map-cons (own_fields headers) name names))

-- the field of that number is of the type that the reference names
pub type_of_slot : (headers : Headers) (class : Name) (field : Reference) (place : ℕ) → slot_number_in headers class field ≡ Some place
    → slice_get (field_types headers class) place ≡ Some (type_of field.desc)
type_of_slot headers class field place is =
    ap (λ (types : List FieldType). slice_get types place) (sym (types_of_slots headers (reverse (superclasses headers class))))
    ∙ slice_get-map (λ (r : Reference). type_of r.desc) (slots_in headers class) place
    ∙ ap (option_map (λ (r : Reference). type_of r.desc)) found.1 ∙ ap (λ (desc : List ℕ). Some (type_of desc)) (sym same_desc) where
      found : (item : Reference) × (slice_get (slots_in headers class) place ≡ Some item) × (same_reference field item ≡ true)
      found = found_first (same_reference field) (slots_in headers class) place is

      same_desc : field.desc ≡ found.0.desc
      same_desc =
          (bytes_eq-Decides field.desc found.0.desc).0
          (and_parts (bytes_eq field.name found.0.name) (bytes_eq field.desc found.0.desc)
          (and_parts (bytes_eq field.class found.0.class) (bytes_eq field.name found.0.name && bytes_eq field.desc found.0.desc) found.2).1).1
