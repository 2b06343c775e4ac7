-- Programs that are the same have the same fields in objects, and their methods at the same places.
use Rattle.std.proofs.Common.{◌≡◌, ℕ, zero, suc, Bool, true, false, not, List, [], ◌∷◌, ◌++◌, map, reverse, length, Option, Some, None, if◌then◌else◌, refl, sym, ap, subst, ◌∙◌, append-nil}
use Rattle.std.specs.List.{filter, flat_map}
use Rattle.std.proofs.lemmas.List.{length-append, length-map, map-append}
use Rattle.class_model.specs.Members.{has, STATIC}
use Rattle.class_model.specs.declared.header.Header.{Header}
use Rattle.class_model.specs.declared.header.Member.{Member}
use Rattle.class_tree.specs.Headers.{Name, all_headers, named}
use Rattle.class_tree.specs.Layouts.{classes_up, instance_fields, own_fields, superclasses}
use Rattle.machine_values.specs.Values.{blank_value, blank_values}
use Rattle.member_link.specs.Machine.Layouts.{own_slots, slot_number, slots_of}
use Rattle.member_link.specs.Machine.Programs.{Program, RunClass, headers_in, header_named, number_of_first, same_reference}
use Rattle.member_link.specs.References.{Reference}
use Rattle.same_runs.specs.SamePrograms.{SameClasses, SameFields, SamePrograms}
use Rattle.same_runs.specs.Laws.Programs.{SameNamed, named_none, named_both, headers_named, same_header}

-- ---- lists

flat_map_same : {A B : Type 0} (f g : A → List B) → ((x : A) → f x ≡ g x) → (xs : List A) → flat_map f xs ≡ flat_map g xs
flat_map_same f g same [] = refl
flat_map_same f g same (x ∷ xs) = rw (same x, flat_map_same f g same xs) refl

-- ---- the fields that a class declares

-- its headers by name, of the folder alone
folder_named : (P : Program) (name : Name) (ones others : List RunClass) → SameClasses P ones others
    → SameNamed (named name (map (λ (class : RunClass). class.header) ones)) (named name (map (λ (class : RunClass). class.header) others))
folder_named P name ones others same =
    let both = headers_named P name [] ones others same in
    subst (λ (x : List Header). SameNamed (named name x) (named name (map (λ (class : RunClass). class.header) others)))
    (append-nil (map (λ (class : RunClass). class.header) ones))
    (subst (λ (x : List Header). SameNamed (named name (map (λ (class : RunClass). class.header) ones ++ [])) (named name x))
    (append-nil (map (λ (class : RunClass). class.header) others)) both)

abbrev is_instance_field : Member → Bool
is_instance_field field = not (has field.flags STATIC)

abbrev slot : Name → Member → Reference
slot name field = record { class = name; name = field.name; desc = field.desc }

slots_same : (name : Name) (ones others : List Member) → SameFields ones others
    → map (slot name) (filter is_instance_field others) ≡ map (slot name) (filter is_instance_field ones)
slots_same name [] [] same = refl
slots_same name [] (other ∷ others) same = absurd same
slots_same name (one ∷ ones) [] same = absurd same
slots_same name (one ∷ ones) (other ∷ others) same =
    ap (λ (b : Bool). map (slot name) (if not b then other ∷ filter is_instance_field others else filter is_instance_field others)) same.2
    ∙ by (has one.flags STATIC) (slots_same name ones others same.3) where
      by : (b : Bool) → map (slot name) (filter is_instance_field others) ≡ map (slot name) (filter is_instance_field ones)
          → map (slot name) (if not b then other ∷ filter is_instance_field others else filter is_instance_field others)
          ≡ map (slot name) (if not b then one ∷ filter is_instance_field ones else filter is_instance_field ones)
      by true rest = rest
      by false rest = rw (same.0, same.1, rest) refl

blanks_same : (ones others : List Member) → SameFields ones others
    → blank_values (filter is_instance_field others) ≡ blank_values (filter is_instance_field ones)
blanks_same [] [] same = refl
blanks_same [] (other ∷ others) same = absurd same
blanks_same (one ∷ ones) [] same = absurd same
blanks_same (one ∷ ones) (other ∷ others) same =
    ap (λ (b : Bool). blank_values (if not b then other ∷ filter is_instance_field others else filter is_instance_field others)) same.2
    ∙ by (has one.flags STATIC) (blanks_same ones others same.3) where
      by : (b : Bool) → blank_values (filter is_instance_field others) ≡ blank_values (filter is_instance_field ones)
          → blank_values (if not b then other ∷ filter is_instance_field others else filter is_instance_field others)
          ≡ blank_values (if not b then one ∷ filter is_instance_field ones else filter is_instance_field ones)
      by true rest = rest
      by false rest = rw (same.1, rest) refl

module _ {P Q : Program} (same : SamePrograms P Q) where
  same_folder : (name : Name) → SameNamed (named name (headers_in P).folder) (named name (headers_in Q).folder)
  same_folder name = folder_named P name P.classes Q.classes same.classes

  own_slots_same : (name : Name) → own_slots Q name ≡ own_slots P name
  own_slots_same name = by (named name (headers_in P).folder) (named name (headers_in Q).folder) refl refl (same_folder name) where
    by : (one other : Option Header) → named name (headers_in P).folder ≡ one → named name (headers_in Q).folder ≡ other
        → SameNamed one other → own_slots Q name ≡ own_slots P name
    by None None is is_also named_none = rw (is, is_also) refl
    by None (Some other) is is_also impossible = elim impossible [ ]
    by (Some one) None is is_also impossible = elim impossible [ ]
    by (Some one) (Some other) is is_also (named_both alike) = rw (is, is_also) (slots_same name one.fields other.fields alike.fields)

  own_blanks_same : (name : Name) → blank_values (own_fields (headers_in Q) name) ≡ blank_values (own_fields (headers_in P) name)
  own_blanks_same name = by (named name (headers_in P).folder) (named name (headers_in Q).folder) refl refl (same_folder name) where
    by : (one other : Option Header) → named name (headers_in P).folder ≡ one → named name (headers_in Q).folder ≡ other
        → SameNamed one other → blank_values (own_fields (headers_in Q) name) ≡ blank_values (own_fields (headers_in P) name)
    by None None is is_also named_none = rw (is, is_also) refl
    by None (Some other) is is_also impossible = elim impossible [ ]
    by (Some one) None is is_also impossible = elim impossible [ ]
    by (Some one) (Some other) is is_also (named_both alike) = rw (is, is_also) (blanks_same one.fields other.fields alike.fields)

  -- ---- upwards

  up_same : (left : ℕ) (name : Option Name) → classes_up (headers_in Q) left name ≡ classes_up (headers_in P) left name
  up_same zero name = refl
  up_same (suc left) None = refl
  up_same (suc left) (Some name) = by (header_named P name) (header_named Q name) refl refl (same_header same name) (up_same left) where
    by : (one other : Option Header) → header_named P name ≡ one → header_named Q name ≡ other → SameNamed one other
        → ((above : Option Name) → classes_up (headers_in Q) left above ≡ classes_up (headers_in P) left above)
        → classes_up (headers_in Q) (suc left) (Some name) ≡ classes_up (headers_in P) (suc left) (Some name)
    by None None is is_also named_none rest = rw (is, is_also) (ap (λ (names : List Name). name ∷ names) (rest None))
    by None (Some other) is is_also impossible rest = elim impossible [ ]
    by (Some one) None is is_also impossible rest = elim impossible [ ]
    by (Some one) (Some other) is is_also (named_both alike) rest = rw (is, is_also, alike.superclass)
        (ap (λ (names : List Name). name ∷ names) (rest one.super_name))

  lengths_same : (ones others : List RunClass) → SameClasses P ones others → length others ≡ length ones
  lengths_same [] [] alike = refl
  lengths_same [] (other ∷ others) alike = absurd alike
  lengths_same (one ∷ ones) [] alike = absurd alike
  lengths_same (one ∷ ones) (other ∷ others) alike = ap suc (lengths_same ones others alike.1)

  as_many : length (all_headers (headers_in Q)) ≡ length (all_headers (headers_in P))
  as_many =
      length-append (headers_in Q).folder Q.library
      ∙ rw (
        length-map Q.classes (λ (class : RunClass). class.header),
        length-map P.classes
            (λ (class : RunClass). class.header),
        lengths_same P.classes Q.classes same.classes,
        same.library,
      ) refl
      ∙ sym (length-append (headers_in P).folder P.library)

  superclasses_same : (name : Name) → superclasses (headers_in Q) name ≡ superclasses (headers_in P) name
  superclasses_same name = ap (λ (left : ℕ). classes_up (headers_in Q) left (Some name)) as_many
      ∙ up_same (length (all_headers (headers_in P))) (Some name)

  pub same_slots : (name : Name) → slots_of Q name ≡ slots_of P name
  same_slots name =
      ap (λ (names : List Name). flat_map (own_slots Q) (reverse names)) (superclasses_same name)
      ∙ flat_map_same (own_slots Q) (own_slots P) own_slots_same (reverse (superclasses (headers_in P) name))

  pub same_slot : (name : Name) (field : Reference) → slot_number Q name field ≡ slot_number P name field
  same_slot name field = ap (number_of_first (same_reference field)) (same_slots name)

  blanks_through : (names : List Name)
      → blank_values (flat_map (own_fields (headers_in Q)) names) ≡ blank_values (flat_map (own_fields (headers_in P)) names)
  blanks_through [] = refl
  blanks_through (name ∷ names) =
      map-append (λ (field : Member). blank_value field.desc) (own_fields (headers_in Q) name) (flat_map (own_fields (headers_in Q)) names)
      ∙ rw (own_blanks_same name, blanks_through names) refl
      ∙ sym (map-append (λ (field : Member). blank_value field.desc) (own_fields (headers_in P) name)
      (flat_map (own_fields (headers_in P)) names))

  pub same_blanks : (name : Name) → blank_values (instance_fields (headers_in Q) name) ≡ blank_values (instance_fields (headers_in P) name)
  same_blanks name =
      ap (λ (names : List Name). blank_values (flat_map (own_fields (headers_in Q)) (reverse names))) (superclasses_same name)
      ∙ blanks_through (reverse (superclasses (headers_in P) name))
