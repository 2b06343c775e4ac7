use Rattle.std.specs.Prelude.{◌≡◌, refl, ℕ, zero, suc, List, [], ◌∷◌, ◌++◌, map, replicate, reverse, slice_get, Some}
use Rattle.std.specs.List.{AllByRecursion, flat_map}
use Rattle.std.proofs.Common.{sym, subst}
use Rattle.std.proofs.lemmas.List.{length-replicate, map-append}
use Rattle.class_model.specs.Descriptors.{kind_of, type_of}
use Rattle.class_model.specs.declared.descriptor.FieldType.{FieldType}
use Rattle.class_model.specs.declared.descriptor.FieldType.TheVariants as field_types
use Rattle.class_model.specs.declared.header.Member.{Member}
use Rattle.class_tree.specs.Headers.{Name}
use Rattle.class_tree.specs.Layouts.{superclasses, own_fields, instance_fields}
use Rattle.class_tree.specs.Subtype.{IsArray}
use Rattle.machine_values.specs.Heaps.{Heap}
use Rattle.machine_values.specs.Values.{blank_of_kind, blank_value, blank_values, component_text}
use Rattle.machine_values.specs.declared.object.Shape.TheVariants as shapes
use Rattle.machine_values.specs.declared.value.Value.{Value}
use Rattle.member_link.specs.Machine.Layouts.{own_slots}
use Rattle.member_link.specs.Machine.Programs.{Program, RunClass, headers_in, name_of_class}
use Rattle.member_link.specs.References.{Reference}
use Rattle.typed_runs.specs.Conforming.{to_none, FieldConforms, FitsDescriptor, FitSlots, HoldsShape, NamesNoArray}

-- ---- zero and null conform

pub blank_type : (P : Program) (h : Heap) (t : FieldType) → FieldConforms P h t (blank_of_kind (kind_of t))
blank_type P h field_types.Byte = refl
blank_type P h field_types.Char = refl
blank_type P h field_types.Short = refl
blank_type P h field_types.Bool = refl
blank_type P h field_types.Int = refl
blank_type P h field_types.Long = refl
blank_type P h field_types.Float = refl
blank_type P h field_types.Double = refl
blank_type P h (field_types.Named name) = to_none

pub blank_fits : (P : Program) (h : Heap) (desc : List ℕ) → FitsDescriptor P h desc (blank_value desc)
blank_fits P h desc = blank_type P h (type_of desc)

-- ---- the fields of a new object

pub slots_append : (P : Program) (h : Heap) (ss ts : List Reference) (vs ws : List Value) → FitSlots P h ss vs → FitSlots P h ts ws
    → FitSlots P h (ss ++ ts) (vs ++ ws)
slots_append P h [] ts [] ws fit more = more
slots_append P h [] ts (v ∷ vs) ws fit more = absurd fit
slots_append P h (s ∷ ss) ts [] ws fit more = absurd fit
slots_append P h (s ∷ ss) ts (v ∷ vs) ws fit more = (fit.0, slots_append P h ss ts vs ws fit.1 more)

pub own_blank : (P : Program) (h : Heap) (class : Name) (fields : List Member)
    → FitSlots P h (map (λ (field : Member). record { class = class; name = field.name; desc = field.desc }) fields) (blank_values fields)
own_blank P h class [] = tt
own_blank P h class (field ∷ fields) = (blank_fits P h field.desc, own_blank P h class fields)

pub all_blank : (P : Program) (h : Heap) (classes : List Name)
    → FitSlots P h (flat_map (own_slots P) classes) (blank_values (flat_map (own_fields (headers_in P)) classes))
all_blank P h [] = tt
all_blank P h (class ∷ classes) =
    subst (λ vs. FitSlots P h (flat_map (own_slots P) (class ∷ classes)) vs)
    (sym (map-append (λ (field : Member). blank_value field.desc) (own_fields (headers_in P) class)
    (flat_map (own_fields (headers_in P)) classes)))
    (slots_append P h (own_slots P class) (flat_map (own_slots P) classes) _ _ (own_blank P h class (own_fields (headers_in P) class))
    (all_blank P h classes))

pub blank_object_holds : (P : Program) (h : Heap) (class : ℕ) (found : RunClass) → slice_get P.classes class ≡ Some found
    → HoldsShape P h (shapes.Folder class) (blank_values (instance_fields (headers_in P) (name_of_class P class)))
blank_object_holds P h class found is = record {
  found = found;
  is_class = is;
  fields = all_blank P h
      (reverse (superclasses (headers_in P) (name_of_class P class)));
}

-- ---- the elements of a new array

pub all_alike : {A : Type 0} (Q : A → Type 0) (n : ℕ) (x : A) → Q x → AllByRecursion Q (replicate n x)
all_alike Q zero x is = tt
all_alike Q (suc n) x is = (is, all_alike Q n x is)

pub blank_array_holds : (P : Program) (h : Heap) (desc : Name) (count : ℕ) → IsArray desc → NamesNoArray desc
    → HoldsShape P h (shapes.Array desc count) (replicate count (blank_value (component_text desc)))
blank_array_holds P h desc count is named = record {
  is_array = is;
  of_element = named;
  as_long = length-replicate count (blank_value (component_text desc));
  elements = all_alike (FitsDescriptor P h (component_text desc)) count (blank_value (component_text desc))
      (blank_fits P h (component_text desc));
}
