use Rattle.std.specs.Prelude.{◌≡◌, ◌⊎◌, ◌||◌, refl, ℕ, zero, suc, Bool, true, false, List, [], ◌∷◌, slice_get, slice_set, Option, Some, None, IsTrue}
use Rattle.std.specs.List.{AllByRecursion, list_any}
use Rattle.std.proofs.Common.{inl, inr, ap, sym, ◌∙◌, subst}
use Rattle.class_model.specs.Laws.Lists.{at_index}
use Rattle.class_model.specs.declared.header.Header.{Header}
use Rattle.class_tree.specs.Headers.{Name, class_named, IsThere}
use Rattle.class_tree.specs.Laws.Above.{below_more}
use Rattle.class_tree.specs.Laws.Arrays.{is_array_of, not_directly_below}
use Rattle.class_tree.specs.Laws.Headers.{class_there}
use Rattle.class_tree.specs.Laws.Names.{each_of_names}
use Rattle.class_tree.specs.Names.{object, is_interface}
use Rattle.class_tree.specs.Steps.{supers}
use Rattle.class_tree.specs.Subtype.{IsArray, IsDirectlyBelow, superclass, interface, IsBelow, directly, onwards, IsSubtype, itself, below, of_arrays, components}
use Rattle.machine_values.specs.Heaps.{Heap}
use Rattle.machine_values.specs.declared.object.Shape.{Shape}
use Rattle.machine_values.specs.declared.object.Shape.TheVariants as shapes
use Rattle.machine_values.specs.declared.value.Value.{Value}
use Rattle.member_link.specs.Machine.Programs.{Program, headers_in, folder_number, name_of_class, is_interface_named}
use Rattle.member_link.specs.Machine.Shapes.{is_instance}
use Rattle.member_link.specs.References.{Reference}
use Rattle.typed_runs.proofs.AssignedNames.{interface_is}
use Rattle.typed_runs.proofs.Basics.{some_of}
use Rattle.typed_runs.proofs.ClassesTaken.{no_array_there, class_above, none_above_object, object_above_interface, interface_there, numbered_there, shape_taken}
use Rattle.typed_runs.proofs.FolderFields.{FolderField}
use Rattle.typed_runs.proofs.Unwinding.{among}
use Rattle.typed_runs.specs.Conforming.{HoldsShape, ShapeConforms, FitsDescriptor, FitSlots}
use Rattle.typed_runs.specs.TypedPrograms.{Typings, IsTypedProgram}

-- ---- what is above a class of the library

super_has : (Q : Name → Type 0) (header : Header) (name : Name) → AllByRecursion Q (supers header) → header.super_name ≡ Some name → Q name
super_has Q header name all is = by header.super_name all is where
  by : (super : Option Name) → AllByRecursion Q (supers (record header { super_name = super })) → super ≡ Some name → Q name
  by None all is = cc
  by (Some above) all is = subst Q (some_of is) all.0

interfaces_have : (Q : Name → Type 0) (header : Header) → AllByRecursion Q (supers header) → AllByRecursion Q header.interfaces
interfaces_have Q header all = by header.super_name all where
  by : (super : Option Name) → AllByRecursion Q (supers (record header { super_name = super })) → AllByRecursion Q header.interfaces
  by None all = all
  by (Some above) all = all.1

module _ (P : Program) (T : Typings) (program : IsTypedProgram P T) where
  directly_outside : {low high : Name} → IsDirectlyBelow (headers_in P) low high → folder_number P low ≡ None → folder_number P high ≡ None
  directly_outside (superclass low high header is some) out =
      super_has (λ above. folder_number P above ≡ None) header high (program.base.leans_on_itself low header is out) some
  directly_outside (interface low high header is one) out =
      each_of_names (λ above. folder_number P above ≡ None) header.interfaces
      (interfaces_have (λ above. folder_number P above ≡ None) header (program.base.leans_on_itself low header is out)) high one

  pub stays_outside : {low high : Name} → IsBelow (headers_in P) low high → folder_number P low ≡ None → folder_number P high ≡ None
  stays_outside (directly low high step) out = directly_outside step out
  stays_outside (onwards low middle high step rest) out = stays_outside rest (directly_outside step out)

  -- ---- the class through which a field of the folder is named

  module _ (field : Reference) (class : ℕ) (is_folder : folder_number P field.class ≡ Some class) (f : FolderField P field)
      (name : Name) (is_there : IsThere (headers_in P) name) (above : IsSubtype (headers_in P) name field.class) where
    no_interface_named : is_interface_named P name ≡ true → ⊥
    no_interface_named is = by (class_above P T program name field.class is_there above) where
      by : (name ≡ field.class) ⊎ IsBelow (headers_in P) name field.class → ⊥
      by (inl same) =
          let no : true ≡ false = sym is ∙ ap (is_interface_named P) same ∙ interface_is P T program field.class f.header f.found ∙ f.no_interface in
          cc
      by (inr up) = f.no_object (object_above_interface P T program up is f.header f.found f.no_interface)

    no_object_named : name ≡ object → ⊥
    no_object_named is = by (class_above P T program name field.class is_there above) where
      by : (name ≡ field.class) ⊎ IsBelow (headers_in P) name field.class → ⊥
      by (inl same) = f.no_object (sym same ∙ is)
      by (inr up) = none_above_object P T program (subst (λ n. IsBelow (headers_in P) n field.class) is up)

    -- what is below it is the declaring class or below that
    below_named : (low : Name) → IsThere (headers_in P) low → IsSubtype (headers_in P) low name
        → (low ≡ field.class) ⊎ IsBelow (headers_in P) low field.class
    below_named low low_there sub =
        by (class_above P T program low name low_there sub) (class_above P T program name field.class is_there above) where
          by : (low ≡ name) ⊎ IsBelow (headers_in P) low name → (name ≡ field.class) ⊎ IsBelow (headers_in P) name field.class
              → (low ≡ field.class) ⊎ IsBelow (headers_in P) low field.class
          by (inl same) up = subst (λ n. (n ≡ field.class) ⊎ IsBelow (headers_in P) n field.class) (sym same) up
          by (inr down) (inl same) = inr (subst (IsBelow (headers_in P) low) same down)
          by (inr down) (inr up) = inr (below_more down up)

    -- ---- objects that conform to it

    no_array_below : (desc : Name) → IsArray desc → IsSubtype (headers_in P) desc name → ⊥
    no_array_below desc is (itself _) = no_array_there P T program name is_there is
    no_array_below desc is (below _ middle _ step rest) = not_directly_below (headers_in P) program.hierarchy.no_array is step
    no_array_below desc is (of_arrays _ _ array (inl top)) = no_object_named top
    no_array_below desc is (of_arrays _ _ array (inr (inl same))) = no_interface_named (ap (is_interface_named P) same ∙ program.base.of_arrays.0)
    no_array_below desc is (of_arrays _ _ array (inr (inr same))) = no_interface_named (ap (is_interface_named P) same ∙ program.base.of_arrays.1.0)
    no_array_below desc is (components _ _ one other of_one of_other sub) = no_array_there P T program name is_there (is_array_of of_other)

    no_class_below : (low : Name) → IsThere (headers_in P) low → folder_number P low ≡ None → IsSubtype (headers_in P) low name → ⊥
    no_class_below low low_there out sub = by (below_named low low_there sub) where
      none : folder_number P field.class ≡ None → ⊥
      none e = let no : None ≡ Some class = sym e ∙ is_folder in cc

      by : (low ≡ field.class) ⊎ IsBelow (headers_in P) low field.class → ⊥
      by (inl same) = none (ap (folder_number P) (sym same) ∙ out)
      by (inr up) = none (stays_outside up out)

    no_interface_below : (low : Name) → is_interface_named P low ≡ true → IsSubtype (headers_in P) low name → ⊥
    no_interface_below low is sub =
        let c = class_there (headers_in P) name is_there in
        by c.0 c.1 (is_interface c.0) refl (class_above P T program low name (interface_there P T program low is) sub) where
          by : (header : Header) → class_named (headers_in P) name ≡ Some header → (b : Bool) → is_interface header ≡ b
              → (low ≡ name) ⊎ IsBelow (headers_in P) low name → ⊥
          by header found b e (inl same) = no_interface_named (ap (is_interface_named P) (sym same) ∙ is)
          by header found true e (inr up) = no_interface_named (interface_is P T program name header found ∙ e)
          by header found false e (inr up) = no_object_named (object_above_interface P T program up is header found e)

    -- an object of the folder, at or below the declaring class
    pub record IsOwner (shape : Shape) : Type 0 where
      pub number : ℕ
      pub same : shape ≡ shapes.Folder number
      pub number_there : IsThere (headers_in P) (name_of_class P number)
      pub up : (name_of_class P number ≡ field.class) ⊎ IsBelow (headers_in P) (name_of_class P number) field.class

    pub owner : (h : Heap) (shape : Shape) (vs : List Value) → HoldsShape P h shape vs → ShapeConforms P shape name → IsOwner shape
    owner h shape vs holds is = by shape holds (shape_taken P T program h shape vs name (no_array_there P T program name is_there) holds is) where
      external : (low : Name) (also : List Name) → IsThere (headers_in P) low → folder_number P low ≡ None
          → AllByRecursion (λ x. IsTrue (is_interface_named P x)) also
          → (b : Bool) → P.links.below low name ≡ b → (b || list_any (λ x. P.links.below x name) also) ≡ true → ⊥
      external low also low_there out all true e any = no_class_below low low_there out ((program.links.below low name).0 e)
      external low also low_there out all false e any =
          let m = among P name also any in
          no_interface_below m.1 (at_index (λ x. IsTrue (is_interface_named P x)) also m.0 m.1 all m.2) ((program.links.below m.1 name).0 m.3)

      by : (s : Shape) → HoldsShape P h s vs → (is_interface_named P name ≡ true) ⊎ (is_instance P s name ≡ true) → IsOwner s
      by s has (inl e) = absurd (no_interface_named e)
      by (shapes.Folder number) has (inr e) =
          let low_there = numbered_there P T program number has.found has.is_class in
          record {
            number = number;
            same = refl;
            number_there = low_there;
            up = below_named (name_of_class P number) low_there ((program.links.below (name_of_class P number) name).0 e);
          }
      by (shapes.Array desc len) has (inr e) = absurd (no_array_below desc has.is_array ((program.links.below desc name).0 e))
      by (shapes.External low also) has (inr e) =
          absurd (external low also has.is_there has.of_library has.interfaces (P.links.below low name) refl e)

-- ---- values in slots

pub value_there : (P : Program) (h : Heap) (slots : List Reference) (vs : List Value) (n : ℕ) (slot : Reference) → FitSlots P h slots vs
    → slice_get slots n ≡ Some slot
    → (v : Value) × (slice_get vs n ≡ Some v) × FitsDescriptor P h slot.desc v
value_there P h [] vs n slot fit is = cc
value_there P h (s ∷ slots) [] n slot fit is = absurd fit
value_there P h (s ∷ slots) (v ∷ vs) zero slot fit is = (v, refl, subst (λ (x : Reference). FitsDescriptor P h x.desc v) (some_of is) fit.0)
value_there P h (s ∷ slots) (v ∷ vs) (suc n) slot fit is = value_there P h slots vs n slot fit.1 is

pub value_put : (P : Program) (h : Heap) (slots : List Reference) (vs : List Value) (n : ℕ) (slot : Reference) (v : Value) → FitSlots P h slots vs
    → slice_get slots n ≡ Some slot
    → FitsDescriptor P h slot.desc v → FitSlots P h slots (slice_set vs n v)
value_put P h [] vs n slot v fit is new = cc
value_put P h (s ∷ slots) [] n slot v fit is new = absurd fit
value_put P h (s ∷ slots) (w ∷ vs) zero slot v fit is new = (subst (λ (x : Reference). FitsDescriptor P h x.desc v) (sym (some_of is)) new, fit.1)
value_put P h (s ∷ slots) (w ∷ vs) (suc n) slot v fit is new = (fit.0, value_put P h slots vs n slot v fit.1 is new)
