use Rattle.std.specs.Prelude.{◌≡◌, not, refl, ℕ, Bool, true, false, List, [], ◌∷◌, bytes_eq, get_or, Option, Some, None, is_some}
use Rattle.std.specs.List.{AllByRecursion, list_any}
use Rattle.std.proofs.Common.{arith, ap, sym, subst}
use Rattle.std.proofs.lemmas.Slice.Eq.{bytes_eq-Decides}
use Rattle.class_model.specs.declared.header.Header.{Header}
use Rattle.class_tree.specs.Headers.{Name}
use Rattle.class_tree.specs.Laws.Above.{hierarchy_is_sound, there_is_no_array, directly_there}
use Rattle.class_tree.specs.Laws.Arrays.{is_array_of}
use Rattle.class_tree.specs.Names.{method_handle}
use Rattle.class_tree.specs.Steps.{supers}
use Rattle.class_tree.specs.Subtype.{IsArray, IsDirectlyBelow, superclass, interface, IsSubtype, itself, below, of_arrays, components}
use Rattle.member_link.specs.DeclaredMembers.{Declared}
use Rattle.member_link.specs.Machine.CallSteps.{is_polymorphic}
use Rattle.member_link.specs.Machine.Links.{reference_to}
use Rattle.member_link.specs.Machine.Programs.{Program, headers_in, folder_number, place_of_method}
use Rattle.member_link.specs.References.{Reference}
use Rattle.typed_runs.proofs.Basics.{and_first, and_second}
use Rattle.typed_runs.specs.TypedPrograms.{Typings, IsTypedProgram}

pub one_of_names : (P : Name → Type 0) (names : List Name) (name : Name) → AllByRecursion P names → list_any (bytes_eq name) names ≡ true
    → P name
one_of_names P [] name all is = cc
one_of_names P (first ∷ names) name all is = by (bytes_eq name first) refl (λ e. one_of_names P names name all.1 e) where
  by : (b : Bool) → bytes_eq name first ≡ b → (list_any (bytes_eq name) names ≡ true → P name) → P name
  by true e next = subst P (sym ((bytes_eq-Decides name first).0 e)) all.0
  by false e next = next (rw e at is)

module _ (P : Program) (T : Typings) (program : IsTypedProgram P T) where
  -- what is directly above a class of the library is of the library
  pub super_of : (Q : Name → Type 0) (header : Header) (name : Name) → AllByRecursion Q (supers header) → header.super_name ≡ Some name
      → Q name
  super_of Q header name all is = by header.super_name all is where
    by : (o : Option Name) → AllByRecursion Q (supers (record header { super_name = o })) → o ≡ Some name → Q name
    by None all e = cc
    by (Some above) all e = let same : above ≡ name = cc in subst Q same all.0

  pub interface_of : (Q : Name → Type 0) (header : Header) → AllByRecursion Q (supers header) → AllByRecursion Q header.interfaces
  interface_of Q header all = by header.super_name all where
    by : (o : Option Name) → AllByRecursion Q (supers (record header { super_name = o })) → AllByRecursion Q header.interfaces
    by None all = all
    by (Some above) all = all.1

  pub directly_outside : {low high : Name} → IsDirectlyBelow (headers_in P) low high → folder_number P low ≡ None
      → folder_number P high ≡ None
  directly_outside (superclass low high header is some) outside =
      super_of (λ n. folder_number P n ≡ None) header high (program.base.leans_on_itself low header is outside) some
  directly_outside (interface low high header is one) outside =
      one_of_names (λ n. folder_number P n ≡ None) header.interfaces high
      (interface_of (λ n. folder_number P n ≡ None) header (program.base.leans_on_itself low header is outside)) one

  pub above_outside : {low high : Name} → IsSubtype (headers_in P) low high → ¬ IsArray low → folder_number P low ≡ None
      → folder_number P high ≡ None
  above_outside (itself name) flat outside = outside
  above_outside (below low middle high step rest) flat outside =
      above_outside rest (there_is_no_array (headers_in P)
      (hierarchy_is_sound (headers_in P) program.hierarchy) program.hierarchy.no_array middle
      (directly_there (headers_in P) (hierarchy_is_sound (headers_in P) program.hierarchy) step)) (directly_outside step outside)
  above_outside (of_arrays low high is above) flat outside = absurd (flat is)
  above_outside (components low high one other is also sub) flat outside = absurd (flat (is_array_of is))

  pub no_array_handle : ¬ IsArray method_handle
  no_array_handle is = let e : 106 ≡ 91 = ap (λ xs. get_or xs 0 0) is.1 in absurd (omega (arith, e))

  -- a signature polymorphic method is none of the folder
  pub polymorphic_outside : (r : Reference) (m : Declared) → is_polymorphic P r ≡ true → IsSubtype (headers_in P) r.class m.class
      → (desc : List ℕ) → place_of_method P (record (reference_to m) { desc = desc }) ≡ None
  polymorphic_outside r m is above desc =
      let class : r.class ≡ method_handle = (bytes_eq-Decides r.class method_handle).0 (and_first _ _ is) in
      let outside : folder_number P r.class ≡ None = none (folder_number P r.class) (and_second _ _ (and_second _ _ is)) in
      rw (above_outside above (λ array. no_array_handle (subst IsArray class array)) outside) refl where
        none : (o : Option ℕ) → not (is_some o) ≡ true → o ≡ None
        none None e = refl
        none (Some n) e = cc
