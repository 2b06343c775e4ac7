-- An object of a class of the folder that conforms to a type below a named class, which is no interface and not java/lang/Object: its class is that
-- class or one below it.
use Rattle.std.proofs.Common.{◌≡◌, ◌⊎◌, ◌==◌, ℕ, Bool, true, false, [], ◌∷◌, Some, IsTrue, if◌then◌else◌, refl, sym, ap, subst, ◌∙◌, arith, inl, inr}
use Rattle.std.proofs.lemmas.Bool.{false≢true}
use Rattle.std.proofs.lemmas.Option.{same_Some}
use Rattle.class_model.specs.Characters.{left_bracket}
use Rattle.class_model.specs.declared.frame.VType.{VType}
use Rattle.class_model.specs.declared.frame.VType.TheVariants as types
use Rattle.class_model.specs.declared.header.Header.{Header}
use Rattle.class_tree.specs.Headers.{Headers, IsThere, Name, class_named, headers_of}
use Rattle.class_tree.specs.Hierarchy.{IsHierarchy}
use Rattle.class_tree.specs.Laws.Above.{IsSound, below_more, class_above_interface, class_decides, hierarchy_is_rooted, hierarchy_is_sound, low_is_there, nothing_above_object, there_is_no_array}
use Rattle.class_tree.specs.Laws.Arrays.{is_array_of}
use Rattle.class_tree.specs.Laws.Headers.{class_there}
use Rattle.class_tree.specs.Names.{is_interface, object}
use Rattle.class_tree.specs.Subtype.{IsArray, IsBelow, IsSubtype}
use Rattle.machine_values.specs.Heaps.{Heap, object_at}
use Rattle.machine_values.specs.Values.{component_text}
use Rattle.machine_values.specs.declared.object.Object.{Object}
use Rattle.machine_values.specs.declared.object.Shape.{Shape}
use Rattle.machine_values.specs.declared.object.Shape.TheVariants.{Folder}
use Rattle.machine_values.specs.declared.value.Value.TheVariants.{Ref}
use Rattle.member_link.specs.Assignability.{IsAssignable, IsNameAssignable, from_array, from_null, of_components as of_component_names, of_names, to_class_above, to_interface as to_interface_name, to_itself, to_same, to_top as to_top_type}
use Rattle.member_link.specs.Machine.Programs.{Program, header_named, is_interface_named, name_of_class}
use Rattle.member_link.specs.Machine.Shapes.{component_named}
use Rattle.member_link.specs.RowScope.{RowScope}
use Rattle.same_runs.specs.Laws.Programs.{same_interface}
use Rattle.same_runs.specs.Laws.Scopes.{program_headers}
use Rattle.typed_runs.specs.Conforming.{Conforms, NameConforms, ShapeConforms, an_object, by_class, of_components, to_below, to_interface, to_object}
use Rattle.written_runs.specs.Inner.Setup.{IsSetup, Setup, first}
use Rattle.written_runs.specs.Laws.SameBoth.{own, own_same}

array_of_text : (low component : Name) → component_named (component_text low) ≡ Some component → IsArray low
array_of_text [] component is = cc
array_of_text (first ∷ rest) component is = by (first == left_bracket) refl is where
  by : (b : Bool) → (first == left_bracket) ≡ b → component_named (if b then rest else []) ≡ Some component → IsArray (first ∷ rest)
  by false e is = cc
  by true e is = let same : first ≡ left_bracket = search arith in (rest, ap (λ x. x ∷ rest) same)

module _ (u : Setup) (setup : IsSetup u) (hierarchy : IsHierarchy (headers_of u.classes)) where
  abbrev P : Program
  P = first u

  abbrev H : Headers
  H = headers_of u.classes

  pub sound : IsSound H
  sound = hierarchy_is_sound H hierarchy

  -- at or below
  abbrev pub Up : Name → Name → Type 0
  Up low high = (low ≡ high) ⊎ IsBelow H low high

  no_array_there : (name : Name) → IsThere H name → IsArray name → ⊥
  no_array_there name there is = there_is_no_array H sound hierarchy.no_array name there is

  pub up_more : {low middle high : Name} → Up low middle → Up middle high → Up low high
  up_more {high = high} (inl same) more = subst (λ (n : Name). Up n high) (sym same) more
  up_more {low = low} (inr below) (inl same) = inr (subst (IsBelow H low) same below)
  up_more (inr below) (inr more) = inr (below_more below more)

  pub up_of : (low high : Name) → IsThere H low → IsSubtype H low high → Up low high
  up_of low high there sub = (class_decides H sound hierarchy.no_array low high (no_array_there low there)).0 sub

  pub up_linked : (low high : Name) → IsThere H low → IsTrue (P.links.below low high) → Up low high
  up_linked low high there is = up_of low high there ((setup.linked.below low high).0 is)

  -- an interface by its header
  pub interface_is : (name : Name) (header : Header) → class_named H name ≡ Some header → is_interface_named P name ≡ is_interface header
  interface_is name header found =
      same_interface (own_same setup) name ∙ own_is where
        there : header_named (own u) name ≡ Some header
        there = ap (λ (headers : Headers). class_named headers name) (program_headers u.classes u.links) ∙ found

        own_is : is_interface_named (own u) name ≡ is_interface header
        own_is = rw (there) refl

  -- what is above java/lang/Object or an interface is java/lang/Object or an interface
  pub from_object : {high : Name} → Up object high → high ≡ object
  from_object (inl same) = sym same
  from_object (inr up) = absurd (nothing_above_object H sound (hierarchy_is_rooted H hierarchy) up)

  pub from_interface : {low high : Name} (above : Header) → is_interface_named P low ≡ true
      → class_named H high ≡ Some above
      → is_interface above ≡ false
      → Up low high
      → high ≡ object
  from_interface {low = low} {high = high} above is found flat (inl same) =
      absurd (false≢true (sym flat ∙ sym (interface_is high above found) ∙ ap (is_interface_named P) (sym same) ∙ is))
  from_interface {low = low} above is found flat (inr up) =
      let c = class_there H low (low_is_there up) in
      class_above_interface H sound (hierarchy_is_rooted H hierarchy) up c.0 above c.1 (sym (interface_is low c.0 c.1) ∙ is) found flat

  -- ---- what a class is taken for

  abbrev IsTaken : Name → Name → Type 0
  IsTaken low high = (is_interface_named P high ≡ true) ⊎ ((high ≡ object) ⊎ Up low high)

  taken : (low high : Name) → IsThere H low → NameConforms P low high → IsTaken low high
  taken low high there (to_below is) = inr (inr (up_linked low high there is))
  taken low high there (to_interface is) = inl is
  taken low high there to_object = inr (inl refl)
  taken low high there (of_components {low_component = component} is also conforms) =
      absurd (no_array_there low there (array_of_text low component is))

  -- a named class, which is no interface
  module _ (named : Name) (header : Header) (found : class_named H named ≡ Some header) (no_interface : is_interface header ≡ false)
      (no_object : named ≡ object → ⊥) where
    never_interface : is_interface_named P named ≡ true → ⊥
    never_interface is = false≢true (sym no_interface ∙ sym (interface_is named header found) ∙ is)

    through : (site low high : Name) → IsNameAssignable H low high → high ≡ named → IsTaken site low → Up site named
    through site low high (to_itself _) same (inl is) = absurd (never_interface (ap (is_interface_named P) (sym same) ∙ is))
    through site low high (to_itself _) same (inr (inl is)) = absurd (no_object (sym same ∙ is))
    through site low high (to_itself _) same (inr (inr up)) = subst (Up site) same up
    through site low high (to_interface_name _ _ other flat is kind) same conforms =
        absurd (never_interface (ap (is_interface_named P) (sym same) ∙ interface_is high other is ∙ kind))
    through site low high (from_array _ _ array (inl is)) same conforms = absurd (no_object (sym same ∙ is))
    through site low high (from_array _ _ array (inr (inl is))) same conforms =
        absurd (never_interface (ap (is_interface_named P) (sym same ∙ is) ∙ setup.program.base.of_arrays.0))
    through site low high (from_array _ _ array (inr (inr is))) same conforms =
        absurd (never_interface (ap (is_interface_named P) (sym same ∙ is) ∙ setup.program.base.of_arrays.1.0))
    through site low high (of_component_names _ _ one other of_one of_other rest) same conforms =
        absurd (no_array_there named named_there (subst IsArray same (is_array_of of_other))) where
          named_there : IsThere H named
          named_there = rw (found) refl
    through site low high (to_class_above _ _ up) same (inl is) =
        absurd (no_object (from_interface header is found no_interface (inr (subst (IsBelow H low) same up))))
    through site low high (to_class_above _ _ up) same (inr (inl is)) =
        absurd (no_object (from_object (inr (subst (IsBelow H object) same (subst (λ (n : Name). IsBelow H n high) is up)))))
    through site low high (to_class_above _ _ up) same (inr (inr below)) = up_more below (inr (subst (IsBelow H low) same up))

    -- ---- a receiver

    module _ (s : RowScope) (heap : Heap) (reference number : ℕ) (one : Object) (there : object_at heap reference ≡ Some one)
        (shape : one.shape ≡ Folder number) (class_there_also : IsThere H (name_of_class P number)) where
      of_class : (name : Name) (other : Shape) → ShapeConforms P other name → other ≡ Folder number → NameConforms P (name_of_class P number) name
      of_class name other conforms same = by (subst (λ (x : Shape). ShapeConforms P x name) same conforms) where
        by : ShapeConforms P (Folder number) name → NameConforms P (name_of_class P number) name
        by (by_class is) = is

      object_taken : (name : Name) → Conforms P s heap (types.Object name) (Ref reference) → IsTaken (name_of_class P number) name
      object_taken name (an_object {shape = other} has is) =
          taken (name_of_class P number) name class_there_also
          (of_class name other is
          (sym has.same ∙ ap (λ (x : Object). x.shape) (same_Some has.object one (sym has.is_there ∙ there)) ∙ shape))

      pub receiver_up : (from to : VType) → IsAssignable H from to → to ≡ types.Object named → Conforms P s heap from (Ref reference)
          → Up (name_of_class P number) named
      receiver_up from to (to_same _) same conforms =
          through (name_of_class P number) named named (to_itself named) refl
          (object_taken named (subst (λ (t : VType). Conforms P s heap t (Ref reference)) same conforms))
      receiver_up from to (to_top_type _) same conforms = absurd cc
      receiver_up from to (of_names low high assignable) same conforms =
          through (name_of_class P number) low high assignable (let e : high ≡ named = cc in e) (object_taken low conforms)
      receiver_up from to (from_null _) same conforms = elim conforms [ ]
