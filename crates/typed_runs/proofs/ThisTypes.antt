use Rattle.std.specs.Prelude.{◌≡◌, ◌⊎◌, ◌==◌, refl, Bool, true, false, [], ◌∷◌, if◌then◌else◌}
use Rattle.std.proofs.Common.{inl, inr, ap, sym, subst}
use Rattle.class_model.specs.Characters.{left_bracket}
use Rattle.class_tree.specs.Headers.{Name, named}
use Rattle.class_tree.specs.Laws.Above.{hierarchy_is_sound, hierarchy_is_rooted, class_decides, nothing_above_object}
use Rattle.class_tree.specs.Laws.Arrays.{is_array_of, not_directly_below}
use Rattle.class_tree.specs.Names.{object}
use Rattle.class_tree.specs.Subtype.{IsArray, IsSubtype, itself, below, of_arrays, components}
use Rattle.machine_values.specs.declared.object.Shape.{Shape}
use Rattle.member_link.specs.Access.{IsAtOrBelow}
use Rattle.member_link.specs.Assignability.{IsNameAssignable, to_itself, to_class_above, from_array}
use Rattle.member_link.specs.DeclaredMembers.{Declared, IsMethod}
use Rattle.member_link.specs.Machine.Programs.{Program, headers_in}
use Rattle.member_link.specs.Selection.{start_of}
use Rattle.typed_runs.proofs.Assigned.{shape_assigned}
use Rattle.typed_runs.proofs.Basics.{same_number}
use Rattle.typed_runs.proofs.NamesThere.{no_array_there, declared_there}
use Rattle.typed_runs.proofs.Selected.{IsSelected}
use Rattle.typed_runs.specs.Conforming.{to_object, ShapeConforms, by_class}
use Rattle.typed_runs.specs.TypedPrograms.{Typings, IsTypedProgram}

module _ (P : Program) (T : Typings) (program : IsTypedProgram P T) where
  -- ---- the receiver of a method that was selected

  pub at_or_below : {low high : Name} → IsAtOrBelow (headers_in P) low high → IsNameAssignable (headers_in P) low high
  at_or_below {low = low} (inl e) = subst (λ n. IsNameAssignable (headers_in P) low n) e (to_itself low)
  at_or_below {low = low} {high = high} (inr up) = to_class_above low high up

  pub subtype_assignable : {low high : Name} → IsSubtype (headers_in P) low high → ¬ IsArray high
      → IsNameAssignable (headers_in P) low high
  subtype_assignable (itself name) flat = to_itself name
  subtype_assignable (below low middle high step rest) flat =
      at_or_below ((class_decides (headers_in P) (hierarchy_is_sound (headers_in P) program.hierarchy) program.hierarchy.no_array low high
      (λ is. not_directly_below (headers_in P) program.hierarchy.no_array is step)).0 (below low middle high step rest))
  subtype_assignable (of_arrays low high is above) flat = from_array low high is above
  subtype_assignable (components low high one other is also sub) flat = absurd (flat (is_array_of also))

  -- a selection starts at a class, and for an array at java/lang/Object
  pub starts : (name : Name) → (IsArray name × (start_of name ≡ object)) ⊎ (start_of name ≡ name)
  starts [] = inr refl
  starts (first ∷ rest) = by (first == left_bracket) refl where
    by : (b : Bool) → (first == left_bracket) ≡ b → (IsArray (first ∷ rest) × ((if b then object else first ∷ rest) ≡ object)) ⊎
        ((if b then object else first ∷ rest) ≡ first ∷ rest)
    by true e = inl ((rest, ap (λ n. n ∷ rest) (same_number first left_bracket e)), refl)
    by false e = inr refl

  pub above_start : {shape : Shape} {start high : Name} → ShapeConforms P shape start → IsAtOrBelow (headers_in P) (start_of start) high
      → ShapeConforms P shape high
  above_start {shape = shape} {start = start} {high = high} c up = by (starts start) where
    of_object : IsAtOrBelow (headers_in P) object high → ShapeConforms P shape high
    of_object (inl e) = subst (λ n. ShapeConforms P shape n) e (by_class to_object)
    of_object (inr above) = absurd (nothing_above_object (headers_in P) (hierarchy_is_sound (headers_in P) program.hierarchy)
        (hierarchy_is_rooted (headers_in P) program.hierarchy) above)

    by : (IsArray start × (start_of start ≡ object)) ⊎ (start_of start ≡ start) → ShapeConforms P shape high
    by (inl array) = of_object (subst (λ n. IsAtOrBelow (headers_in P) n high) array.1 up)
    by (inr same) = shape_assigned P T program start high (at_or_below (subst (λ n. IsAtOrBelow (headers_in P) n high) same up)) c

  pub this_conforms : {shape : Shape} (named start : Name) (found m : Declared) → ShapeConforms P shape named
      → IsSubtype (headers_in P) named found.class → IsMethod (headers_in P) found → ShapeConforms P shape start
      → IsSelected (headers_in P) (start_of start) found m → ShapeConforms P shape m.class
  this_conforms {shape = shape} named start found m c above declares d is = by is.above where
    by : (m ≡ found) ⊎ IsAtOrBelow (headers_in P) (start_of start) m.class → ShapeConforms P shape m.class
    by (inl e) =
        subst (λ (x : Declared). ShapeConforms P shape x.class) (sym e)
        (shape_assigned P T program named found.class (subtype_assignable above
        (no_array_there P T program found.class (declared_there P found declares))) c)
    by (inr up) = above_start d up
