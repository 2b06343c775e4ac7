-- Names of arrays, and the components of arrays of references.
use Rattle.std.proofs.Common.{◌≡◌, ◌⊎◌, ℕ, List, [], ◌∷◌, ◌++◌, get_or, drop, None, refl, sym, ap, ◌∙◌, inl, inr, arith}
use Rattle.std.proofs.lemmas.List.{append_cancel_right}
use Rattle.std.proofs.lemmas.Option.{none-some}
use Rattle.class_tree.specs.Headers.{Name, Headers, class_named}
use Rattle.class_tree.specs.Subtype.{IsArray, IsReferenceComponent, array, class, IsAboveArrays, IsDirectlyBelow, superclass, interface, IsBelow, directly, onwards}

-- how an array of references is spelled
pub component_forms :
    {name component : Name}
    → IsReferenceComponent name component
    → (IsArray component × (name ≡ 91 ∷ component)) ⊎ (name ≡ 91 ∷ 76 ∷ component ++ 59 ∷ [])
component_forms (array component is) = inl (is, refl)
component_forms (class component) = inr refl

pub is_array_of : {name component : Name} → IsReferenceComponent name component → IsArray name
is_array_of (array component is) = (component, refl)
is_array_of (class component) = (76 ∷ component ++ 59 ∷ [], refl)

not_both :
    (name one other : Name)
    → (IsArray one × (name ≡ 91 ∷ one))
    → name ≡ 91 ∷ 76 ∷ other ++ 59 ∷ []
    → ⊥
not_both name one other deep flat =
    let e : 91 ≡ 76 = ap (λ (bytes : List ℕ). get_or bytes 1 0) (sym (deep.1 ∙ ap (λ (bytes : List ℕ). 91 ∷ bytes) deep.0.1) ∙ flat) in
    omega (arith, e)

-- an array has one component
pub same_component :
    {name one other : Name}
    → IsReferenceComponent name one
    → IsReferenceComponent name other
    → one ≡ other
same_component {name} {one} {other} is also = elim (component_forms is) [
  | inl deep ↦ elim (component_forms also) [
    | inl deeper ↦ ap (drop 1) (sym deep.1 ∙ deeper.1)
    | inr flat ↦ absurd (not_both name one other deep flat)
  ]
  | inr flat ↦ elim (component_forms also) [
    | inl deep ↦ absurd (not_both name other one deep flat)
    | inr flatter ↦ append_cancel_right one other (59 ∷ []) (ap (drop 2) (sym flat ∙ flatter))
  ]
]

-- no array is above each array
pub not_above_arrays : {name : Name} → IsArray name → ¬ IsAboveArrays name
not_above_arrays is (inl object) = let e : 91 ≡ 106 = ap (λ (bytes : List ℕ). get_or bytes 0 0) (sym is.1 ∙ object) in omega (arith, e)
not_above_arrays is (inr (inl cloneable)) = let e : 91 ≡ 106 = ap (λ (bytes : List ℕ). get_or bytes 0 0) (sym is.1 ∙ cloneable) in omega (arith, e)
not_above_arrays is (inr (inr serializable)) = let e : 91 ≡ 106 = ap (λ (bytes : List ℕ). get_or bytes 0 0) (sym is.1 ∙ serializable) in omega (arith, e)

-- ---- where no class has the name of an array

module _ (headers : Headers) (no_array : (name : Name) → IsArray name → class_named headers name ≡ None) where
  pub not_directly_below : {low high : Name} → IsArray low → ¬ IsDirectlyBelow headers low high
  not_directly_below is (superclass low high header there some) = none-some header (sym (no_array low is) ∙ there)
  not_directly_below is (interface low high header there one) = none-some header (sym (no_array low is) ∙ there)

  pub not_below : {low high : Name} → IsArray low → ¬ IsBelow headers low high
  not_below is (directly low high step) = not_directly_below is step
  not_below is (onwards low middle high step rest) = not_directly_below is step
