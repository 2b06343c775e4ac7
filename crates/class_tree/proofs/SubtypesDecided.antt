-- It is decided which type is a subtype of which.
use Rattle.std.proofs.Common.{◌≡◌, ◌<◌, ℕ, zero, suc, List, [], ◌∷◌, ◌++◌, length, get_or, drop, sym, ap, subst, ◌∙◌, inl, inr, arith}
use Rattle.std.proofs.lemmas.Bool.{cases_eq}
use Rattle.class_tree.specs.Headers.{Name, Headers}
use Rattle.class_tree.specs.Hierarchy.{IsHierarchy}
use Rattle.class_tree.specs.Laws.Above.{hierarchy_is_sound}
use Rattle.class_tree.specs.Laws.Arrays.{component_forms}
use Rattle.class_model.specs.Laws.Decisions.{Decision, mapped, either}
use Rattle.class_tree.specs.Laws.Decided.{same_bytes, array_decided, below_decided}
use Rattle.class_tree.specs.Names.{object, cloneable, serializable}
use Rattle.class_tree.specs.Subtype.{IsArray, IsReferenceComponent, array, class, IsSubtype, itself}
use Rattle.class_tree.proofs.Components.{component_is_shorter}
use Rattle.class_tree.proofs.Subtypes.{components_decide, array_decides, other_class_decides}

-- ---- components

-- the bytes end in a semicolon
ends_decided : (bytes : List ℕ) → Decision ((front : List ℕ) × (bytes ≡ front ++ 59 ∷ []))
ends_decided [] = inr (λ ended. by ended.0 ended.1)
  where
    by : (front : List ℕ) → [] ≡ front ++ 59 ∷ [] → ⊥
    by [] same = absurd cc
    by (first ∷ front) same = absurd cc
ends_decided (last ∷ []) = elim (cases_eq last 59) [
  | inl same ↦ inl ([], ap (λ (b : ℕ). b ∷ []) same)
  | inr differ ↦ inr (λ ended. by ended.0 ended.1 differ)
]
  where
    by : (front : List ℕ) → last ∷ [] ≡ front ++ 59 ∷ [] → ¬ (last ≡ 59) → ⊥
    by [] same differ = differ (ap (λ (bytes : List ℕ). get_or bytes 0 0) same)
    by (first ∷ []) same differ = absurd cc
    by (first ∷ second ∷ front) same differ = absurd cc
ends_decided (first ∷ second ∷ rest) = elim (ends_decided (second ∷ rest)) [
  | inl ended ↦ inl (first ∷ ended.0, ap (λ (bytes : List ℕ). first ∷ bytes) ended.1)
  | inr not ↦ inr (λ ended. by ended.0 ended.1 not)
]
  where
    by : (front : List ℕ) → first ∷ second ∷ rest ≡ front ++ 59 ∷ [] → ¬ ((front : List ℕ) × (second ∷ rest ≡ front ++ 59 ∷ [])) → ⊥
    by [] same not = absurd cc
    by (one ∷ front) same not = not (front, ap (drop 1) same)

-- a name with a byte in front of it that is no bracket has no component
component_decided : (name : Name) → Decision ((component : Name) × IsReferenceComponent name component)
component_decided name = elim (array_decided name) [
  | inr flat ↦ inr (λ is. elim (component_forms is.1) [ inl deep ↦ flat (is.0, deep.1) | inr ended ↦ flat (76 ∷ is.0 ++ 59 ∷ [], ended) ])
  | inl outer ↦ subst (λ n. Decision ((component : Name) × IsReferenceComponent n component)) (sym outer.1) (behind outer.0)
]
  where
    second : (rest component : Name) → (91 ∷ rest ≡ 91 ∷ 76 ∷ component ++ 59 ∷ []) → rest ≡ 76 ∷ component ++ 59 ∷ []
    second rest component same = ap (drop 1) same

    of_class : (rest : Name) → ¬ IsArray rest → (front : List ℕ) → rest ≡ 76 ∷ front → Decision ((component : Name) × IsReferenceComponent (91 ∷ rest) component)
    of_class rest flat front is = elim (ends_decided front) [
      | inl ended ↦ inl (ended.0, subst (λ n. IsReferenceComponent (91 ∷ n) ended.0) (sym (is ∙ ap (λ (bytes : List ℕ). 76 ∷ bytes) ended.1)) (class ended.0))
      | inr not ↦ inr (λ one. elim (component_forms one.1) [
        | inl deep ↦ flat (subst IsArray (ap (drop 1) (sym deep.1)) deep.0)
        | inr ended ↦ not (one.0, ap (drop 1) (sym is ∙ second rest one.0 ended))
      ])
    ]

    of_other : (rest : Name) → ¬ IsArray rest → ((front : List ℕ) → ¬ (rest ≡ 76 ∷ front)) → Decision ((component : Name) × IsReferenceComponent (91 ∷ rest) component)
    of_other rest flat differ = inr (λ one. elim (component_forms one.1) [
      | inl deep ↦ flat (subst IsArray (ap (drop 1) (sym deep.1)) deep.0)
      | inr ended ↦ differ (one.0 ++ 59 ∷ []) (second rest one.0 ended)
    ])

    first_is : (rest : Name) → ¬ IsArray rest → Decision ((component : Name) × IsReferenceComponent (91 ∷ rest) component)
    first_is [] flat = of_other [] flat (λ front same. absurd cc)
    first_is (first ∷ more) flat = elim (cases_eq first 76) [
      | inl same ↦ of_class (first ∷ more) flat more (ap (λ (b : ℕ). b ∷ more) same)
      | inr differ ↦ of_other (first ∷ more) flat (λ front same. differ (ap (λ (bytes : List ℕ). get_or bytes 0 0) same))
    ]

    behind : (rest : Name) → Decision ((component : Name) × IsReferenceComponent (91 ∷ rest) component)
    behind rest = elim (array_decided rest) [ inl deep ↦ inl (rest, array rest deep) | inr flat ↦ first_is rest flat ]

-- ---- subtypes

module _ (headers : Headers) (hierarchy : IsHierarchy headers) where
  -- where not both have a component
  innermost_decided : (low high : Name) → ((one other : Name) → IsReferenceComponent low one → ¬ IsReferenceComponent high other) → Decision (IsSubtype headers low high)
  innermost_decided low high last = elim (same_bytes low high) [
    | inl same ↦ inl (subst (IsSubtype headers low) same (itself low))
    | inr differ ↦ elim (array_decided low) [
      | inl is ↦
          let decides = array_decides headers hierarchy.no_array low high is differ last in
          mapped decides.0 decides.1 (either (same_bytes high object) (either (same_bytes high cloneable) (same_bytes high serializable)))
      | inr flat ↦
          let decides = other_class_decides headers hierarchy.no_array (hierarchy_is_sound headers hierarchy) low high flat differ in
          mapped decides.0 decides.1 (below_decided headers hierarchy low high)
    ]
  ]

  within_decided : (fuel : ℕ) (low high : Name) → length low < fuel → Decision (IsSubtype headers low high)
  within_decided zero low high short = absurd (omega (arith, short))
  within_decided (suc fuel) low high short = elim (component_decided low) [
    | inr none ↦ innermost_decided low high (λ one other is also. none (one, is))
    | inl one ↦ elim (component_decided high) [
      | inr none ↦ innermost_decided low high (λ first other is also. none (other, also))
      | inl other ↦
          let decides = components_decide headers hierarchy.no_array low high one.0 other.0 one.1 other.1 in
          let shorter = component_is_shorter one.1 in
          mapped decides.1 decides.0 (within_decided fuel one.0 other.0 (omega (arith, short, shorter)))
    ]
  ]

  pub subtype_decided : (low high : Name) → Decision (IsSubtype headers low high)
  subtype_decided low high = within_decided (suc (length low)) low high (omega arith)
