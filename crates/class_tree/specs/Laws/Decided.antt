-- In a hierarchy it is decided which class is above which.
use Rattle.std.proofs.Common.{◌≡◌, ◌↔◌, Bool, true, false, List, [], ◌∷◌, get_or, ℕ, bytes_eq, Option, Some, None, IsTrue, IsFalse, refl, sym, ap, subst, ◌∙◌, inl, inr}
use Rattle.std.proofs.lemmas.Bool.{false≢true, cases_Bool, cases_eq}
use Rattle.std.proofs.lemmas.Option.{none-some, same_Some}
use Rattle.std.proofs.lemmas.Slice.Eq.{bytes_eq-Decides}
use Rattle.std.specs.List.{list_any}
use Rattle.class_model.specs.Laws.Decisions.{Decision, mapped, is_true}
use Rattle.class_model.specs.declared.header.Header.{Header}
use Rattle.class_tree.specs.Headers.{Name, Headers, class_named}
use Rattle.class_tree.specs.Hierarchy.{IsHierarchy}
use Rattle.class_tree.specs.Interfaces.{IsInterfaceWalk, of_root, below, each_once}
use Rattle.class_tree.specs.Laws.Above.{low_is_there, above_is_there, class_is_climbed, hierarchy_is_sound, hierarchy_is_rooted}
use Rattle.class_tree.specs.Laws.Headers.{class_there}
use Rattle.class_tree.specs.Names.{is_interface}
use Rattle.class_tree.specs.Subtype.{IsArray, IsDirectlyBelow, superclass, IsBelow, directly, onwards}

-- ---- words of logic

-- the test that decides
abbrev pub told : {P : Type 0} → Decision P → Bool
told (inl holds) = true
told (inr fails) = false

pub told_is : {P : Type 0} (decision : Decision P) → IsTrue (told decision) ↔ P
told_is (inl holds) = (λ is. holds, λ h. refl)
told_is (inr fails) = (λ is. absurd (false≢true is), λ h. absurd (fails h))

pub same_bytes : (one other : List ℕ) → Decision (one ≡ other)
same_bytes one other = mapped (bytes_eq-Decides one other).0 (bytes_eq-Decides one other).1 (is_true (bytes_eq one other))

pub array_decided : (name : Name) → Decision (IsArray name)
array_decided [] = inr (λ is. absurd (cc (is.1)))
array_decided (first ∷ rest) = elim (cases_eq first 91) [
  | inl same ↦ inl (rest, ap (λ (b : ℕ). b ∷ rest) same)
  | inr differ ↦ inr (λ is. differ (ap (λ (bytes : List ℕ). get_or bytes 0 0) is.1))
]

-- ---- which class is above which

module _ (headers : Headers) (hierarchy : IsHierarchy headers) where
  -- a class that is no interface
  class_above :
      {low : Name} {walk : List Name}
      → IsInterfaceWalk headers low walk
      → (high : Name) (above : Header)
      → class_named headers high ≡ Some above
      → IsFalse (is_interface above)
      → Decision (IsBelow headers low high)
  class_above (of_root low header walk is none inner) high above above_is kind =
      inr (λ up.
      let climbed = class_is_climbed headers (hierarchy_is_sound headers hierarchy) (hierarchy_is_rooted headers hierarchy) up header above is above_is kind in
      none-some climbed.0 (sym none ∙ climbed.1))
  class_above (below low next header walk rest is some inner outer) high above above_is kind =
      let step = superclass low next header is some in
      elim (same_bytes next high) [
        | inl same ↦ inl (directly low high (subst (IsDirectlyBelow headers low) same step))
        | inr differ ↦ elim (class_above outer high above above_is kind) [
          | inl up ↦ inl (onwards low next high step up)
          | inr not ↦ inr (λ up.
              let climbed = class_is_climbed headers (hierarchy_is_sound headers hierarchy) (hierarchy_is_rooted headers hierarchy) up header above is above_is kind in
              let same : climbed.0 ≡ next = same_Some climbed.0 next (sym climbed.1 ∙ some) in
              elim climbed.2 [ inl here ↦ differ (sym same ∙ here) | inr further ↦ not (subst (λ name. IsBelow headers name high) same further) ])
        ]
      ]

  -- a class that is there
  there_above :
      (low high : Name) (header above : Header)
      → class_named headers low ≡ Some header
      → class_named headers high ≡ Some above
      → Decision (IsBelow headers low high)
  there_above low high header above is above_is =
      let walk = hierarchy.walked low header is in
      elim (cases_Bool (is_interface above)) [
        | inl kind ↦
            let names = each_once walk.0 in
            let same = hierarchy.superinterfaces low high above names (record { walk = walk.0; walked = walk.1; once = refl }) above_is kind in
            mapped same.0 same.1 (is_true (list_any (bytes_eq high) names))
        | inr kind ↦ class_above walk.1 high above above_is kind
      ]

  pub below_decided : (low high : Name) → Decision (IsBelow headers low high)
  below_decided low high = by (class_named headers low) refl (class_named headers high) refl
    where
      by :
          (found : Option Header)
          → class_named headers low ≡ found
          → (other : Option Header)
          → class_named headers high ≡ other
          → Decision (IsBelow headers low high)
      by None none other other_is = inr (λ up. none-some (class_there headers low (low_is_there up)).0 (sym none ∙ (class_there headers low (low_is_there up)).1))
      by (Some header) is None none = inr (λ up.
          let there = class_there headers high (above_is_there headers (hierarchy_is_sound headers hierarchy) up) in
          none-some there.0 (sym none ∙ there.1))
      by (Some header) is (Some above) above_is = there_above low high header above is above_is
