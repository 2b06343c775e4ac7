-- The superclasses of a class of a hierarchy, and its chain, class by class.
use Rattle.std.proofs.Common.{◌≡◌, ◌≢◌, ◌<◌, ◌≤◌, not, cond, ℕ, zero, suc, Bool, true, false, List, [], ◌∷◌, bytes_eq, filter, length, Option, Some, None, refl, sym, ap, subst, ◌∙◌, inl, inr, arith}
use Rattle.std.proofs.lemmas.Slice.Eq.{bytes_eq-Decides}
use Rattle.class_model.specs.declared.header.Header.{Header}
use Rattle.class_tree.specs.Headers.{Name, Headers, all_headers, class_named}
use Rattle.class_tree.specs.Hierarchy.{IsHierarchy, climb, height, superclass_of}
use Rattle.class_tree.specs.Interfaces.{IsInterfaceWalk, of_root, below}
use Rattle.class_tree.specs.Laws.Above.{hierarchy_is_sound, hierarchy_is_rooted, object_no_superclass}
use Rattle.class_tree.specs.Laws.Decided.{same_bytes}
use Rattle.class_tree.specs.Laws.Headers.{class_there, own_name, super_is_there, superclass_is}
use Rattle.class_tree.specs.Layouts.{classes_up, superclasses, chain}
use Rattle.class_tree.specs.Names.{object}
use Rattle.class_tree.specs.Order.{place_of}
use Rattle.class_tree.specs.declared.place.Place.{Place}

climb_low : (headers : Headers) (fuel : ℕ) (next : Option Place) → climb headers fuel next ≤ fuel
unfolding climb
climb_low headers zero next = omega arith
climb_low headers (suc fuel) None = omega arith
climb_low headers (suc fuel) (Some place) = omega (arith, climb_low headers fuel (superclass_of headers place))

up_is : (headers : Headers) (fuel : ℕ) (name : Name) (header : Header)
    → class_named headers name ≡ Some header
    → classes_up headers (suc fuel) (Some name) ≡ name ∷ classes_up headers fuel header.super_name
up_is headers fuel name header is = rw is refl

up_none : (headers : Headers) (fuel : ℕ) → classes_up headers fuel None ≡ []
up_none headers zero = refl
up_none headers (suc fuel) = refl

module _ (headers : Headers) (hierarchy : IsHierarchy headers) where
  -- the class at the superclass's name, and that it is lower
  pub super_there : (name : Name) (header : Header) → class_named headers name ≡ Some header → (above : Name) → header.super_name ≡ Some above
      → (high : Header) × (class_named headers above ≡ Some high)
  super_there name header is above some = class_there headers above (super_is_there headers header above (hierarchy.above name header is) some)

  super_falls : (name : Name) (header : Header) → class_named headers name ≡ Some header → (above : Name) → header.super_name ≡ Some above
      → height headers (place_of headers above) < height headers (place_of headers name)
  super_falls name header is above some =
      let stands = hierarchy.of_name name header is in
      let falls = hierarchy.falls stands.0 header stands.1.at in
      let to_above = superclass_is headers stands.0 header stands.1.at above some in
      subst (λ (p : Option Place). height headers (place_of headers above) < height headers p) (sym stands.1.is_place)
      (subst (λ (p : Option Place). height headers p < height headers (Some stands.0)) to_above falls)

  is_high : (name : Name) (header : Header) → class_named headers name ≡ Some header → 0 < height headers (place_of headers name)
  is_high name header is =
      let stands = hierarchy.of_name name header is in
      let falls = hierarchy.falls stands.0 header stands.1.at in
      let some : 0 < height headers (Some stands.0) = omega (arith, falls) in
      subst (λ (p : Option Place). 0 < height headers p) (sym stands.1.is_place) some

  steady : (fuel : ℕ) (name : Name) (header : Header) → class_named headers name ≡ Some header
      → height headers (place_of headers name) ≤ fuel
      → classes_up headers (suc fuel) (Some name) ≡ classes_up headers fuel (Some name)
  steady zero name header is low = absurd (omega (arith, low, is_high name header is))
  steady (suc fuel) name header is low =
      up_is headers (suc fuel) name header is
      ∙ ap (λ (rest : List Name). name ∷ rest) (by (steady fuel) header.super_name refl)
      ∙ sym (up_is headers fuel name header is)
    where
      by : ((name : Name) (header : Header) → class_named headers name ≡ Some header → height headers (place_of headers name) ≤ fuel
          → classes_up headers (suc fuel) (Some name) ≡ classes_up headers fuel (Some name))
          → (super : Option Name) → header.super_name ≡ super → classes_up headers (suc fuel) super ≡ classes_up headers fuel super
      by lower None none = sym (up_none headers fuel)
      by lower (Some above) some =
          let high = super_there name header is above some in
          lower above high.0 high.1 (omega (arith, low, super_falls name header is above some))

  -- ---- superclasses

  -- a class and what is above it
  pub superclasses_is : (name : Name) (header : Header) → class_named headers name ≡ Some header
      → (above : Name) → header.super_name ≡ Some above
      → superclasses headers name ≡ name ∷ superclasses headers above
  superclasses_is name header is above some = by (length (all_headers headers)) refl
    where
      high : (h : Header) × (class_named headers above ≡ Some h)
      high = super_there name header is above some

      by : (count : ℕ) → length (all_headers headers) ≡ count
          → classes_up headers count (Some name) ≡ name ∷ classes_up headers count (Some above)
      by zero same = absurd (omega (arith, same, is_high name header is, climb_low headers (length (all_headers headers)) (place_of headers name)))
      by (suc count) same =
          up_is headers count name header is
          ∙ ap (λ (super : Option Name). name ∷ classes_up headers count super) some
          ∙ ap (λ (rest : List Name). name ∷ rest)
          (sym (steady count above high.0 high.1 (omega (arith, same, super_falls name header is above some, climb_low headers (length (all_headers headers)) (place_of headers name)))))

  pub superclasses_of_root : (name : Name) (header : Header) → class_named headers name ≡ Some header → header.super_name ≡ None
      → superclasses headers name ≡ name ∷ []
  superclasses_of_root name header is none = by (length (all_headers headers)) refl
    where
      by : (count : ℕ) → length (all_headers headers) ≡ count → classes_up headers count (Some name) ≡ name ∷ []
      by zero same = absurd (omega (arith, same, is_high name header is, climb_low headers (length (all_headers headers)) (place_of headers name)))
      by (suc count) same =
          up_is headers count name header is
          ∙ ap (λ (super : Option Name). name ∷ classes_up headers count super) none
          ∙ ap (λ (rest : List Name). name ∷ rest) (up_none headers count)

  -- ---- chains

  pub chain_of_object : (top : Header) → class_named headers object ≡ Some top → chain headers object ≡ []
  chain_of_object top is =
      let none = object_no_superclass headers (hierarchy_is_sound headers hierarchy) (hierarchy_is_rooted headers hierarchy) top is in
      ap (filter (λ (name : Name). not (bytes_eq name object))) (superclasses_of_root object top is none)

  apart : (name : Name) → name ≢ object → bytes_eq name object ≡ false
  apart name differ = by (bytes_eq name object) refl
    where
      by : (test : Bool) → bytes_eq name object ≡ test → test ≡ false
      by true same = absurd (differ ((bytes_eq-Decides name object).0 same))
      by false same = refl

  pub chain_is : (name : Name) (header : Header) → class_named headers name ≡ Some header → name ≢ object
      → (above : Name) → header.super_name ≡ Some above
      → chain headers name ≡ name ∷ chain headers above
  chain_is name header is differ above some =
      ap (filter (λ (name : Name). not (bytes_eq name object))) (superclasses_is name header is above some)
      ∙ ap (λ (test : Bool). cond (not test) (name ∷ chain headers above) (chain headers above)) (apart name differ)

  -- a class but java/lang/Object has a superclass
  pub has_superclass : (name : Name) (header : Header) → class_named headers name ≡ Some header → name ≢ object
      → (above : Name) × (header.super_name ≡ Some above)
  has_superclass name header is differ = by header.super_name refl
    where
      by : (super : Option Name) → header.super_name ≡ super → (above : Name) × (header.super_name ≡ Some above)
      by None none = absurd (differ (sym (own_name headers name header is) ∙ (hierarchy.kinds name header is).root none))
      by (Some above) some = (above, some)

  -- ---- from java/lang/Object downwards

  module _ (P : Name → Type 0) (top : (header : Header) → class_named headers object ≡ Some header → P object)
      (step : (name above : Name) (header : Header) → class_named headers name ≡ Some header → name ≢ object → header.super_name ≡ Some above → P above → P name) where
    downwards : {name : Name} {walk : List Name} → IsInterfaceWalk headers name walk → P name
    downwards (of_root name header walk is none inner) =
        let same : name ≡ object = sym (own_name headers name header is) ∙ (hierarchy.kinds name header is).root none in
        subst P (sym same) (top header (subst (λ (n : Name). class_named headers n ≡ Some header) same is))
    downwards (below name above header walk rest is some inner outer) =
        elim (same_bytes name object) [
          | inl same ↦ subst P (sym same) (top header (subst (λ (n : Name). class_named headers n ≡ Some header) same is))
          | inr differ ↦ step name above header is differ some (downwards outer)
        ]

    pub of_each_class : (name : Name) (header : Header) → class_named headers name ≡ Some header → P name
    of_each_class name header is = downwards (hierarchy.walked name header is).1
