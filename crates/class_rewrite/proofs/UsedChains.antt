-- A class is in the chain of another one where it is among the classes of a walk upwards.
use Rattle.std.proofs.Common.{◌≡◌, ◌≢◌, ◌||◌, not, ℕ, zero, suc, Bool, true, false, List, [], ◌∷◌, bytes_eq, filter, length, Some, None, is_some, refl, sym, ap, ◌∙◌}
use Rattle.std.specs.List.{list_any}
use Rattle.std.proofs.lemmas.Bool.{false≢true}
use Rattle.std.proofs.lemmas.Slice.Eq.{bytes_eq-Decides}
use Rattle.class_tree.specs.Headers.{Headers, IsThere, Name, all_headers, class_named}
use Rattle.class_tree.specs.Hierarchy.{IsHierarchy}
use Rattle.class_tree.specs.Layouts.{chain, classes_up, superclasses}
use Rattle.class_tree.specs.Names.{object}
use Rattle.class_tree.specs.Subtype.{IsChain, below, root}
use Rattle.expanded_code.specs.Laws.SuperChains.{superclasses_is, superclasses_of_root}

abbrev left_names : List Name → List Name
left_names names = filter (λ name. not (bytes_eq name object)) names

differ : (name other : Name) → name ≢ other → bytes_eq name other ≡ false
differ name other apart = by (bytes_eq name other) refl where
  by : (b : Bool) → bytes_eq name other ≡ b → b ≡ false
  by true same = absurd (apart ((bytes_eq-Decides name other).0 same))
  by false same = refl

-- java/lang/Object alone is left out
module _ (name : Name) (other : name ≢ object) where
  kept : (names : List Name) → list_any (bytes_eq name) (left_names names) ≡ list_any (bytes_eq name) names
  kept [] = refl
  kept (first ∷ names) = by (bytes_eq first object) refl (kept names) where
    by : (b : Bool) → bytes_eq first object ≡ b → list_any (bytes_eq name) (left_names names) ≡ list_any (bytes_eq name) names
        → list_any (bytes_eq name) (left_names (first ∷ names)) ≡ list_any (bytes_eq name) (first ∷ names)
    by true is rest =
        let apart : bytes_eq name first ≡ false = differ name first (λ same. other (same ∙ (bytes_eq-Decides first object).0 is)) in
        rw (is, apart) rest
    by false is rest = rw (is) (ap (λ (b : Bool). bytes_eq name first || b) rest)

module _ (headers : Headers) (hierarchy : IsHierarchy headers) where
  walked : {name : Name} {names : List Name} → IsChain headers name names → superclasses headers name ≡ names
  walked (root name header is none) = superclasses_of_root headers hierarchy name header is none
  walked (below name above header names is some rest) =
      superclasses_is headers hierarchy name header is above some ∙ ap (λ (more : List Name). name ∷ more) (walked rest)

  pub on_walk : (low name : Name) (names : List Name) → name ≢ object → IsChain headers low names
      → list_any (bytes_eq name) names ≡ list_any (bytes_eq name) (chain headers low)
  on_walk low name names other is = sym (kept name other names) ∙ ap (λ (all : List Name). list_any (bytes_eq name) (left_names all)) (sym (walked is))

-- a class that is not there has none above it
ends : (headers : Headers) (fuel : ℕ) → classes_up headers fuel None ≡ []
ends headers zero = refl
ends headers (suc fuel) = refl

module _ (headers : Headers) (low name : Name) (absent : class_named headers low ≡ None) (there : IsThere headers name) (other : name ≢ object) where
  apart : bytes_eq name low ≡ false
  apart = differ name low (λ same. absurd (false≢true (sym (ap is_some absent) ∙ ap (λ (n : Name). is_some (class_named headers n)) (sym same) ∙ there)))

  none_up : (fuel : ℕ) → list_any (bytes_eq name) (classes_up headers fuel (Some low)) ≡ false
  none_up zero = refl
  none_up (suc fuel) = rw (absent, ends headers fuel, apart) refl

  pub not_on_chain : false ≡ list_any (bytes_eq name) (chain headers low)
  not_on_chain =
      sym (none_up (length (all_headers headers)))
      ∙ sym (kept name other (superclasses headers low))
