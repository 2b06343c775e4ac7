-- The superclasses of a class are one list.
use Rattle.std.proofs.Common.{◌≡◌, ◌↔◌, IsSome, IsTrue, List, ◌∷◌, Bool, bytes_eq, Some, None, refl, sym, ap, subst, ◌∙◌}
use Rattle.std.specs.List.{list_any}
use Rattle.class_model.specs.declared.header.Header.{Header}
use Rattle.class_tree.specs.Headers.{Name, Headers, IsThere, class_named}
use Rattle.class_tree.specs.Hierarchy.{IsHierarchy}
use Rattle.class_tree.specs.Laws.Headers.{same_class}
use Rattle.class_tree.specs.Order.{header_at}
use Rattle.class_tree.specs.Subtype.{IsChain}
use Rattle.class_tree.specs.Subtype.IsChain.{root, below}
use Rattle.class_tree.specs.declared.place.Place.{Place}

pub is_there : (headers : Headers) (place : Place) (header : Header) → IsHierarchy headers → header_at headers place ≡ Some header → IsThere headers header.name
is_there headers place header hierarchy at = subst IsSome (sym (hierarchy.of_place place header at).found) refl

supers_differ : (headers : Headers) (name : Name) (one other : Header) (above : Name) → class_named headers name ≡ Some one → one.super_name ≡ None → class_named headers name ≡ Some other → other.super_name ≡ Some above → ⊥
supers_differ headers name one other above found none found' some =
    let e : None ≡ Some above = sym none ∙ ap (λ (h : Header). h.super_name) (same_class headers name one other found found') ∙ some in
    absurd cc

one_chain : (headers : Headers) (name : Name) (one other : List Name) → IsChain headers name one → IsChain headers name other → one ≡ other
one_chain headers name one other (root _ header found none) (root _ header' found' none') = refl
one_chain headers name one other (root _ header found none) (below _ above header' names found' some rest) = absurd (supers_differ headers name header header' above found none found' some)
one_chain headers name one other (below _ above header names found some rest) (root _ header' found' none) = absurd (supers_differ headers name header' header above found' none found some)
one_chain headers name one other (below _ above header names found some rest) (below _ above' header' names' found' some' rest') =
    let e : Some above ≡ Some above' = sym some ∙ ap (λ (h : Header). h.super_name) (same_class headers name header header' found found') ∙ some' in
    let same : above' ≡ above = cc in
    ap (λ (l : List Name). name ∷ l) (one_chain headers above names names' rest (subst (λ (n : Name). IsChain headers n names') same rest'))

-- a name stands in the chain
pub on_chain : (headers : Headers) (class name : Name) (names : List Name) (answer : Bool) → IsChain headers class names → answer ≡ list_any (bytes_eq name) names → IsTrue answer ↔ ((names : List Name) × IsChain headers class names × IsTrue (list_any (bytes_eq name) names))
on_chain headers class name names answer chain is = (
  λ e. (names, chain, sym is ∙ e),
  λ found. is ∙ ap (list_any (bytes_eq name)) (one_chain headers class names found.0 chain found.1) ∙ found.2,
)
