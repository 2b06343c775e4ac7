use Rattle.std.proofs.Common.{◌≡◌, List, Option, Some, None, bytes_eq, refl, sym, ap, ◌∙◌}
use Rattle.std.specs.List.{list_any}
use Rattle.class_tree.specs.Headers.{Name, headers_of}
use Rattle.class_rewrite.proofs.UsedChains.{not_on_chain, on_walk}
use Rattle.class_rewrite.proofs.used_fields.is_on_chain.Goals as goal

none_of : {A : Type 0} (o : Option A) → ((x : A) → o ≡ Some x → ⊥) → o ≡ None
none_of None other = refl
none_of (Some x) other = absurd (other x refl)

pub returns-in_default : goal.returns-in_default
returns-in_default c =
    let headers = headers_of c.args.tree.now in
    let no_place = sym c.place.ensures ∙ none_of c.place.result c.in_default.not-Some in
    not_on_chain headers c.args.low.now c.args.name.now (c.a_tree_is_a_hierarchy.ensures.absent c.args.low.now no_place) c.requires.there c.requires.other

pub returns : goal.returns
returns c =
    c.stands_in.ensures
    ∙ ap (λ (names : List Name). list_any (bytes_eq c.args.name.now) names) c.as_slice.ensures
    ∙ on_walk (headers_of c.args.tree.now) c.a_tree_is_a_hierarchy.ensures c.args.low.now c.args.name.now c.in_ok-names.names c.requires.other c.in_ok-names.ensures
