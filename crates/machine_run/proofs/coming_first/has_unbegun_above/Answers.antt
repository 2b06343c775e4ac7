use Rattle.std.proofs.Common.{◌≡◌, List, map, Some, IfSome, sym, subst, ◌∙◌}
use Rattle.class_model.specs.declared.header.Header.{Header}
use Rattle.class_tree.specs.Headers.{Name, headers_of}
use Rattle.class_tree.specs.Interfaces.{AreSuperinterfaces}
use Rattle.class_tree.specs.Order.{place_of}
use Rattle.machine_run.proofs.ComesFirst.{none_above}
use Rattle.machine_run.proofs.coming_first.has_unbegun_above.Goals as goal

pub returns : goal.returns
returns c = λ P header left is at none.
    let headers = headers_of c.args.tree.now in
    let places = c.superinterfaces.result.now in
    let hierarchy = c.a_tree_is_a_hierarchy.ensures in
    let known = subst (λ found. IfSome found (λ (header : Header). (names : List Name) × AreSuperinterfaces headers header.name names × (map (place_of headers) names ≡ map Some places))) at c.superinterfaces.ensures in
    none_above c.args.tree.now P is hierarchy c.args.memory.now header known.0 places (hierarchy.of_place c.args.place header at).found known.1 known.2 (sym c.is_one_unbegun.ensures ∙ none) left
