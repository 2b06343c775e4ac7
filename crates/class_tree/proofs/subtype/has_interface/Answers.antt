use Rattle.std.proofs.Common.{◌≡◌, List, map, Some, bytes_eq, IfSome, sym, ap, subst, ◌∙◌}
use Rattle.std.specs.List.{list_any}
use Rattle.class_model.specs.declared.header.Header.{Header}
use Rattle.class_tree.proofs.ClassHolds.{is_sound}
use Rattle.class_tree.specs.Headers.{Name, headers_of}
use Rattle.class_tree.specs.Interfaces.{AreSuperinterfaces}
use Rattle.class_tree.specs.Order.{place_of}
use Rattle.class_tree.proofs.Climbing.{named_at_place, rooted}
use Rattle.class_tree.proofs.SamePlaces.{one_place}
use Rattle.class_tree.proofs.TreeClasses.{tree_holds_steps}
use Rattle.class_tree.proofs.WalkedNames.{walked_is_above, interface_is_walked, once_same}
use Rattle.class_tree.proofs.subtype.has_interface.Goals as goal

pub returns : goal.returns
returns c = λ low high low_at high_at kind.
    let headers = headers_of c.args.tree.now in
    let tree = tree_holds_steps c.args.tree.now c.requires.tree in
    let known = subst (λ found. IfSome found (λ (header : Header). (names : List Name) × AreSuperinterfaces headers header.name names × (map (place_of headers) names ≡ map Some c.superinterfaces.result.now))) low_at c.superinterfaces.ensures in
    let same : c.contains.result ≡ list_any (bytes_eq high.name) known.1.walk =
    c.contains.ensures.value ∙ one_place headers tree c.args.interface high high_at known.0 c.superinterfaces.result.now known.2
    ∙ ap (λ (names : List Name). list_any (bytes_eq high.name) names) known.1.once ∙ once_same high.name known.1.walk in
    let named = named_at_place headers tree c.args.interface high high_at in (
      λ yes. walked_is_above headers known.1.walked high.name (sym same ∙ yes),
      λ up. same ∙ interface_is_walked headers (is_sound headers tree.hold) (rooted headers tree) up high named kind known.1.walk known.1.walked,
    )
