use Rattle.std.proofs.Common.{◌∙◌, map, ap}
use Rattle.class_tree.specs.Inner.Nodes.{place_at}
use Rattle.class_tree.proofs.Parts.{mapped_lists}
use Rattle.class_tree.proofs.lists.Lists+usize.into_places.Goals as goal

pub returns : goal.returns
returns c =
    mapped_lists (place_at c.args.headers.now) c.self.inside.items.items c.self.inside.parts.items c.args.self c.self.view_is c.into_vec-items.result.items
    (c.into_vec-items.ensures ∙ c.in_ok-places.ensures ∙ ap (map (place_at c.args.headers.now)) c.as_slice.ensures.value)
