use Rattle.std.proofs.Common.{IsSome, slice_get, option_map, ap, ◌∙◌, rules}
use Rattle.class_tree.specs.Inner.Nodes.{place_at}
use Rattle.class_tree.proofs.Superclasses.{first_super}
use Rattle.class_tree.proofs.super_places.super_place.Goals as goal

pub returns-in-Some : goal.returns-in-Some
returns-in-Some c =
    let some : IsSome c.args.header.now.super_name = search rules in
    c.first_place.ensures
    ∙ ap (λ numbers. option_map (place_at c.args.headers.now) (slice_get numbers 0)) c.requires.above
    ∙ first_super c.args.headers.now c.args.header.now c.requires.there some
