use Rattle.std.proofs.Common.{◌≡◌, ◌∙◌, [], ◌∷◌, ◌++◌, length, map, ap, arith}
use Rattle.class_tree.specs.Inner.Parts.{part_of}
use Rattle.class_tree.proofs.Parts.{with_start, one_list_more}
use Rattle.class_tree.proofs.lists.Lists.push.Goals as goal

pub returns : goal.returns
returns g c =
    let items = c.self.inside.items.items in
    let parts = c.self.inside.parts.items in
    let more = c.args.list.now in
    let end : c.len.result ≡ length items = omega (arith, c.len.ensures, c.self.inside.items.ok.0) in
    ap (λ all. map (part_of all) c.push.new.self.items) c.in_ok-extend_from_slice.ensures.items
    ∙ ap (map (part_of (items ++ more))) (c.in_ok-push.ensures.items ∙ ap (λ start. parts ++ with_start start more ∷ []) end)
    ∙ one_list_more items more parts c.self.invariant
    ∙ ap (λ lists. lists ++ more ∷ []) c.self.view_is
