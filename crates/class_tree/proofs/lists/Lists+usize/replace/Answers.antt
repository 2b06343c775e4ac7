use Rattle.std.proofs.Common.{◌≡◌, ◌∙◌, ℕ, List, ◌++◌, length, set, map, ap, subst, arith}
use Rattle.class_tree.specs.Inner.Parts.{part_of, StandsFrom}
use Rattle.class_tree.proofs.Parts.{with_start, one_list_set, put_there}
use Rattle.class_tree.proofs.lists.Lists+usize.replace.Goals as goal

pub returns-then-stands_from : goal.returns-then-stands_from
returns-then-stands_from c =
    put_there c.self.inside.items.items c.args.list.now c.self.inside.parts.items c.args.self.now c.args.number c.args.guess c.self.view_is
    (subst (λ (l : List ℕ). StandsFrom l c.args.list.now c.args.guess) c.as_slice.ensures.value (c.stands_from.ensures c.if-stands_from.true))

pub returns : goal.returns
returns c =
    let items = c.self.inside.items.items in
    let parts = c.self.inside.parts.items in
    let more = c.args.list.now in
    let end : c.len.result ≡ length items = omega (arith, c.len.ensures, c.self.inside.items.ok.0) in
    ap (λ all. map (part_of all) (set parts c.args.number (with_start c.len.result more))) c.in_ok-extend_from_slice.ensures.items
    ∙ ap (λ start. map (part_of (items ++ more)) (set parts c.args.number (with_start start more))) end
    ∙ one_list_set items more parts c.args.number c.self.invariant
    ∙ ap (λ lists. set lists c.args.number more) c.self.view_is
