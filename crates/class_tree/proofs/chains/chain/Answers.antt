use Rattle.std.proofs.Common.{◌≡◌, ◌<◌, ◌++◌, List, [], ◌∷◌, sym, ap, subst, ◌∙◌}
use Rattle.class_tree.specs.Headers.{Name, headers_of}
use Rattle.class_tree.specs.Hierarchy.{height, superclass_of}
use Rattle.class_tree.specs.Order.{place_of}
use Rattle.class_tree.proofs.Climbing.{height_falls, IsClimbed, first_climbed, climbed_more, all_climbed}
use Rattle.class_tree.proofs.TreeClasses.{tree_holds_steps}
use Rattle.class_tree.proofs.chains.chain.Goals as goal

pub loop-next-init : goal.loop-next-init
loop-next-init c =
    let headers = headers_of c.args.tree.now in
    subst (λ (names : List Name). IsClimbed headers c.args.name.now names c.find-next.result) (sym c.new-names.ensures)
    (first_climbed headers c.args.name.now c.find-next.result c.requires (c.find-next.ensures.same ∙ ap (place_of headers) c.bytes.ensures.same))

pub loop-next-smaller : goal.loop-next-smaller
loop-next-smaller c =
    let headers = headers_of c.args.tree.now in
    let tree = tree_holds_steps c.args.tree.now c.find-next.ensures.tree in
    subst (λ next. height headers next < height headers c.loop-next.next) (sym c.superclass-next.ensures)
    (subst (λ next. height headers (superclass_of headers c.in-Some.place) < height headers next) (sym c.in-Some.is)
    (height_falls headers tree c.in-Some.place c.class_at.result.now c.class_at.ensures))

pub loop-next-preserved : goal.loop-next-preserved
loop-next-preserved c =
    let headers = headers_of c.args.tree.now in
    let tree = tree_holds_steps c.args.tree.now c.find-next.ensures.tree in
    let climbed = subst (IsClimbed headers c.args.name.now c.loop-next.names) c.in-Some.is c.loop-next.invariant in
    let same : c.push.new.self ≡ c.loop-next.names ++ c.class_at.result.now.name ∷ [] = c.in_ok-push.ensures.ok ∙ ap (λ (name : Name). c.loop-next.names ++ name ∷ []) c.in_ok-copy.ensures in
    subst (λ (names : List Name). IsClimbed headers c.args.name.now names c.superclass-next.result) (sym same)
    (climbed_more headers tree c.args.name.now c.loop-next.names c.in-Some.place c.class_at.result.now c.superclass-next.result climbed c.class_at.ensures c.superclass-next.ensures)

pub returns : goal.returns
returns c =
    let headers = headers_of c.args.tree.now in
    all_climbed headers c.args.name.now c.loop-next.names (subst (IsClimbed headers c.args.name.now c.loop-next.names) c.in_default.is c.loop-next.invariant)
