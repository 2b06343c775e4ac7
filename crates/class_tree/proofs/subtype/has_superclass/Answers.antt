use Rattle.std.proofs.Common.{◌≡◌, ◌≢◌, ◌<◌, Some, refl, sym, ap, subst, ◌∙◌}
use Rattle.std.proofs.lemmas.Bool.{false≢true}
use Rattle.class_tree.specs.Headers.{headers_of}
use Rattle.class_tree.specs.Hierarchy.{height, superclass_of}
use Rattle.class_tree.specs.Laws.Places.{same_place}
use Rattle.class_tree.proofs.Climbing.{height_falls}
use Rattle.class_tree.proofs.Sought.{IsSought, first_sought, sought_more, sought_here, sought_nowhere, next_there}
use Rattle.class_tree.proofs.TreeClasses.{tree_holds_steps}
use Rattle.class_tree.proofs.subtype.has_superclass.Goals as goal

pub loop-next-init : goal.loop-next-init
loop-next-init c =
    let headers = headers_of c.args.tree.now in
    subst (IsSought headers c.args.class c.args.above) (sym c.superclass-next.ensures) (first_sought headers (tree_holds_steps c.args.tree.now c.requires) c.args.class c.args.above)

pub loop-next-smaller : goal.loop-next-smaller
loop-next-smaller c =
    let headers = headers_of c.args.tree.now in
    let class = next_there headers c.loop-next.next c.in-Some.place c.loop-next.invariant.there c.in-Some.is in
    subst (λ next. height headers next < height headers c.loop-next.next) (sym c.superclass-next-in-Some.ensures)
    (subst (λ next. height headers (superclass_of headers c.in-Some.place) < height headers next) (sym c.in-Some.is)
    (height_falls headers (tree_holds_steps c.args.tree.now c.requires) c.in-Some.place class.0 class.1))

pub loop-next-preserved : goal.loop-next-preserved
loop-next-preserved c =
    let headers = headers_of c.args.tree.now in
    let class = next_there headers c.loop-next.next c.in-Some.place c.loop-next.invariant.there c.in-Some.is in
    let differ : c.in-Some.place ≢ c.args.above = λ same. false≢true (sym c.if-eq.false ∙ c.eq.ensures ∙ (same_place c.in-Some.place c.args.above).1 same) in
    let sought = subst (IsSought headers c.args.class c.args.above) c.in-Some.is c.loop-next.invariant in
    subst (IsSought headers c.args.class c.args.above) (sym c.superclass-next-in-Some.ensures)
    (sought_more headers (tree_holds_steps c.args.tree.now c.requires) c.args.class c.args.above c.in-Some.place class.0 class.1 differ sought)

pub returns-then-eq : goal.returns-then-eq
returns-then-eq c = λ low high low_at high_at kind.
    let headers = headers_of c.args.tree.now in
    let same : c.in-Some.place ≡ c.args.above = (same_place c.in-Some.place c.args.above).0 (sym c.eq.ensures ∙ c.if-eq.true) in
    let sought = subst (IsSought headers c.args.class c.args.above) (c.in-Some.is ∙ ap Some same) c.loop-next.invariant in
    (λ yes. sought_here headers c.args.class c.args.above sought low high low_at high_at kind, λ up. refl)

pub returns : goal.returns
returns c = λ low high low_at high_at kind.
    let headers = headers_of c.args.tree.now in
    let sought = subst (IsSought headers c.args.class c.args.above) c.in_default.is c.loop-next.invariant in
    (λ yes. absurd (false≢true yes), λ up. absurd (sought_nowhere headers c.args.class c.args.above sought low high low_at high_at kind up))
