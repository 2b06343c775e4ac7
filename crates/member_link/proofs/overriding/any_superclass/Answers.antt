use Rattle.std.proofs.Common.{false, IsSome, IfSome, refl, sym, subst}
use Rattle.class_tree.specs.Headers.{headers_of}
use Rattle.class_tree.specs.Hierarchy.{superclass_of}
use Rattle.class_tree.specs.Laws.Headers.{header_there}
use Rattle.class_tree.specs.Order.{header_at}
use Rattle.member_link.specs.DeclaredMembers.{declared_by}
use Rattle.member_link.specs.Inner.OpenMethods.{IsSameOf, IsAnyOf}
use Rattle.member_link.proofs.WaysUp.{AreClassesLeft, HasNone, first_class, next_class, no_class_left, met, unmet}
use Rattle.member_link.proofs.overriding.any_superclass.Goals as goal

pub loop-next-init : goal.loop-next-init
loop-next-init g c =
    let headers = headers_of c.args.tree.now in
    let low = declared_by c.args.low.header.now.name c.args.low.member.now in
    let None = HasNone headers low (goal.F-post g c.args.test.now) in
    subst (AreClassesLeft headers low.class None) {x = superclass_of headers c.args.low.place} (sym c.superclass-next.ensures) (first_class headers c.a_tree_is_a_hierarchy.ensures low.class None c.args.low.place c.args.low.header.now c.requires.at.at refl)

pub returns-then-own_passes : goal.returns-then-own_passes
returns-then-own_passes g c =
    let headers = headers_of c.args.tree.now in
    let low = declared_by c.args.low.header.now.name c.args.low.member.now in
    let Answer = goal.F-post g c.args.test.now in
    let there = subst (λ next. IfSome next (λ place. IsSome (header_at headers place))) c.in-Some.is c.loop-next.invariant.there in
    let class = header_there headers c.in-Some.place there in
    let above = c.loop-next.invariant.above c.in-Some.place class.0 c.in-Some.is class.1 in
    met headers low Answer false class.0 (c.a_tree_is_a_hierarchy.ensures.of_place c.in-Some.place class.0 class.1).found above.0 above.1
    (subst (IsAnyOf headers (IsSameOf headers class.0.name low.member) Answer) c.if-own_passes.true (c.own_passes.ensures class.0 class.1))

pub loop-next-preserved : goal.loop-next-preserved
loop-next-preserved g c =
    let headers = headers_of c.args.tree.now in
    let low = declared_by c.args.low.header.now.name c.args.low.member.now in
    let Answer = goal.F-post g c.args.test.now in
    let None = HasNone headers low Answer in
    let left = subst (AreClassesLeft headers low.class None) c.in-Some.is c.loop-next.invariant in
    let class = header_there headers c.in-Some.place left.there in
    let passed = subst (IsAnyOf headers (IsSameOf headers class.0.name low.member) Answer) c.if-own_passes.false (c.own_passes.ensures class.0 class.1) in
    subst (AreClassesLeft headers low.class None) {x = superclass_of headers c.in-Some.place} (sym c.superclass-next-in-Some.ensures) (next_class headers c.a_tree_is_a_hierarchy.ensures low.class None c.in-Some.place class.0 class.1 passed left)

pub returns : goal.returns
returns g c =
    let headers = headers_of c.args.tree.now in
    let low = declared_by c.args.low.header.now.name c.args.low.member.now in
    let Answer = goal.F-post g c.args.test.now in
    let None = HasNone headers low Answer in
    let left = subst (AreClassesLeft headers low.class None) c.in_default.is c.loop-next.invariant in
    unmet headers low Answer false (no_class_left headers c.a_tree_is_a_hierarchy.ensures low.class None left)
