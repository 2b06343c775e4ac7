use Rattle.std.proofs.Common.{is_some, true, ap, subst}
use Rattle.class_tree.specs.Headers.{headers_of}
use Rattle.class_tree.specs.declared.place.Place.TheVariants.{Folder}
use Rattle.member_link.specs.DeclaredMembers.{declared_by}
use Rattle.member_link.specs.Inner.OpenMethods.{IsSameOf, IsAnyOf}
use Rattle.member_link.proofs.Superinterfaces.{superinterfaces_of, superinterface_at}
use Rattle.member_link.proofs.WaysUp.{HasNone, first_interfaces, next_interfaces, no_interface_left, met, unmet}
use Rattle.member_link.proofs.overriding.any_superinterface.Goals as goal

pub loop-place-init : goal.loop-place-init
loop-place-init g c =
    let headers = headers_of c.args.tree.now in
    let hierarchy = c.a_tree_is_a_hierarchy.ensures in
    let low = declared_by c.args.low.header.now.name c.args.low.member.now in
    let are = superinterfaces_of headers hierarchy c.args.low.place c.superinterfaces-place-items.result.now c.superinterfaces-place-items.ensures c.args.low.header.now c.requires.at.at in
    first_interfaces headers hierarchy low.class (HasNone headers low (goal.F-post g c.args.test.now)) c.superinterfaces-place-items.result.now are

pub own_passes-requires-clause-place : goal.own_passes-requires-clause-place
own_passes-requires-clause-place g c =
    let places = c.superinterfaces-place-items.result.now in
    let interface = superinterface_at (headers_of c.args.tree.now) c.a_tree_is_a_hierarchy.ensures c.args.low.place places c.superinterfaces-place-items.ensures c.args.low.header.now c.requires.at.at c.loop-place.place-index (Folder 0) c.loop-place-test.true in
    ap is_some interface.at

pub returns-then-own_passes : goal.returns-then-own_passes
returns-then-own_passes g c =
    let headers = headers_of c.args.tree.now in
    let hierarchy = c.a_tree_is_a_hierarchy.ensures in
    let low = declared_by c.args.low.header.now.name c.args.low.member.now in
    let Answer = goal.F-post g c.args.test.now in
    let places = c.superinterfaces-place-items.result.now in
    let interface = superinterface_at headers hierarchy c.args.low.place places c.superinterfaces-place-items.ensures c.args.low.header.now c.requires.at.at c.loop-place.place-index (Folder 0) c.loop-place-test.true in
    met headers low Answer true interface.header (hierarchy.of_place _ interface.header interface.at).found interface.above interface.interface
    (subst (IsAnyOf headers (IsSameOf headers interface.header.name low.member) Answer) c.if-own_passes.true (c.own_passes.ensures interface.header interface.at))

pub loop-place-preserved : goal.loop-place-preserved
loop-place-preserved g c =
    let headers = headers_of c.args.tree.now in
    let hierarchy = c.a_tree_is_a_hierarchy.ensures in
    let low = declared_by c.args.low.header.now.name c.args.low.member.now in
    let Answer = goal.F-post g c.args.test.now in
    let places = c.superinterfaces-place-items.result.now in
    let interface = superinterface_at headers hierarchy c.args.low.place places c.superinterfaces-place-items.ensures c.args.low.header.now c.requires.at.at c.loop-place.place-index (Folder 0) c.loop-place-test.true in
    let passed = subst (IsAnyOf headers (IsSameOf headers interface.header.name low.member) Answer) c.if-own_passes.false (c.own_passes.ensures interface.header interface.at) in
    next_interfaces headers hierarchy low.class (HasNone headers low Answer) places c.loop-place.place-index (Folder 0) interface.header c.loop-place-test.true interface.at passed c.loop-place.invariant

pub returns : goal.returns
returns g c =
    let headers = headers_of c.args.tree.now in
    let low = declared_by c.args.low.header.now.name c.args.low.member.now in
    let Answer = goal.F-post g c.args.test.now in
    unmet headers low Answer true
    (no_interface_left headers c.a_tree_is_a_hierarchy.ensures low.class (HasNone headers low Answer) c.superinterfaces-place-items.result.now c.loop-place.place-index c.loop-place-test.false c.loop-place.invariant)
