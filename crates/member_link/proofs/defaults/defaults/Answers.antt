use Rattle.std.proofs.Common.{◌+◌, [], Option, drop, sym, subst, ◌∙◌}
use Rattle.class_tree.specs.Headers.{headers_of}
use Rattle.class_tree.specs.declared.place.Place.TheVariants.{Folder}
use Rattle.member_link.specs.Inner.DefaultsAt.{IsDefaultOf}
use Rattle.member_link.specs.declared.found.Found.{Found}
use Rattle.member_link.proofs.DefaultsSoFar.{IsSoFar, none_so_far, all_met, only_one, passed_over, first_met, second_met}
use Rattle.member_link.proofs.Superinterfaces.{superinterfaces_of, superinterface_at}
use Rattle.member_link.proofs.defaults.defaults.Goals as goal
use Rattle.member_link.proofs.defaults.defaults.Goals.{in-Some+else-is_some, in_default}

pub loop-interface-init : goal.loop-interface-init
loop-interface-init c = λ header at.
    let headers = headers_of c.args.tree.now in
    let hierarchy = c.a_tree_is_a_hierarchy.ensures in
    let places = c.superinterfaces-interface-items.result.now in
    none_so_far headers hierarchy header.name c.args.name.now c.args.desc.now places (superinterfaces_of headers hierarchy c.args.class places c.superinterfaces-interface-items.ensures header at)

pub default_of-requires-clause-interface : goal.default_of-requires-clause-interface
default_of-requires-clause-interface c = λ header at.
    superinterface_at (headers_of c.args.tree.now) c.a_tree_is_a_hierarchy.ensures c.args.class c.superinterfaces-interface-items.result.now c.superinterfaces-interface-items.ensures header at c.loop-interface.interface-index (Folder 0) c.loop-interface-test.true

pub returns-then-is_some : goal.returns-then-is_some
returns-then-is_some c = λ header at.
    let headers = headers_of c.args.tree.now in
    let hierarchy = c.a_tree_is_a_hierarchy.ensures in
    let places = c.superinterfaces-interface-items.result.now in
    let index = c.loop-interface.interface-index in
    let next = superinterface_at headers hierarchy c.args.class places c.superinterfaces-interface-items.ensures header at index (Folder 0) c.loop-interface-test.true in
    second_met headers hierarchy header.name c.args.name.now c.args.desc.now places index (Folder 0) c.loop-interface-test.true next.header next.at c.in-Some.found (c.in-Some.ensures header next.header at next.at) c.loop-interface.only (sym c.is_some.ensures ∙ c.if-is_some.true) (c.loop-interface.invariant header at)

pub loop-interface-preserved : goal.loop-interface-preserved
loop-interface-preserved c = λ header at.
    let headers = headers_of c.args.tree.now in
    let hierarchy = c.a_tree_is_a_hierarchy.ensures in
    let places = c.superinterfaces-interface-items.result.now in
    let index = c.loop-interface.interface-index in
    let are = superinterfaces_of headers hierarchy c.args.class places c.superinterfaces-interface-items.ensures header at in
    let next = superinterface_at headers hierarchy c.args.class places c.superinterfaces-interface-items.ensures header at index (Folder 0) c.loop-interface-test.true in
    let SoFar : Option Found → Type 0 = λ only. IsSoFar headers header.name c.args.name.now c.args.desc.now (drop (index + 1) places) only in
    let IsDefaultHere : Option Found → Type 0 = λ result. IsDefaultOf headers header.name c.args.name.now c.args.desc.now next.header.name result in
    let told = c.default_of.ensures header next.header at next.at in
    let met = c.loop-interface.invariant header at in
    elim c.match-default_of.branch [
      | in-Some+else-is_some w ↦ subst SoFar (sym w.only-is) (first_met headers hierarchy header.name c.args.name.now c.args.desc.now places index (Folder 0) c.loop-interface-test.true next.header next.at are.apart w.in-Some.found (subst IsDefaultHere w.in-Some.is told) c.loop-interface.only (sym w.is_some.ensures ∙ w.if-is_some.false) met)
      | in_default w ↦ subst SoFar (sym w.only-is) (passed_over headers hierarchy header.name c.args.name.now c.args.desc.now places index (Folder 0) c.loop-interface-test.true next.header next.at (subst IsDefaultHere w.in_default.is told) c.loop-interface.only met)
    ]

pub returns-in-Some-only : goal.returns-in-Some-only
returns-in-Some-only c = λ header at.
    let headers = headers_of c.args.tree.now in
    let hierarchy = c.a_tree_is_a_hierarchy.ensures in
    let places = c.superinterfaces-interface-items.result.now in
    let met = all_met headers hierarchy header.name c.args.name.now c.args.desc.now places c.loop-interface.interface-index c.loop-interface-test.false c.loop-interface.only (c.loop-interface.invariant header at) in
    only_one headers hierarchy header.name c.args.name.now c.args.desc.now places c.in-Some-only.found (subst (IsSoFar headers header.name c.args.name.now c.args.desc.now []) c.in-Some-only.is met)

pub returns-in-None : goal.returns-in-None
returns-in-None c = λ header at.
    let headers = headers_of c.args.tree.now in
    let hierarchy = c.a_tree_is_a_hierarchy.ensures in
    let places = c.superinterfaces-interface-items.result.now in
    let met = all_met headers hierarchy header.name c.args.name.now c.args.desc.now places c.loop-interface.interface-index c.loop-interface-test.false c.loop-interface.only (c.loop-interface.invariant header at) in
    subst (IsSoFar headers header.name c.args.name.now c.args.desc.now []) c.in-None.is met
