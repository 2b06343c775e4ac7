use Rattle.std.proofs.Common.{◌≡◌, ◌<◌, length, arith}
use Rattle.std.proofs.lemmas.Bool.Decides.{nat_tests}
use Rattle.plan_flow.proofs.Rounds.{rounds_first, rounds_next, rounds_closed, rounds_fewer, rounds_last}
use Rattle.plan_flow.proofs.settling.settled.Goals as goal

pub loop-alloc-init : goal.loop-alloc-init
loop-alloc-init c =
    rounds_first c.args.tree.now c.args.flat.now c.args.at c.args.state.now c.in_ok-left.left c.in_ok-sites.sites
    c.is_state.ensures c.in_ok-left.ensures c.in_ok-sites.ensures

pub without-requires : goal.without-requires
without-requires c =
    let links = c.a_tree_has_links.ensures in
    rounds_closed c.args.tree.now c.args.flat.now c.args.at c.args.state.now c.loop-alloc.left c.loop-alloc.sites
    c.loop-alloc.invariant links.0 links.1

pub loop-alloc-smaller : goal.loop-alloc-smaller
loop-alloc-smaller c =
    let links = c.a_tree_has_links.ensures in
    let some : 0 < length c.loop-alloc.sites = grind (arith, nat_tests) in
    let fewer : length c.in_ok-left-2.left.objects < length c.loop-alloc.left.objects =
    rounds_fewer c.args.tree.now c.args.flat.now c.args.at c.args.state.now c.loop-alloc.left c.in_ok-left-2.left
    c.loop-alloc.sites c.loop-alloc.invariant links.0 links.1 c.in_ok-left-2.ensures some in
    fewer

pub loop-alloc-preserved : goal.loop-alloc-preserved
loop-alloc-preserved c =
    rounds_next c.args.tree.now c.args.flat.now c.args.at c.args.state.now c.loop-alloc.left c.in_ok-left-2.left
    c.loop-alloc.sites c.in_ok-sites-2.sites c.loop-alloc.invariant c.in_ok-left-2.ensures c.in_ok-sites-2.ensures

pub returns : goal.returns
returns c =
    let none : length c.loop-alloc.sites ≡ 0 = grind (arith, nat_tests) in
    rounds_last c.args.tree.now c.args.flat.now c.args.at c.args.state.now c.loop-alloc.left c.loop-alloc.sites c.loop-alloc.invariant none
