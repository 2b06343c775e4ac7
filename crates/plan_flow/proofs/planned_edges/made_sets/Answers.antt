use Rattle.std.proofs.Common.{◌<◌, length, Some, sym, ap, ◌∙◌, rules}
use Rattle.std.proofs.lemmas.Option.{slice_get-get_or}
use Rattle.plan_flow.specs.Inner.Reaching.{reached_in}
use Rattle.plan_flow.proofs.OwnPlans.{sets_next}
use Rattle.plan_flow.proofs.planned_edges.made_sets.Goals as goal

pub loop-edge-preserved : goal.loop-edge-preserved
loop-edge-preserved c =
    let edge = c.in-Some.edge.now in
    let inside : c.loop-edge.number < length c.args.edges.now = search rules in
    let is = slice_get-get_or c.args.edges.now c.loop-edge.number edge inside ∙ ap Some (sym c.in-Some.ensures.lookup.1) in
    sets_next (reached_in c.args.states.now) c.args.edges.now c.loop-edge.number c.loop-edge.made c.put_made.new.made edge c.in_ok-sites.sites
    c.loop-edge.invariant is c.in_ok-sites.ensures c.in_ok-put_made.ensures
