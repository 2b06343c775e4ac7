use Rattle.plan_flow.proofs.LeastStarts.{differing_is}
use Rattle.plan_flow.proofs.least.made_between.Goals as goal

pub returns : goal.returns
returns c =
    differing_is c.args.state.now c.args.other.now c.in_ok-sites.sites c.is_state.ensures c.as_slice-order.ensures.order
    c.in_ok-sites.ensures
