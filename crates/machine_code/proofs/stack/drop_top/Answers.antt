use Rattle.machine_code.proofs.Stacks.{drop_top_is}
use Rattle.machine_code.proofs.stack.drop_top.Goals as goal

pub returns : goal.returns
returns c =
    drop_top_is c.args.stack.now _ _ _ _ c.args.count c.stack.view_is
    c.truncate.ensures.items c.saturating_sub-left.ensures c.len.ensures
