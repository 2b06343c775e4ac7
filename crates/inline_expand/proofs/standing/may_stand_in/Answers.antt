use Rattle.inline_expand.proofs.StandingParts.{stands_by}
use Rattle.inline_expand.proofs.standing.may_stand_in.Goals as goal

pub returns : goal.returns
returns c =
    stands_by c.args.tree.now c.args.host.now c.args.method.now.host c.args.method.now.frames.now
    (c.stands_alone.ensures.0 c.if-not-stands_alone.false)
    c.in_ok-own.own c.in_ok-own.ensures
    c.instrs.result.now c.instrs.ensures
    (c.are_open.ensures.0 c.if-not-are_open.false)
    (c.in_ok-takes_declared.ensures.0 c.if-not-branch.false)
    c.is_quiet_if_static.result c.is_quiet_if_static.ensures
