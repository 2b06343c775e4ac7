use Rattle.std.proofs.Common.{subst}
use Rattle.std.specs.List.{AllByRecursion}
use Rattle.inline_expand.specs.Inner.Hosts.{CoversAlike}
use Rattle.inline_expand.proofs.AlonePoints.{handlers-alike}
use Rattle.inline_expand.proofs.handlers.handlers_from.Goals as goal

pub returns-clause-around : goal.returns-clause-around
returns-clause-around c =
    handlers-alike c.args.numbers.now c.args.at c.next_bound.result c.in_ok-handlers_at.field-0
    (subst (AllByRecursion (CoversAlike c.args.at c.next_bound.result)) c.handlers.ensures c.next_bound.ensures) c.in_ok-handlers_at.ensures
