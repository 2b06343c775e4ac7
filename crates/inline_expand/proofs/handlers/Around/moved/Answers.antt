use Rattle.std.proofs.Common.{sym}
use Rattle.inline_expand.proofs.handlers.Around.moved.Goals as goal

pub returns-then-at-self-clause-at : goal.returns-then-at-self-clause-at
returns-then-at-self-clause-at c = sym (c.requires c.args.at c.if-self-at.true c.if-at-self.true)
