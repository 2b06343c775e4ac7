use Rattle.std.specs.Option.{option_copied}
use Rattle.plan_flow.proofs.Cleaning.{is_raised}
use Rattle.plan_flow.proofs.targets.raised.Goals as goal

pub returns : goal.returns
returns c = λ s same at.
    is_raised s c.args.flat.now c.args.to c.args.behind.now c.in_ok-both.both c.in_ok-above.above (option_copied c.args.old)
    c.in_ok-both.ensures c.in_ok-above.ensures same at
