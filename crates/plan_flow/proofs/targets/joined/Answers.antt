use Rattle.std.proofs.Common.{ap}
use Rattle.std.specs.Option.{option_copied}
use Rattle.plan_flow.proofs.Cleaning.{joined_none}
use Rattle.plan_flow.proofs.targets.joined.Goals as goal

pub returns-in_ok-copy-in-None : goal.returns-in_ok-copy-in-None
returns-in_ok-copy-in-None c =
    joined_none c.args.behind.now c.in_ok-copy-in-None.field-0
    (option_copied c.args.old) (ap option_copied c.in-None.is) c.in_ok-copy-in-None.ensures
