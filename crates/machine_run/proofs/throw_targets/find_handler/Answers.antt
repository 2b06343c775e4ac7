use Rattle.std.specs.Option.{option_copied}
use Rattle.machine_run.proofs.Places.{no_handler}
use Rattle.machine_run.proofs.throw_targets.find_handler.Goals as goal

pub returns-in-None-clause-handler : goal.returns-in-None-clause-handler
returns-in-None-clause-handler c = λ P is.
    let none = rw c.in-None.is at c.in_ok-method.ensures.prepared P is in
    no_handler P (option_copied c.args.shape) c.args.at c.args.place none
