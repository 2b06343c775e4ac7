use Rattle.std.proofs.Common.{ap, sym, ◌∙◌}
use Rattle.member_link.specs.Machine.Performing.{unlocked}
use Rattle.machine_run.proofs.Handlers.{left_or_not}
use Rattle.machine_run.proofs.ending.leave_held.Goals as goal

pub returns-in-Some : goal.returns-in-Some
returns-in-Some c =
    let leaves = c.leave in
    left_or_not leaves.result c.args.memory.now leaves.new.self c.in-Some.at leaves.ensures.answer leaves.ensures.left leaves.ensures.same
    ∙ ap (unlocked c.args.memory.now) (sym c.in-Some.is)
