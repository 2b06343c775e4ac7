use Rattle.std.proofs.Common.{rules, ◌≡◌, ◌<◌, length, true, sym, arith}
use Rattle.member_link.specs.Machine.Stepping.{is_library_turn}
use Rattle.machine_run.proofs.RunTurns.{runs_on}
use Rattle.machine_run.proofs.running.end_left.Goals as goal

pub returns-else-used-len : goal.returns-else-used-len
returns-else-used-len c =
    let own : is_library_turn c.args.world.now.world.frames ≡ true = search rules in
    let few : c.args.used < length c.args.actions.now = omega (arith, c.if-used-len.false, c.len.ensures) in
    sym (runs_on c.args.world.now.world c.args.actions.now c.args.used own few)
