use Rattle.std.proofs.Common.{◌≡◌, drop}
use Rattle.member_link.specs.Machine.Locals.{lookup_target}
use Rattle.machine_code.proofs.jumps.lookup_target.Given as goal

abbrev pub invariant-loop-pair : goal.invariant-loop-pair
invariant-loop-pair l =
    lookup_target l.other (drop l.pair-index l.pairs) l.key ≡ lookup_target l.other l.pairs l.key
