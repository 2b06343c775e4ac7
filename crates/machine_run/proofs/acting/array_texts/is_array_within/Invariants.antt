use Rattle.std.proofs.Common.{◌≡◌}
use Rattle.member_link.specs.Machine.Acting.{is_array_within}
use Rattle.machine_run.proofs.acting.array_texts.is_array_within.Given as goal

abbrev pub invariant-loop-left : goal.invariant-loop-left
invariant-loop-left l = is_array_within l.dimensions l.text ≡ is_array_within l.left l.rest

abbrev pub decreases-loop-left : goal.decreases-loop-left
decreases-loop-left l = l.left
