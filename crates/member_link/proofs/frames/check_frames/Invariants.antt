use Rattle.member_link.specs.Inner.Resolving.{resolved_scope}
use Rattle.member_link.specs.Uses.{frame_checks}
use Rattle.member_link.proofs.EachUse.{AskedBelow}
use Rattle.member_link.proofs.frames.check_frames.Given as goal

abbrev pub invariant-loop-placed : goal.invariant-loop-placed
invariant-loop-placed l = AskedBelow (frame_checks (resolved_scope l.resolver l.member)) l.frames l.placed-index
