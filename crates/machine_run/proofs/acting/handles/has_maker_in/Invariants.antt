use Rattle.std.proofs.Common.{◌≡◌, length}
use Rattle.std.specs.List.{list_any}
use Rattle.machine_run.specs.Inner.ActWords.{has_maker}
use Rattle.machine_run.proofs.acting.handles.has_maker_in.Given as goal

abbrev pub invariant-loop-file : goal.invariant-loop-file
invariant-loop-file l =
    list_any (has_maker l.class l.desc) l.files ≡ list_any (has_maker l.class l.desc) l.rest

abbrev pub decreases-loop-file : goal.decreases-loop-file
decreases-loop-file l = length l.rest
