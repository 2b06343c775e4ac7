use Rattle.std.proofs.Common.{◌≡◌, drop}
use Rattle.std.specs.List.{list_any}
use Rattle.machine_run.specs.Inner.ActWords.{makes_object}
use Rattle.machine_run.proofs.acting.handles.has_maker.Given as goal

abbrev pub invariant-loop-index : goal.invariant-loop-index
invariant-loop-index l =
    list_any (makes_object l.pool l.class l.desc) l.pool
    ≡ list_any (makes_object l.pool l.class l.desc) (drop l.index l.pool)
