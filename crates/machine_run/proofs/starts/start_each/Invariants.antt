use Rattle.std.proofs.Common.{◌≡◌, zero, drop}
use Rattle.member_link.specs.Machine.Beginnings.{with_starts}
use Rattle.member_link.specs.Machine.Classes.{starts_from}
use Rattle.member_link.specs.Machine.Programs.{Program}
use Rattle.machine_run.specs.Inner.StartWords.{AreFieldsOf}
use Rattle.machine_run.proofs.starts.start_each.Given as goal

abbrev pub invariant-loop-number : goal.invariant-loop-number
invariant-loop-number l =
    (P : Program)
    → AreFieldsOf P l.class l.file
    → with_starts P l.class l.memory (starts_from l.file.pool l.number (drop l.number l.fields))
    ≡ with_starts P l.class l.initial.memory (starts_from l.file.pool zero l.file.fields)
