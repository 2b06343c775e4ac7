use Rattle.std.proofs.Common.{◌≡◌, drop}
use Rattle.member_link.specs.Machine.Classes.{constant_of}
use Rattle.machine_run.proofs.starts.constant_of.Given as goal

abbrev pub invariant-loop-attr : goal.invariant-loop-attr
invariant-loop-attr l = constant_of l.pool (drop l.attr-index l.attrs) ≡ constant_of l.pool l.attrs
