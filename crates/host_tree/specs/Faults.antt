-- The counts of faults by kind of call.
use Rattle.std.specs.Prelude.{ℕ}
use Rattle.host_tree.specs.declared.call.HostCall.{HostCall}
use Rattle.host_tree.specs.declared.call.HostCall.TheVariants.{List, Read, Write, Print}
use Rattle.host_tree.specs.declared.faults.Faults.{Faults}

abbrev pub count_of : Faults → HostCall → ℕ
count_of faults List = faults.list
count_of faults Read = faults.read
count_of faults Write = faults.write
count_of faults Print = faults.print
