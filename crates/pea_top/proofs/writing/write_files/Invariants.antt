use Rattle.std.proofs.Common.{◌≡◌, IsTrue, take}
use Rattle.host_tree.specs.declared.call.HostCall.TheVariants.{Write}
use Rattle.host_tree.specs.Counts.{CountsOnly}
use Rattle.pea_top.specs.Inner.Writing.{Puts}
use Rattle.pea_top.proofs.writing.write_files.Given as goal

abbrev pub invariant-loop-file : goal.invariant-loop-file
invariant-loop-file g l =
    (IsTrue g.H.Host.tells → Puts l.root (take l.file-index l.files) (g.H.Host.file l.initial.host) (g.H.Host.file l.host))
    × (IsTrue g.H.Host.tells → g.H.Host.printed l.host ≡ g.H.Host.printed l.initial.host)
    × CountsOnly Write (g.H.Host.faults l.initial.host) (g.H.Host.faults l.host)
