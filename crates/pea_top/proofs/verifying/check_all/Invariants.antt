use Rattle.std.proofs.Common.{◌≡◌, IsTrue}
use Rattle.host_tree.specs.declared.call.HostCall.{HostCall}
use Rattle.host_tree.specs.Host.{SameFiles}
use Rattle.verify_folder.specs.Verifying.{AreFirstTyped}
use Rattle.pea_top.proofs.verifying.check_all.Given as goal

abbrev pub invariant-loop-place : goal.invariant-loop-place
invariant-loop-place g l =
    record {
      files : IsTrue g.H.Host.tells → SameFiles (g.H.Host.file l.initial.host) (g.H.Host.file l.host);
      printed : IsTrue g.H.Host.tells → g.H.Host.printed l.host ≡ g.H.Host.printed l.initial.host;
      counts : (call : HostCall) → g.H.Host.faults l.host call ≡ g.H.Host.faults l.initial.host call;
      typed : AreFirstTyped l.tree l.place;
    }
