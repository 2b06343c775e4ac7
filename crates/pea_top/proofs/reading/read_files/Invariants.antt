use Rattle.std.proofs.Common.{◌≡◌, IsTrue}
use Rattle.std.specs.List.{AllByRecursion}
use Rattle.std.specs.Vec.Iter.{into_iter_items}
use Rattle.class_tree.specs.Headers.{IsClassFile}
use Rattle.host_tree.specs.Host.{SameFiles}
use Rattle.host_tree.specs.Counts.{CountsOnly}
use Rattle.host_tree.specs.declared.call.HostCall.TheVariants.{Read}
use Rattle.pea_top.specs.Inner.ReadFiles.{AreClassesOf}
use Rattle.pea_top.proofs.FileReads.{HasReadFiles}
use Rattle.pea_top.proofs.reading.read_files.Given as goal

abbrev pub invariant-loop-name : goal.invariant-loop-name
invariant-loop-name g l =
    record {
      files : IsTrue g.H.Host.tells → SameFiles (g.H.Host.file l.initial.host) (g.H.Host.file l.host);
      printed : IsTrue g.H.Host.tells → g.H.Host.printed l.host ≡ g.H.Host.printed l.initial.host;
      counts : CountsOnly Read (g.H.Host.faults l.initial.host) (g.H.Host.faults l.host);
      read : IsTrue g.H.Host.tells → HasReadFiles (g.H.Host.file l.initial.host l.root) l.fn.names.items (into_iter_items l.name-iterator) l.files.items l.classes;
      pairs : AreClassesOf l.files.items l.classes;
      class_files : AllByRecursion IsClassFile l.classes;
    }
