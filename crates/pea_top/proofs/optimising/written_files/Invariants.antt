use Rattle.std.specs.Vec.Iter.{into_iter_items}
use Rattle.pea_top.proofs.WritingFiles.{AreWritten}
use Rattle.pea_top.proofs.optimising.written_files.Given as goal

abbrev pub invariant-loop-file : goal.invariant-loop-file
invariant-loop-file l = AreWritten l.tree l.written l.fn.files.items (into_iter_items l.file-iterator) l.outs.items l.names l.next
