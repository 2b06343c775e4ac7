use Rattle.class_tree.specs.Headers.{headers_of}
use Rattle.verify_folder.proofs.MethodWalk.{SoFar}
use Rattle.verify_folder.proofs.folder.verify_class.Given as goal

abbrev pub invariant-loop-number : goal.invariant-loop-number
invariant-loop-number l = SoFar (headers_of l.tree) l.class l.number l.typed
