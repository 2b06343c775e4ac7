use Rattle.class_tree.specs.Headers.{headers_of}
use Rattle.verify_folder.proofs.MethodWalk.{IsTypedSoFar}
use Rattle.verify_folder.proofs.folder.check_class.Given as goal

abbrev pub invariant-loop-number : goal.invariant-loop-number
invariant-loop-number l = IsTypedSoFar (headers_of l.tree) l.class l.number
