use Rattle.class_tree.specs.Headers.{headers_of}
use Rattle.inline_expand.proofs.MethodBuckets.{KeptBefore}
use Rattle.inline_expand.proofs.folder_methods.keep_folder.Given as goal

abbrev pub invariant-loop-class : goal.invariant-loop-class
invariant-loop-class l = KeptBefore (headers_of l.tree) l.class l.buckets
