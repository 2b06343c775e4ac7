use Rattle.std.proofs.Common.{take}
use Rattle.class_tree.specs.Headers.{headers_of}
use Rattle.inline_expand.specs.Inner.FolderMethods.{AreKept}
use Rattle.inline_expand.proofs.folder_methods.keep_methods.Given as goal

abbrev pub invariant-loop-method : goal.invariant-loop-method
invariant-loop-method l = AreKept (headers_of l.tree) l.class (take l.method-index l.methods) l.fn.buckets l.buckets
