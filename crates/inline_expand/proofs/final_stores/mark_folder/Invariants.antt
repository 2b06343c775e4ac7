use Rattle.class_tree.specs.Headers.{headers_of}
use Rattle.inline_expand.specs.Inner.StoreWords.{Adds, StoredBefore}
use Rattle.inline_expand.proofs.final_stores.mark_folder.Given as goal

abbrev pub invariant-loop-number : goal.invariant-loop-number
invariant-loop-number l = Adds (StoredBefore (headers_of l.tree) l.tree.folder l.number) l.fn.marks l.marks
