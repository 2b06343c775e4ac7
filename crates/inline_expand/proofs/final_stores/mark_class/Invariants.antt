use Rattle.class_tree.specs.Headers.{headers_of}
use Rattle.inline_expand.specs.Inner.StoreWords.{Adds, StoresFrom}
use Rattle.inline_expand.proofs.final_stores.mark_class.Given as goal

abbrev pub invariant-loop-index : goal.invariant-loop-index
invariant-loop-index l = Adds (StoresFrom (headers_of l.tree) l.class l.number l.index) l.fn.marks l.marks
