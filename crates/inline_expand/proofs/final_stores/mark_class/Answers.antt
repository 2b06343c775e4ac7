use Rattle.std.proofs.Common.{◌≡◌, Some}
use Rattle.class_tree.specs.Headers.{headers_of}
use Rattle.inline_expand.proofs.AddedMarks.{adds_next, adds_same, adds_start}
use Rattle.inline_expand.specs.Inner.StoreWords.{StoresAt}
use Rattle.inline_expand.proofs.final_stores.mark_class.Goals as goal

pub loop-index-init : goal.loop-index-init
loop-index-init c = adds_start (λ index number. StoresAt (headers_of c.args.tree.now) c.args.class.now c.args.number index number) c.args.marks.now

pub loop-index-preserved : goal.loop-index-preserved
loop-index-preserved c =
    adds_next (λ index number. StoresAt (headers_of c.args.tree.now) c.args.class.now c.args.number index number) c.loop-index.index c.args.marks.now c.loop-index.marks c.mark.new.marks
    c.loop-index.invariant
    (adds_same (λ number. c.stored_class-found.result ≡ Some number) (StoresAt (headers_of c.args.tree.now) c.args.class.now c.args.number c.loop-index.index) c.loop-index.marks c.mark.new.marks
    c.stored_class-found.ensures c.mark.ensures)
