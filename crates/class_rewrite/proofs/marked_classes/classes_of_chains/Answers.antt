use Rattle.std.proofs.Common.{◌≡◌, ℕ, false, length, replicate, ap, subst, ◌∙◌, arith}
use Rattle.class_tree.specs.Headers.{headers_of}
use Rattle.class_rewrite.proofs.AddedMarks.{chain_more, marked_all}
use Rattle.class_rewrite.proofs.marked_classes.classes_of_chains.Goals as goal
use Rattle.class_rewrite.specs.Inner.Marking.{Marks, StandsInChains}

pub loop-class-preserved : goal.loop-class-preserved
loop-class-preserved c =
    chain_more (headers_of c.args.tree.now) c.args.classes.now c.loop-class.class (replicate (length c.args.tree.now.folder) false) c.loop-class.marks
    c.mark_chain_of.new.marks c.loop-class.invariant c.in_ok-mark_chain_of.ensures

pub returns : goal.returns
returns c =
    let headers = headers_of c.args.tree.now in
    let count = length c.args.tree.now.folder in
    let end = c.loop-class-test.false in
    let before = c.loop-class.auto.class-end in
    let done : c.loop-class.class ≡ c.len-class-end.result = omega (arith, end, before) in
    marked_all (StandsInChains headers c.args.classes.now count) count c.loop-class.marks
    (subst (λ (n : ℕ). Marks (StandsInChains headers c.args.classes.now n) (replicate count false) c.loop-class.marks)
    (done ∙ c.len-class-end.ensures ∙ ap length c.folder-2.ensures.same) c.loop-class.invariant)
