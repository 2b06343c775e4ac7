use Rattle.class_tree.specs.Headers.{headers_of}
use Rattle.member_link.specs.Inner.FinalEnds.{AreKnown, AreSweptBelow}
use Rattle.member_link.proofs.final_methods.sweep_numbers.Given as goal

abbrev pub invariant-loop-number : goal.invariant-loop-number
invariant-loop-number l =
    let headers = headers_of l.tree in
    AreSweptBelow headers l.spans l.ends.entries l.number × AreKnown headers l.known
