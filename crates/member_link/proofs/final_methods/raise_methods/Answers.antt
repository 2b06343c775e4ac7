use Rattle.std.proofs.Common.{subst, ◌∙◌}
use Rattle.std.specs.List.{All}
use Rattle.std.proofs.lemmas.Bool.{both_ways}
use Rattle.std.proofs.lemmas.List.{take_all}
use Rattle.std.proofs.lemmas.List.Elements.{All-nil}
use Rattle.member_link.specs.Inner.FinalEnds.{IsRaised, Reaches}
use Rattle.member_link.proofs.SweptMethods.{grows_same, raised_more}
use Rattle.member_link.proofs.final_methods.raise_methods.Goals as goal
use Rattle.member_link.proofs.final_methods.raise_methods.Goals.{then-has+in_ok-raise, else-has}

pub loop-method-init : goal.loop-method-init
loop-method-init c = (grows_same c.args.ends.now.entries, All-nil (IsRaised c.args.ends.now.entries c.args.end))

pub loop-method-preserved : goal.loop-method-preserved
loop-method-preserved c =
    elim c.if-has.branch [
      | then-has+in_ok-raise w ↦ rw w.ends-is (raised_more c.args.methods.now c.loop-method.method-index c.method-item.result c.loop-method-test.true c.method-item.is c.loop-method.invariant.0 w.in_ok-raise.ensures.grows c.loop-method.invariant.1 (λ final. subst (λ key. Reaches w.raise.new.ends.entries key c.args.end) w.signature_key.ensures w.in_ok-raise.ensures.raised))
      | else-has w ↦ rw w.ends-is (raised_more c.args.methods.now c.loop-method.method-index c.method-item.result c.loop-method-test.true c.method-item.is c.loop-method.invariant.0 (grows_same c.loop-method.ends.entries) c.loop-method.invariant.1 (λ final. absurd (both_ways _ w.if-has.false (c.has.ensures ∙ final))))
    ]

pub returns-clause-raised : goal.returns-clause-raised
returns-clause-raised c = subst (All (IsRaised c.loop-method.ends.entries c.args.end)) (take_all c.loop-method.method-index c.args.methods.now c.loop-method-test.false) c.loop-method.invariant.1
