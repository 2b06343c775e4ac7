use Rattle.std.proofs.Common.{◌∙◌, sym, rules}
use Rattle.class_model.specs.contracts.frame.VTypePartialEq.TheImpl.{ghosts as comparison}
use Rattle.verify_folder.proofs.SameUnits.{one_compared, same_options, same_within}
use Rattle.verify_folder.proofs.active.is_same_within.Goals as goal

pub loop-at-preserved : goal.loop-at-preserved
loop-at-preserved c =
    one_compared c.args.last.now c.args.locals.now c.args.from c.loop-at.at c.loop-at.invariant
    (sym c.get.ensures ∙ same_options comparison.eq c.get.result c.get-in-loop-at.result c.if-ne.ensures (λ x y. search rules) ∙ c.get-in-loop-at.ensures)

pub returns : goal.returns
returns c = λ yes same. same_within c.args.last.now c.args.locals.now c.args.from c.args.end c.loop-at.at c.loop-at-test.false c.loop-at.invariant same
