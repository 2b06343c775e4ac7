use Rattle.code_drafts.proofs.PartLaws.{pairs_end}
use Rattle.code_drafts.proofs.placing.pairs_to.Goals as goal

pub returns-in_default : goal.returns-in_default
returns-in_default c = pairs_end c.args.pairs.now c.args.numbers.now c.loop-at.at c.loop-at.made.items c.in_default.ensures.lookup.3
    c.loop-at.invariant
