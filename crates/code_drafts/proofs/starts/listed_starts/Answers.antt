use Rattle.std.specs.Vec.Iter.{into_iter_items}
use Rattle.code_drafts.proofs.StartLaws.{past_firsts}
use Rattle.code_drafts.proofs.starts.listed_starts.Goals as goal
use Rattle.code_drafts.specs.Inner.DraftStarts.{draft_starts}

pub returns : goal.returns
returns c =
    past_firsts c.loop-first.starts (draft_starts c.args.blocks.items c.args.firsts.now) (into_iter_items c.loop-first.left) c.args.firsts.now
    c.loop-first.first-index
    c.loop-first-test.false c.loop-first.invariant
