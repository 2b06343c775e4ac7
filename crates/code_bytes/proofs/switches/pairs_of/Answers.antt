-- Each part is one pair more, and all are all.
use Rattle.std.proofs.Common.{[], ap, ◌∙◌, map}
use Rattle.std.proofs.lemmas.List.{map_more, take_all}
use Rattle.code_bytes.specs.Inner.Operands.{pair_in}
use Rattle.code_bytes.proofs.switches.pairs_of.Goals as goal

pub loop-part-preserved : goal.loop-part-preserved
loop-part-preserved c =
    let more = map_more (pair_in c.args.at) c.args.parts.now c.loop-part.part-index [] c.loop-part-test.true in
    cc (more, c.in_ok-push.ensures.items, c.pair_of.ensures)

pub returns : goal.returns
returns c =
    c.from_vec.ensures ∙ c.loop-part.invariant ∙ ap (map (pair_in c.args.at)) (take_all c.loop-part.part-index c.args.parts.now c.loop-part-test.false)
