-- Each word is one target more, and all are all.
use Rattle.std.proofs.Common.{[], ap, ◌∙◌, map}
use Rattle.std.proofs.lemmas.List.{map_more, take_all}
use Rattle.code_bytes.specs.Inner.Operands.{target_in}
use Rattle.code_bytes.proofs.switches.targets_of.Goals as goal

pub loop-word-preserved : goal.loop-word-preserved
loop-word-preserved c =
    let more = map_more (target_in c.args.at) c.args.words.now c.loop-word.word-index [] c.loop-word-test.true in
    cc (more, c.in_ok-push.ensures.items, c.target_of.ensures)

pub returns : goal.returns
returns c =
    c.from_vec.ensures ∙ c.loop-word.invariant ∙ ap (map (target_in c.args.at)) (take_all c.loop-word.word-index c.args.words.now c.loop-word-test.false)
