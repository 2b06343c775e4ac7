use Rattle.std.proofs.lemmas.List.{take_more}
use Rattle.inline_expand.proofs.MethodLists.{adds_one_more}
use Rattle.inline_expand.proofs.method_set.MethodSet.add_all.Goals as goal

pub loop-at-preserved : goal.loop-at-preserved
loop-at-preserved c =
    adds_one_more c.args.self.now c.loop-at.self c.add.new.self _ _ _ c.loop-at.invariant c.in_ok-add.ensures
    (take_more c.args.methods.now c.loop-at.at-index (record { class = 0; method = 0 }) c.loop-at-test.true)
