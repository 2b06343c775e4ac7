use Rattle.std.specs.Vec.Iter.{into_iter_items}
use Rattle.code_drafts.proofs.JoinLaws.{one_moved}
use Rattle.code_drafts.proofs.placing.move_items.Goals as goal

pub loop-preserved : goal.loop-preserved
loop-preserved c =
    one_moved c.args.written.now (into_iter_items c.args.left.now) (into_iter_items c.next.new.self) (into_iter_items c.loop.left) c.in-Some.item
    c.args.count c.loop.counter c.loop.written c.push.new.self
    c.loop-test.true c.loop.invariant.0 c.loop.invariant.1 c.in-Some.ensures.items c.in_ok-push.ensures.ok
