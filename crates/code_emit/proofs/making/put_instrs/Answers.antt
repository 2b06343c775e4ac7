use Rattle.std.specs.Vec.Iter.{into_iter_items}
use Rattle.code_emit.proofs.PutLaws.{left_end, left_next}
use Rattle.code_emit.proofs.making.put_instrs.Goals as goal

pub loop-preserved : goal.loop-preserved
loop-preserved c =
    left_next c.args.instrs (into_iter_items c.loop.left) (into_iter_items c.next.new.self) c.in-Some.instr c.new.result c.new-in-loop.result c.args.kept.now c.loop.kept c.push.new.self
    c.len-count.result c.loop.counter c.loop.invariant c.loop-test.true c.in-Some.ensures.items c.new.ensures c.new-in-loop.ensures c.in_ok-push.ensures

pub returns : goal.returns
returns c =
    left_end c.args.instrs (into_iter_items c.loop.left) c.args.kept.now c.loop.kept c.len-count.result c.loop.counter c.loop.invariant c.loop-test.false
