use Rattle.std.proofs.Common.{◌+◌, arith, length-drop}
use Rattle.host_tree.proofs.Streams.{Appends-more, rest_whole}
use Rattle.host_tree.proofs.stream.write_all.Goals as goal

-- what was taken is written after what was written before
pub loop-written-preserved : goal.loop-written-preserved
loop-written-preserved g c = record {
  within = omega (arith, rw (rest_whole, length-drop) at c.in_ok-written.ensures.within);
  appended = Appends-more _ _ _ c.loop-written.written c.in_ok-written.field-0 _ c.loop-written.invariant.appended c.in_ok-written.ensures.ok;
}

pub returns-in_err-written-clause-prefix : goal.returns-in_err-written-clause-prefix
returns-in_err-written-clause-prefix g c =
    let more = c.in_err-written.ensures.err in
    (c.loop-written.written + more.0, Appends-more _ _ _ c.loop-written.written more.0 _ c.loop-written.invariant.appended more.1)
