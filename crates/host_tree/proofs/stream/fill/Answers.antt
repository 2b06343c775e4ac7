use Rattle.host_tree.proofs.Streams.{Consumes-more, Consumes-none, within_filled}
use Rattle.host_tree.proofs.stream.fill.Goals as goal

-- what was read stands after what was read before
pub loop-filled-preserved : goal.loop-filled-preserved
loop-filled-preserved g c =
    let before = c.loop-filled.invariant in
    let more = c.in_ok-count.ensures in
    record {
      within = within_filled _ _ _ c.loop-filled.buffer c.read_some.new.buffer before.within more.within;
      taken = Consumes-more _ _ _ _ _ _ c.loop-filled.buffer c.read_some.new.buffer before.within more.within before.taken more.taken;
    }

pub returns-then-count-eq0-clause-taken : goal.returns-then-count-eq0-clause-taken
returns-then-count-eq0-clause-taken g c =
    let before = c.loop-filled.invariant in
    let more = c.in_ok-count.ensures in
    Consumes-none _ _ _ _ _ _ c.loop-filled.buffer c.read_some.new.buffer before.within more.within c.if-count-eq0.true before.taken more.taken
