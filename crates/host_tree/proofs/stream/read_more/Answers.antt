use Rattle.std.proofs.Common.{◌-◌, ◌≤◌, length, replicate, vec_len, arith, length-drop, length-take}
use Rattle.host_tree.proofs.Buffers.{Cut, kept, taken}
use Rattle.host_tree.proofs.stream.read_more.Goals as goal
use Rattle.host_tree.proofs.stream.read_more.Given.{Over}

-- what the vector has in the end
cut : (g : Over) (c : goal.After-truncate g) → Cut c.len-start.result c.in_ok-count.count c.resize.new.self.len c.args.bytes.now.items c.deref_mut.result.now c.fill.new.buffer c.truncate.new.self.items
cut g c =
    let size = c.in_ok-resize.ensures.len in
    let count = c.in_ok-count.ensures.within in
    let filled = simp (length-take, length-drop) at c.fill.auto.buffer in
    record {
      post = _;
      tail = _;
      start_is = omega (arith, c.args.bytes.now.ok.0);
      read = count;
      fits = omega (arith, size, filled);
      new_is = c.truncate.ensures.items;
    }

-- what it had stands in front
pub returns-clause-kept : goal.returns-clause-kept
returns-clause-kept g c =
    let grown : c.len-start.result ≤ c.saturating_add.result = omega (arith, c.args.bytes.now.small) in
    kept _ _ _ _ _ (replicate (c.saturating_add.result - vec_len c.args.bytes.now) 0) _ _ _ _ (cut g c) grown c.deref_mut.ensures.value c.in_ok-resize.ensures.items

-- what was read stands behind what it had
pub returns-clause-taken : goal.returns-clause-taken
returns-clause-taken g c =
    let fits : c.len-start.result ≤ length c.deref_mut.result.now = omega (arith, c.in_ok-resize.ensures.len, c.args.bytes.now.small) in
    taken _ _ _ _ _ _ _ _ _ (cut g c) fits c.in_ok-count.ensures.taken
