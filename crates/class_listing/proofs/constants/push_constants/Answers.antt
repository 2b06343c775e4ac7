-- One more constant.
use Rattle.std.proofs.Common.{rules}
use Rattle.class_listing.proofs.EntryTexts.{more_entries}
use Rattle.class_listing.proofs.constants.push_constants.Goals as goal

pub loop-index-preserved : goal.loop-index-preserved
loop-index-preserved c =
    more_entries c.args.out.now.items c.loop-index.out.items c.push_entry.new.out.items c.args.pool.now c.loop-index.index (search rules) c.loop-index.invariant c.in_ok-push_entry.ensures
