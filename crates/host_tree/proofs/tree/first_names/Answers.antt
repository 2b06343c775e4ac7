use Rattle.std.proofs.Common.{ap, map, string_bytes, arith}
use Rattle.host_tree.proofs.Listings.{listing_of_all, listing_of_most}
use Rattle.host_tree.proofs.tree.first_names.Goals as goal
use Rattle.host_tree.proofs.tree.first_names.Goals.{in-None, in-Some+then-left-eq0}

-- the loop ends with all names, or before a name that has no room
pub returns : goal.returns
returns c =
    let ordered = c.keys-name-items.ensures.ordered in
    let left = map string_bytes c.loop-name.name-iterator in
    let split = c.loop-name.invariant.split in
    elim c.match-next.branch [
      | in-None w ↦ listing_of_all c.args.files.now c.args.most c.loop-name.names left ordered split (omega arith) (ap (map string_bytes) w.in-None.ensures.steps.0)
      | in-Some+then-left-eq0 w ↦ listing_of_most c.args.files.now c.args.most c.loop-name.names left ordered split (omega arith) (string_bytes w.in-Some.name.now) (map string_bytes c.next.new.self) (ap (map string_bytes) w.in-Some.ensures.steps) (omega arith)
    ]
