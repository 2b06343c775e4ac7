use Rattle.std.proofs.Common.{◌≡◌, ◌-◌, ◌++◌, drop, take}
use Rattle.std.specs.Vec.Iter.{into_iter_items}
use Rattle.code_drafts.proofs.placing.move_items.Given as goal

abbrev pub invariant-loop : goal.invariant-loop
invariant-loop l =
    (l.written ++ take (l.count - l.counter) (into_iter_items l.left) ≡ l.fn.written ++ take l.count (into_iter_items l.fn.left))
    × (drop (l.count - l.counter) (into_iter_items l.left) ≡ drop l.count (into_iter_items l.fn.left))
