use Rattle.std.proofs.Common.{◌≡◌, ◌+◌, ◌≤◌, [], ◌∷◌, take, arith}
use Rattle.class_model.specs.Frames.{depth}
use Rattle.type_rules.proofs.Depths.{depth_so_far}
use Rattle.type_rules.proofs.step.is_within.Goals as goal

-- the entries so far and this one take more
pub returns-then-left-units : goal.returns-then-left-units
returns-then-left-units c =
    let entries = c.args.entries.now in
    let at = c.loop-entry.entry-index in
    let entry = c.entry-item.result in
    let some : depth (take at entries) + depth (entry ∷ []) ≤ depth entries = depth_so_far entries at entry c.loop-entry-test.true c.entry-item.is in
    let so_far : c.loop-entry.left + depth (take at entries) ≡ c.args.most = c.loop-entry.invariant in
    ((λ no. absurd (cc no)), λ few. absurd (omega (arith, so_far, some, few, c.if-left-units.true, c.units_of-units.ensures)))
