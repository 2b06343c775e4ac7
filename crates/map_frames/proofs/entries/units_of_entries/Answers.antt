use Rattle.std.proofs.Common.{rules, ◌≡◌, ◌^◌, ◌-◌, ◌<◌, ℕ, List, [], ◌∷◌, length, take, ap, arith, length-append}
use Rattle.std.proofs.lemmas.List.{length-take}
use Rattle.class_model.specs.Frames.{units_of_entries}
use Rattle.class_model.specs.declared.frame.VType.{VType}
use Rattle.map_frames.proofs.EntryUnits.{depth_few}
use Rattle.map_frames.proofs.entries.units_of_entries.Goals as goal

-- the units of the entries before one leave room for its own
few_before : (entries units : List VType) (at : ℕ) → length entries < 2 ^ 63 - 1 → at < length entries → units ≡ units_of_entries (take at entries) → length units < 2 ^ 64 - 2
few_before entries units at small within are =
    omega (arith, ap length are, depth_few (take at entries), length-take at entries)

pub push-requires : goal.push-requires
push-requires c = omega (arith, few_before c.args.entries.now c.loop-entry.units c.loop-entry.entry-index (search rules) (search rules) c.loop-entry.invariant)

pub push-requires-then-is_wide : goal.push-requires-then-is_wide
push-requires-then-is_wide c =
    let pushed = ap length c.in_ok-push.ensures.ok in
    let few = few_before c.args.entries.now c.loop-entry.units c.loop-entry.entry-index (search rules) (search rules) c.loop-entry.invariant in
    omega (arith, pushed, few, length-append c.loop-entry.units (c.in_ok-copy.field-0 ∷ []))
