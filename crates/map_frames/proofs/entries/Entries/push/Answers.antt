use Rattle.std.proofs.Common.{arith}
use Rattle.map_frames.proofs.EntryUnits.{depth_fits}
use Rattle.map_frames.proofs.entries.Entries.push.Goals as goal

pub overflow_add-self : goal.overflow_add-self
overflow_add-self c =
    let v = c.push.new.self in
    omega (arith, depth_fits c.self.inside.types.items v.items c.args.entry _ _ c.self.invariant c.units_of-units.ensures c.in_ok-push.ensures.items (omega (arith, v.ok.0, v.ok.1, v.small)))
