use Rattle.std.proofs.Common.{◌≡◌, ◌-◌, length, take}
use Rattle.class_model.specs.Frames.{depth}
use Rattle.map_frames.proofs.entries.Entries.chop.Given as goal

abbrev pub invariant-loop : goal.invariant-loop
invariant-loop l =
    let before = l.initial.self-inside.types.items in
    record { kept : l.self-inside.types.items ≡ take (length before - l.counter) before; counted : l.self-inside.units ≡ depth l.self-inside.types.items }
