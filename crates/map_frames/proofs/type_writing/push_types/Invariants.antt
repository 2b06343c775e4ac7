use Rattle.std.proofs.Common.{◌≡◌, ◌++◌, take}
use Rattle.map_frames.specs.Writing.{types_bytes}
use Rattle.map_frames.proofs.type_writing.push_types.Given as goal

abbrev pub invariant-loop-kind : goal.invariant-loop-kind
invariant-loop-kind l = l.out.items ≡ l.fn.out.items ++ types_bytes l.classes (take l.kind-index l.types)
