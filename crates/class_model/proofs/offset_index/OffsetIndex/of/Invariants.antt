use Rattle.std.proofs.Common.{◌≡◌, map, vec_len, take}
use Rattle.class_model.specs.OffsetIndexes.{IsIndexOf}
use Rattle.class_model.proofs.offset_index.OffsetIndex.of.Given as goal

abbrev pub invariant-loop-thing : goal.invariant-loop-thing
invariant-loop-thing g l = (vec_len l.numbers ≡ l.len) × (l.number ≡ l.thing-index) × IsIndexOf (take l.thing-index (map g.T.HasOffset.at l.things)) l.numbers.items
