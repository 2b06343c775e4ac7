use Rattle.std.proofs.Common.{◌≤◌, length, take}
use Rattle.class_tree.specs.Headers.{headers_of}
use Rattle.field_constructors.proofs.FieldTextLaws.{Descends, descs_down}
use Rattle.field_constructors.proofs.object_fields.field_texts.Given as goal

abbrev pub invariant-loop-left : goal.invariant-loop-left
invariant-loop-left l =
    Descends (headers_of l.tree) (descs_down (headers_of l.tree) l.upwards) l.fields.items (take l.left l.upwards)
    × (l.left ≤ length l.upwards)

abbrev pub decreases-loop-left : goal.decreases-loop-left
decreases-loop-left l = l.left
