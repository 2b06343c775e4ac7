use Rattle.std.proofs.Common.{◌≡◌, map, take}
use Rattle.class_tree.proofs.HeaderParts.{member}
use Rattle.class_tree.proofs.arrange.fields_of.Given as goal

abbrev pub invariant-loop-field : goal.invariant-loop-field
invariant-loop-field l = l.members ≡ map (λ field. member l.class.pool field.flags field.name field.desc) (take l.field-index l.class.fields)
