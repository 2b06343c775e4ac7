use Rattle.class_tree.specs.Laws.Decided.{told, told_is}
use Rattle.class_tree.proofs.SubtypesDecided.{subtype_decided}
use Rattle.class_tree.proofs.laws.a_hierarchy_decides_subtypes.Goals as goal

pub returns : goal.returns
returns c = λ headers hierarchy. (λ low high. told (subtype_decided headers hierarchy low high), λ low high. told_is (subtype_decided headers hierarchy low high))
