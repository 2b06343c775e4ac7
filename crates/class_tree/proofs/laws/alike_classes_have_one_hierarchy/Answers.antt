use Rattle.std.proofs.Common.{sym}
use Rattle.class_tree.specs.Laws.Alike.{alike_shapes, subtype_alike}
use Rattle.class_tree.proofs.AlikeHierarchies.{place_same, hierarchy_alike}
use Rattle.class_tree.proofs.laws.alike_classes_have_one_hierarchy.Goals as goal

pub returns-clause-hierarchy : goal.returns-clause-hierarchy
returns-clause-hierarchy c = λ one other alike.
    let same = alike_shapes one other alike in
    (λ hierarchy. hierarchy_alike one other same hierarchy, λ hierarchy. hierarchy_alike other one (sym same) hierarchy)

pub returns-clause-subtypes : goal.returns-clause-subtypes
returns-clause-subtypes c = λ one other low high alike.
    let same = alike_shapes one other alike in
    (λ sub. subtype_alike one other same sub, λ sub. subtype_alike other one (sym same) sub)

pub returns-clause-places : goal.returns-clause-places
returns-clause-places c = λ one other name alike. place_same one other (alike_shapes one other alike) name
