use Rattle.type_rules.proofs.Grown.Rows.{asked_kept, left_same, read_kept, row_held}
use Rattle.type_rules.proofs.Grown.Scopes.{grown_item, same_room, same_shape}
use Rattle.type_rules.proofs.laws.rows_hold_among_grown_classes.Goals as goal

pub returns-clause-held : goal.returns-clause-held
returns-clause-held c = λ old new before place item asks grown held.
    row_held before (asked_kept asks (grown_item c.alike_classes_have_one_look_up.ensures.methods old new grown before place item)) old new (same_shape old new grown) (same_room old new grown) held

pub returns-clause-left : goal.returns-clause-left
returns-clause-left c = λ old new before place item grown.
    left_same before (grown_item c.alike_classes_have_one_look_up.ensures.methods old new grown before place item)

pub returns-clause-read : goal.returns-clause-read
returns-clause-read c = λ old new before place item reading grown held.
    row_held before (read_kept reading before (grown_item c.alike_classes_have_one_look_up.ensures.methods old new grown before place item)) old new (same_shape old new grown) (same_room old new grown) held

pub returns-clause-left_read : goal.returns-clause-left_read
returns-clause-left_read c = λ old new before place item reading grown.
    left_same before (read_kept reading before (grown_item c.alike_classes_have_one_look_up.ensures.methods old new grown before place item))
