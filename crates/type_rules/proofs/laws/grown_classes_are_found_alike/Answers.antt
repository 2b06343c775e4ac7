use Rattle.std.proofs.Common.{◌≡◌, sym}
use Rattle.class_tree.specs.Headers.{Headers}
use Rattle.class_tree.specs.Laws.Alike.{alike_shapes, shapes}
use Rattle.type_rules.proofs.Grown.Assigning.{assigned, frame_assigned, throwable_still}
use Rattle.type_rules.proofs.Grown.Headers.{grown_alike, field_after, field_before}
use Rattle.type_rules.proofs.Grown.Methods.{at_or_below, class_accessible, field_accessible, looks_up, member_accessible, method_after, method_before}
use Rattle.type_rules.proofs.laws.grown_classes_are_found_alike.Goals as goal
use Rattle.type_rules.specs.Grown.{AreGrownHeaders}

same : (old new : Headers) → AreGrownHeaders old new → shapes old ≡ shapes new
same old new grown = alike_shapes old new (grown_alike old new grown)

pub returns-clause-alike : goal.returns-clause-alike
returns-clause-alike c = grown_alike

pub returns-clause-fields : goal.returns-clause-fields
returns-clause-fields c = λ old new class name desc field grown finds. field_after old new grown name desc class field finds

pub returns-clause-fields_before : goal.returns-clause-fields_before
returns-clause-fields_before c = λ old new class name desc found grown finds. field_before old new grown name desc class found finds

pub returns-clause-methods : goal.returns-clause-methods
returns-clause-methods c = λ old new class name desc method grown finds.
    method_after old new grown (looks_up c.alike_classes_have_one_look_up.ensures.methods old new grown) class name desc method finds

pub returns-clause-methods_before : goal.returns-clause-methods_before
returns-clause-methods_before c = λ old new class name desc method grown finds.
    method_before old new grown (looks_up c.alike_classes_have_one_look_up.ensures.methods old new grown) class name desc method finds

pub returns-clause-class_access : goal.returns-clause-class_access
returns-clause-class_access c = λ old new from name grown.
    (λ h. class_accessible old new (same old new grown) h, λ h. class_accessible new old (sym (same old new grown)) h)

pub returns-clause-method_access : goal.returns-clause-method_access
returns-clause-method_access c = λ old new from named method grown.
    (λ h. member_accessible old new (same old new grown) h, λ h. member_accessible new old (sym (same old new grown)) h)

pub returns-clause-field_access : goal.returns-clause-field_access
returns-clause-field_access c = λ old new from named field found grown is h.
    field_accessible new from named field found is (member_accessible old new (same old new grown) h)

pub returns-clause-above : goal.returns-clause-above
returns-clause-above c = λ old new low high grown.
    (λ h. at_or_below old new (same old new grown) h, λ h. at_or_below new old (sym (same old new grown)) h)

pub returns-clause-throwables : goal.returns-clause-throwables
returns-clause-throwables c = λ old new caught grown.
    (λ h. throwable_still old new (same old new grown) h, λ h. throwable_still new old (sym (same old new grown)) h)

pub returns-clause-types : goal.returns-clause-types
returns-clause-types c = λ old new low high grown.
    (λ h. assigned old new (same old new grown) h, λ h. assigned new old (sym (same old new grown)) h)

pub returns-clause-frames : goal.returns-clause-frames
returns-clause-frames c = λ old new from to grown.
    (λ h. frame_assigned old new (same old new grown) h, λ h. frame_assigned new old (sym (same old new grown)) h)
