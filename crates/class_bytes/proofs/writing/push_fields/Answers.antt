-- The count, and one field after the other.
use Rattle.class_bytes.specs.Counts.{FitsField}
use Rattle.class_bytes.proofs.Pushing.{all_at, none_pushed, one_pushed, all_pushed, all_numbers, on_err, unchanged, grown_behind}
use Rattle.class_bytes.proofs.writing.push_fields.Goals as goal

pub returns-in_err-push_u2-clause-err : goal.returns-in_err-push_u2-clause-err
returns-in_err-push_u2-clause-err c = on_err _ (unchanged _ _ c.in_err-push_u2.ensures.err)

pub loop-field-init : goal.loop-field-init
loop-field-init c = none_pushed _ _ _ _ _ c.in_ok-push_u2.ensures.ok

pub push_field-requires : goal.push_field-requires
push_field-requires c = all_at FitsField _ _ _ _ c.requires.each c.as_slice-fields.ensures c.loop-field-test.true c.field-item.is

pub returns-in_err-push_field-clause-err : goal.returns-in_err-push_field-clause-err
returns-in_err-push_field-clause-err c = on_err _ (grown_behind _ _ _ _ _ _ _ c.loop-field.invariant c.in_err-push_field.ensures.err)

pub loop-field-preserved : goal.loop-field-preserved
loop-field-preserved c = one_pushed _ _ _ _ _ _ _ _ _ c.loop-field.invariant c.loop-field-test.true c.field-item.is c.in_ok-push_field.ensures.ok c.in_ok-push_field.ensures.numbers

pub returns-clause-ok : goal.returns-clause-ok
returns-clause-ok c = all_pushed _ _ _ _ _ _ _ c.loop-field.invariant c.loop-field-test.false c.as_slice-fields.ensures

pub returns-clause-numbers : goal.returns-clause-numbers
returns-clause-numbers c = all_numbers _ _ _ _ _ _ _ c.loop-field.invariant c.loop-field-test.false c.as_slice-fields.ensures
