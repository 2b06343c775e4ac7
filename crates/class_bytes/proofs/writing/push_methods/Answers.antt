-- The count, and one method after the other.
use Rattle.class_bytes.specs.Counts.{FitsMethod}
use Rattle.class_bytes.proofs.Pushing.{all_at, none_pushed, one_pushed, all_pushed, all_numbers, on_err, unchanged, grown_behind}
use Rattle.class_bytes.proofs.writing.push_methods.Goals as goal

pub returns-in_err-push_u2-clause-err : goal.returns-in_err-push_u2-clause-err
returns-in_err-push_u2-clause-err c = on_err _ (unchanged _ _ c.in_err-push_u2.ensures.err)

pub loop-method-init : goal.loop-method-init
loop-method-init c = none_pushed _ _ _ _ _ c.in_ok-push_u2.ensures.ok

pub push_method-requires : goal.push_method-requires
push_method-requires c = all_at FitsMethod _ _ _ _ c.requires.each c.as_slice-methods.ensures c.loop-method-test.true c.method-item.is

pub returns-in_err-push_method-clause-err : goal.returns-in_err-push_method-clause-err
returns-in_err-push_method-clause-err c = on_err _ (grown_behind _ _ _ _ _ _ _ c.loop-method.invariant c.in_err-push_method.ensures.err)

pub loop-method-preserved : goal.loop-method-preserved
loop-method-preserved c = one_pushed _ _ _ _ _ _ _ _ _ c.loop-method.invariant c.loop-method-test.true c.method-item.is c.in_ok-push_method.ensures.ok c.in_ok-push_method.ensures.numbers

pub returns-clause-ok : goal.returns-clause-ok
returns-clause-ok c = all_pushed _ _ _ _ _ _ _ c.loop-method.invariant c.loop-method-test.false c.as_slice-methods.ensures

pub returns-clause-numbers : goal.returns-clause-numbers
returns-clause-numbers c = all_numbers _ _ _ _ _ _ _ c.loop-method.invariant c.loop-method-test.false c.as_slice-methods.ensures
