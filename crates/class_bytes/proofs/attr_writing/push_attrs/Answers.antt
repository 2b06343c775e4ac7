-- The count, and one attribute after the other.
use Rattle.class_bytes.specs.Counts.{FitsAttr}
use Rattle.class_bytes.proofs.Pushing.{all_at, none_pushed, one_pushed, all_pushed, all_numbers, on_err, unchanged, grown_behind}
use Rattle.class_bytes.proofs.attr_writing.push_attrs.Goals as goal

pub returns-in_err-push_u2-clause-err : goal.returns-in_err-push_u2-clause-err
returns-in_err-push_u2-clause-err c = on_err _ (unchanged _ _ c.in_err-push_u2.ensures.err)

pub loop-attr-init : goal.loop-attr-init
loop-attr-init c = none_pushed _ _ _ _ _ c.in_ok-push_u2.ensures.ok

pub push_attr-requires : goal.push_attr-requires
push_attr-requires c = all_at FitsAttr _ _ _ _ c.requires.each c.as_slice-attrs.ensures c.loop-attr-test.true c.attr-item.is

pub returns-in_err-push_attr-clause-err : goal.returns-in_err-push_attr-clause-err
returns-in_err-push_attr-clause-err c = on_err _ (grown_behind _ _ _ _ _ _ _ c.loop-attr.invariant c.in_err-push_attr.ensures.err)

pub loop-attr-preserved : goal.loop-attr-preserved
loop-attr-preserved c = one_pushed _ _ _ _ _ _ _ _ _ c.loop-attr.invariant c.loop-attr-test.true c.attr-item.is c.in_ok-push_attr.ensures.ok c.in_ok-push_attr.ensures.numbers

pub returns-clause-ok : goal.returns-clause-ok
returns-clause-ok c = all_pushed _ _ _ _ _ _ _ c.loop-attr.invariant c.loop-attr-test.false c.as_slice-attrs.ensures

pub returns-clause-numbers : goal.returns-clause-numbers
returns-clause-numbers c = all_numbers _ _ _ _ _ _ _ c.loop-attr.invariant c.loop-attr-test.false c.as_slice-attrs.ensures
