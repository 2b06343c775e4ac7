-- The count, and one attribute after the other.
use Rattle.std.proofs.Common.{◌++◌, sym, ap, subst, ◌∙◌, rules}
use Rattle.class_model.specs.Spelling.{raw_bytes}
use Rattle.class_bytes.specs.Counts.{FitsContent, FitsInner}
use Rattle.class_bytes.proofs.Pushing.{all_at, none_pushed, one_pushed, all_pushed, all_numbers, on_err, unchanged, grown_behind}
use Rattle.class_bytes.proofs.attr_writing.push_inner_attrs.Goals as goal

pub returns-in_err-push_u2-clause-err : goal.returns-in_err-push_u2-clause-err
returns-in_err-push_u2-clause-err c = on_err _ (unchanged _ _ c.in_err-push_u2.ensures.err)

pub loop-attr-init : goal.loop-attr-init
loop-attr-init c = none_pushed _ _ _ _ _ c.in_ok-push_u2.ensures.ok

pub push_raw-requires : goal.push_raw-requires
push_raw-requires c = subst FitsContent (sym c.as_slice.ensures) (all_at FitsInner _ _ _ _ c.requires.each c.as_slice-attrs.ensures c.loop-attr-test.true c.attr-item.is)

pub returns-in_err-push_raw-clause-err : goal.returns-in_err-push_raw-clause-err
returns-in_err-push_raw-clause-err c = on_err _ (grown_behind _ _ _ _ _ _ _ c.loop-attr.invariant c.in_err-push_raw.ensures.err)

pub loop-attr-preserved : goal.loop-attr-preserved
loop-attr-preserved c = one_pushed _ _ _ _ _ _ _ _ _ c.loop-attr.invariant c.loop-attr-test.true c.attr-item.is (c.in_ok-push_raw.ensures.ok ∙ ap (λ content. c.loop-attr.out.items ++ raw_bytes c.attr-item.result.name content) c.as_slice.ensures) (search rules)

pub returns-clause-ok : goal.returns-clause-ok
returns-clause-ok c = all_pushed _ _ _ _ _ _ _ c.loop-attr.invariant c.loop-attr-test.false c.as_slice-attrs.ensures

pub returns-clause-numbers : goal.returns-clause-numbers
returns-clause-numbers c = all_numbers _ _ _ _ _ _ _ c.loop-attr.invariant c.loop-attr-test.false c.as_slice-attrs.ensures
