-- The count, and one interface after the other.
use Rattle.std.proofs.Common.{refl, rules}
use Rattle.class_bytes.proofs.Pushing.{none_pushed, one_pushed, all_pushed, all_numbers, on_err, unchanged, grown_behind}
use Rattle.class_bytes.proofs.writing.push_interfaces.Goals as goal

pub returns-in_err-push_u2-clause-err : goal.returns-in_err-push_u2-clause-err
returns-in_err-push_u2-clause-err c = on_err _ (unchanged _ _ c.in_err-push_u2.ensures.err)

pub loop-interface-init : goal.loop-interface-init
loop-interface-init c = none_pushed _ _ _ _ _ c.in_ok-push_u2.ensures.ok

pub returns-in_err-push_u2-2-clause-err : goal.returns-in_err-push_u2-2-clause-err
returns-in_err-push_u2-2-clause-err c = on_err _ (grown_behind _ _ _ _ _ _ _ c.loop-interface.invariant (unchanged _ _ c.in_err-push_u2-2.ensures.err))

pub loop-interface-preserved : goal.loop-interface-preserved
loop-interface-preserved c = one_pushed _ _ _ _ _ _ _ _ _ c.loop-interface.invariant c.loop-interface-test.true refl c.in_ok-push_u2-2.ensures.ok (search rules)

pub returns-clause-ok : goal.returns-clause-ok
returns-clause-ok c = all_pushed _ _ _ _ _ _ _ c.loop-interface.invariant c.loop-interface-test.false c.as_slice-interfaces.ensures

pub returns-clause-numbers : goal.returns-clause-numbers
returns-clause-numbers c = all_numbers _ _ _ _ _ _ _ c.loop-interface.invariant c.loop-interface-test.false c.as_slice-interfaces.ensures
