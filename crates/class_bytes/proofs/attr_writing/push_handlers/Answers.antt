-- The count, and one handler after the other.
use Rattle.std.proofs.Common.{refl}
use Rattle.class_bytes.proofs.Pushing.{none_pushed, one_pushed, all_pushed, all_numbers, on_err, unchanged, grown_behind}
use Rattle.class_bytes.proofs.attr_writing.push_handlers.Goals as goal

pub returns-in_err-push_u2-clause-err : goal.returns-in_err-push_u2-clause-err
returns-in_err-push_u2-clause-err c = on_err _ (unchanged _ _ c.in_err-push_u2.ensures.err)

pub loop-handler-init : goal.loop-handler-init
loop-handler-init c = none_pushed _ _ _ _ _ c.in_ok-push_u2.ensures.ok

pub returns-in_err-push_handler-clause-err : goal.returns-in_err-push_handler-clause-err
returns-in_err-push_handler-clause-err c = on_err _ (grown_behind _ _ _ _ _ _ _ c.loop-handler.invariant c.in_err-push_handler.ensures.err)

pub loop-handler-preserved : goal.loop-handler-preserved
loop-handler-preserved c = one_pushed _ _ _ _ _ _ _ _ _ c.loop-handler.invariant c.loop-handler-test.true refl c.in_ok-push_handler.ensures.ok c.in_ok-push_handler.ensures.numbers

pub returns-clause-ok : goal.returns-clause-ok
returns-clause-ok c = all_pushed _ _ _ _ _ _ _ c.loop-handler.invariant c.loop-handler-test.false c.as_slice-handlers.ensures

pub returns-clause-numbers : goal.returns-clause-numbers
returns-clause-numbers c = all_numbers _ _ _ _ _ _ _ c.loop-handler.invariant c.loop-handler-test.false c.as_slice-handlers.ensures
