use Rattle.std.proofs.Common.{take, ◌+◌, subst, sym, arith}
use Rattle.class_model.specs.declared.class_file.Handler.{Handler}
use Rattle.verify_folder.specs.Inner.Active.{AreStill}
use Rattle.verify_folder.proofs.InForce.{one_goes_on, one_has_ended}
use Rattle.verify_folder.proofs.typing.Typing.still_active.Goals as goal
use Rattle.verify_folder.proofs.typing.Typing.still_active.Goals.{then-at-from+in_ok-may_still_catch+else-not-branch+in_ok-push_active, else-at-from}

pub loop-handler-preserved : goal.loop-handler-preserved
loop-handler-preserved c =
    let s = c.args.self.now in
    let locals = c.args.before.now.locals in
    let active = c.args.active.now in
    let i = c.loop-handler.handler-index in
    let none : Handler = record { start = 0; end = 0; at = 0; catch_type = 0 } in
    elim c.if-at-from.branch [
      | then-at-from+in_ok-may_still_catch+else-not-branch+in_ok-push_active w ↦
          rw w.still-is (subst (AreStill s locals c.args.at (take (i + 1) active)) (sym w.in_ok-push_active.ensures)
          (one_goes_on s locals c.args.at active c.loop-handler.still.items i none c.loop-handler-test.true c.loop-handler.invariant (w.in_ok-may_still_catch.ensures.0 w.if-not-branch.false)))
      | else-at-from w ↦
          rw w.still-is (one_has_ended s locals c.args.at active c.loop-handler.still.items i none c.loop-handler-test.true c.loop-handler.invariant (omega (arith, w.if-at-from.false, c.from.ensures)))
    ]
