use Rattle.std.proofs.Common.{◌≡◌, subst}
use Rattle.std.proofs.lemmas.Result.{IfOk-weaker}
use Rattle.machine_values.specs.Frames.{MethodState}
use Rattle.machine_run.specs.Inner.Moves.{StaysUnlessWent}
use Rattle.machine_run.specs.Inner.Performed.{CanFinishFrame}
use Rattle.machine_run.specs.declared.moves.Moved.{Moved}
use Rattle.machine_run.proofs.stepping.operate_op.Goals as goal

pub returns-in-Works-clause-can : goal.returns-in-Works-clause-can
returns-in-Works-clause-can c =
    let stays : c.move_frame.new.frame ≡ c.args.frame.now =
    subst (λ (moved : Moved). StaysUnlessWent c.args.frame.now c.move_frame.new.frame moved) c.in-Works.is c.in_ok-move_frame.ensures.stays
    in
    IfOk-weaker c.operate_on_stack.result _ _
    (λ operated can P program resolved.
    subst (λ (f : MethodState). CanFinishFrame f c.operate_on_stack.new.memory operated) stays (can P program resolved))
    c.operate_on_stack.ensures.can
