use Rattle.std.proofs.Common.{◌≡◌, length, ap, ◌∙◌, arith}
use Rattle.member_link.specs.Machine.Worlds.{World}
use Rattle.machine_run.proofs.Throws.{none_ended, one_ended}
use Rattle.machine_run.proofs.unwinding.end_methods.Goals as goal

pub loop-w-init : goal.loop-w-init
loop-w-init c = none_ended c.args.left c.args.w.now

pub loop-w-preserved : goal.loop-w-preserved
loop-w-preserved c =
    let many : c.frame_count.result ≡ length c.loop-w.w.frames = c.frame_count.ensures ∙ ap (λ (w : World). length w.frames) c.w.view_is in
    one_ended c.args.left c.args.w.now c.loop-w.w c.end_method.new.w c.loop-w.invariant (omega (arith, many, c.loop-w-test.true))
    c.end_method.ensures.method c.end_method.ensures.rest
