use Rattle.std.proofs.Common.{◌+◌, drop, sym, subst}
use Rattle.std.proofs.lemmas.Result.{err_from_is_err_and}
use Rattle.verify_folder.proofs.Walking.{IsOnWalk, one_typed, step_stops, all_typed}
use Rattle.verify_folder.proofs.typing.Typing.walk.Goals as goal

pub loop-placed-preserved : goal.loop-placed-preserved
loop-placed-preserved c =
    let s = c.args.self.now in
    let instrs = c.as_slice-placed-items.result.now in
    let i = c.loop-placed.placed-index in
    let on = subst (λ frames. IsOnWalk s frames c.in_ok-before.next (drop (i + 1) instrs)) (sym c.in_ok-push.ensures.ok)
    (one_typed s c.loop-placed.frames c.loop-placed.flows instrs i c.loop-placed.invariant.0 c.placed-item.result c.loop-placed-test.true c.placed-item.is c.in_ok-before.before c.in_ok-before.next c.in_ok-before.ensures.told) in
    (on, c.in_ok-before.ensures.in_force, c.in_ok-before.ensures.known)

pub returns-in-None : goal.returns-in-None
returns-in-None c =
    all_typed c.args.self.now c.loop-placed.frames c.loop-placed.flows c.as_slice-placed-items.result.now c.loop-placed.placed-index c.loop-placed.invariant.0 c.loop-placed-test.false c.in-None.is

pub returns-in_err-before : goal.returns-in_err-before
returns-in_err-before c =
    let p = err_from_is_err_and c.from_residual-in_err-before.result c.from_residual-in_err-before.ensures.1 in
    rw (p.1, p.2) (step_stops c.args.self.now c.loop-placed.frames c.loop-placed.flows c.as_slice-placed-items.result.now c.loop-placed.placed-index c.loop-placed.invariant.0 c.placed-item.result c.loop-placed-test.true c.placed-item.is c.in_err-before.field-0.0 c.in_err-before.ensures.told)
