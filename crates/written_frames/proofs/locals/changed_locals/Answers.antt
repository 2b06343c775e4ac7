use Rattle.std.proofs.Common.{◌≡◌, ◌-◌, ℕ, arith, drop, length, replicate, subst}
use Rattle.class_model.specs.declared.frame.VType.TheVariants.{Top}
use Rattle.written_frames.proofs.OwnUnits.{changed_all}
use Rattle.written_frames.proofs.locals.changed_locals.Goals as goal

pub returns : goal.returns
returns c =
    let types = c.args.types.now in
    let end : c.listed-at-end.result ≡ c.loop-at.at = omega (arith, c.loop-at-test.false, c.loop-at.auto.at-end) in
    changed_all c.args.flat.now types c.args.state.now.slots c.loop-at.at c.loop-at.locals
    (subst (λ (n : ℕ). drop n types ≡ replicate (length types - n) Top) end c.listed-at-end.ensures.tops) c.requires c.loop-at.invariant
