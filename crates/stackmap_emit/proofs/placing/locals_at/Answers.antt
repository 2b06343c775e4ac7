use Rattle.std.proofs.Common.{◌≡◌, ◌-◌, ℕ, arith, drop, length, replicate, subst}
use Rattle.class_model.specs.declared.frame.VType.TheVariants.{Top}
use Rattle.stackmap_emit.proofs.PlacedUnits.{placed_all}
use Rattle.stackmap_emit.proofs.placing.locals_at.Goals as goal
use Rattle.stackmap_emit.specs.Inner.PlacedUnits.{number_by}

pub returns : goal.returns
returns c =
    let units = c.args.units.now in
    let end : c.listed-at-end.result ≡ c.loop-at.at = omega (arith, c.loop-at-test.false, c.loop-at.auto.at-end) in
    placed_all (number_by c.args.starts.now.numbers.now c.args.starts.now.other) units c.loop-at.at c.loop-at.placed
    (subst (λ (n : ℕ). drop n units ≡ replicate (length units - n) Top) end c.listed-at-end.ensures.tops) c.loop-at.invariant
