use Rattle.std.proofs.Common.{rules, ◌≡◌, ◌+◌, arith, drop, sym}
use Rattle.std.specs.List.{flat_map}
use Rattle.std.specs.Result.{IsErrOf}
use Rattle.flow_code.specs.declared.reason.KeptFault.TheVariants.{Kept}
use Rattle.stackmap_emit.proofs.Adding.{adds_all, adds_full, adds_next, needs_next, units_end}
use Rattle.stackmap_emit.proofs.classes.add_units.Goals as goal
use Rattle.stackmap_emit.specs.FrameConstants.{type_needs}

pub returns-in_err-add_type-clause-full : goal.returns-in_err-add_type-clause-full
returns-in_err-add_type-clause-full c = λ reason is.
    let units = c.args.locals.now in
    let at = c.loop-at.at in
    let unit = c.in-Some.unit.now in
    let fails : IsErrOf c.add_type.result (Kept reason) = search rules in
    adds_full c.args.pool.now c.loop-at.pool c.args.noted.now c.loop-at.noted (flat_map type_needs units) (flat_map type_needs (drop at units))
    (type_needs unit) (flat_map type_needs (drop (at + 1) units)) reason (needs_next type_needs units at unit (sym c.in-Some.ensures)) c.loop-at.invariant
    (c.add_type.ensures.full reason fails)

pub loop-at-preserved : goal.loop-at-preserved
loop-at-preserved c =
    let units = c.args.locals.now in
    let at = c.loop-at.at in
    let unit = c.in-Some.unit.now in
    adds_next c.args.pool.now c.loop-at.pool c.add_type.new.pool c.args.noted.now c.loop-at.noted c.add_type.new.noted
    (flat_map type_needs units) (flat_map type_needs (drop at units)) (type_needs unit) (flat_map type_needs (drop (at + 1) units))
    (needs_next type_needs units at unit (sym c.in-Some.ensures)) c.loop-at.invariant c.in_ok-add_type.ensures.ok c.add_type.ensures.more

pub returns-clause-ok : goal.returns-clause-ok
returns-clause-ok c =
    let units = c.args.locals.now in
    let same : c.loop-at.at ≡ c.listed-at-end.result = omega (arith, c.loop-at-test.false, c.loop-at.auto.at-end) in
    adds_all c.args.pool.now c.loop-at.pool c.args.noted.now c.loop-at.noted (flat_map type_needs units) (flat_map type_needs (drop c.loop-at.at units))
    (units_end units c.loop-at.at c.listed-at-end.result same c.listed-at-end.ensures.tops) c.loop-at.invariant
