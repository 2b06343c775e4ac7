use Rattle.std.proofs.Common.{◌≡◌, ◌<◌, ◌∙◌, sym, arith, length, ap}
use Rattle.class_model.proofs.LocalUnits.{units_below-set, length-units_below, tops-put}
use Rattle.class_model.proofs.local_types.LocalTypeList.set.Goals as goal

pub returns-clause-ok : goal.returns-clause-ok
returns-clause-ok c =
    let many : length c.args.self.now ≡ c.self.inside.len = ap length (sym c.self.view_is) ∙ length-units_below _ _ in
    let inside : c.args.at < c.self.inside.len = omega arith in
    rw (← c.self.view_is) (units_below-set c.self.inside.len c.in_ok-put.ensures.ok inside)

pub invariant_of-self-2 : goal.invariant_of-self-2
invariant_of-self-2 c =
    let many : length c.args.self.now ≡ c.self.inside.len = ap length (sym c.self.view_is) ∙ length-units_below _ _ in
    record { filler_is = c.self.invariant.filler_is; behind = tops-put c.self.inside.len c.self.invariant.behind c.in_ok-put.ensures.ok (omega arith) }
