use Rattle.std.proofs.Common.{Option, sym, ap, subst, ◌∙◌}
use Rattle.std.specs.Option.{option_copied}
use Rattle.flow_code.specs.FlatCode.{point_at}
use Rattle.flow_code.specs.declared.point.Point.{Point}
use Rattle.plan_flow.specs.Effect.{IsEffectIn}
use Rattle.plan_flow.specs.PlanScope.{scope_of}
use Rattle.plan_flow.proofs.AskedSites.{found_point}
use Rattle.plan_flow.proofs.effects.effect.Goals as goal

pub returns : goal.returns
returns c = λ links are.
    let s = scope_of c.args.tree.now links c.args.flat.now in
    let found = found_point (λ (p : Point). p.instr) (point_at c.args.flat.now c.args.at) c.in-Some.instr.now (sym c.instr.ensures ∙ ap option_copied c.in-Some.is) in
    subst (λ (point : Option Point). IsEffectIn s c.args.at point c.args.state.now c.in_ok-edges.edges) (sym found.1)
    (c.in_ok-edges.ensures links found.0 are found.1)
