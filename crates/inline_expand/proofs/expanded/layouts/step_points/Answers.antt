use Rattle.std.proofs.Common.{◌≡◌, Option, Some, None, sym, ap, subst, ◌∙◌}
use Rattle.inline_expand.proofs.LayoutParts.{HasLayout, has-layout, layout-points, no-points}
use Rattle.inline_expand.proofs.expanded.layouts.step_points.Goals as goal
use Rattle.inline_expand.specs.Inner.Layouts.{capped, replacing}
use Rattle.inline_expand.specs.declared.expanded.layouts.Layout.{Layout}

pub returns-in-Some : goal.returns-in-Some
returns-in-Some c = λ callees method are returns.
    let step = c.args.step.now in
    let found : replacing c.args.layouts.now step ≡ Some c.in-Some.layout.now = sym c.in-Some.ensures in
    let has = subst (λ (layout : Option Layout). HasLayout (replacing callees step) layout) found (has-layout callees c.args.layouts.now step are) in
    layout-points (replacing callees step) c.in-Some.layout.now method c.args.instr.now has

pub returns-in-None : goal.returns-in-None
returns-in-None c = λ callees method are returns.
    let step = c.args.step.now in
    let found : replacing c.args.layouts.now step ≡ None = sym c.in-None.ensures in
    let has = subst (λ (layout : Option Layout). HasLayout (replacing callees step) layout) found (has-layout callees c.args.layouts.now step are) in
    c.own_points.ensures method returns ∙ ap capped (sym (no-points (replacing callees step) method c.args.instr.now has))
