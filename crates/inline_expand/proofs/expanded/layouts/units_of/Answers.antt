use Rattle.std.proofs.Common.{◌≡◌, ◌∷◌, ◌+◌, ◌<◌, List, Option, None, drop, length, refl, sym, ap, subst, ◌∙◌, arith}
use Rattle.std.proofs.lemmas.List.{drop_all}
use Rattle.std.proofs.lemmas.Option.{slice_get_read}
use Rattle.class_model.specs.Laws.Lists.{drop_item}
use Rattle.expanded_code.specs.Expanded.{units_in}
use Rattle.inline_expand.proofs.LayoutParts.{HasLayout, has-layout, layout-units, next-units, no-units, units-more}
use Rattle.inline_expand.proofs.expanded.layouts.units_of.Goals as goal
use Rattle.inline_expand.proofs.expanded.layouts.units_of.Goals.{in-Some, in_default}
use Rattle.inline_expand.specs.Inner.Layouts.{capped, replacing}
use Rattle.inline_expand.specs.Inner.Steps.{expansion_by}
use Rattle.inline_expand.specs.declared.expanded.layouts.Layout.{Layout}
use Rattle.inline_expand.specs.declared.expansions.Step.{Step}

pub loop-step-preserved : goal.loop-step-preserved
loop-step-preserved c = record {
  few = elim c.match-replacing.branch [
    | in-Some w ↦ omega (arith, w.units-is, w.saturating_add-units.ensures)
    | in_default w ↦ omega (arith, w.units-is, c.loop-step.invariant.few)
  ];
  units = λ callees are.
      let steps = c.args.steps.now in
      let layouts = c.args.layouts.now in
      let at = c.loop-step.step-index in
      let step = c.step-item.result in
      let rest = drop (at + 1) steps in
      let inside : at < length steps = omega (arith, c.loop-step-test.true) in
      let cut : drop at steps ≡ step ∷ rest = drop_item steps at step (slice_get_read steps (length steps) at step refl inside c.step-item.is) in
      let before = ap (λ (all : List Step). capped (c.loop-step.units + units_in (expansion_by callees all))) (sym cut) ∙ c.loop-step.invariant.units callees are in
      let has = has-layout callees layouts step are in
      elim c.match-replacing.branch [
        | in-Some w ↦
            let found = subst (λ (layout : Option Layout). HasLayout (replacing callees step) layout) (sym w.in-Some.ensures) has in
            let next : c.match-replacing.units ≡ capped (c.loop-step.units + w.in-Some.layout.now.units) = w.units-is ∙ w.saturating_add-units.ensures in
            units-more callees c.loop-step.units c.match-replacing.units w.in-Some.layout.now.units step rest (units_in (expansion_by callees steps)) next (layout-units (replacing callees step) w.in-Some.layout.now found) before
        | in_default w ↦
            let none : replacing layouts step ≡ None = sym w.in_default.ensures in
            let no = no-units (replacing callees step) (subst (λ (layout : Option Layout). HasLayout (replacing callees step) layout) none has) in
            let own = next-units callees step rest in
            omega (arith, w.units-is, no, own, before)
      ];
}

pub returns : goal.returns
returns c = λ callees are.
    let steps = c.args.steps.now in
    let end = drop_all c.loop-step.step-index steps (omega (arith, c.loop-step-test.false)) in
    let done = ap (λ (all : List Step). capped (c.loop-step.units + units_in (expansion_by callees all))) (sym end) ∙ c.loop-step.invariant.units callees are in
    omega (arith, done, c.loop-step.invariant.few)
