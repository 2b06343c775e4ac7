use Rattle.std.proofs.Common.{◌≡◌, ◌+◌, ◌<◌, ℕ, List, None, get_or, length, refl, sym, ap, subst, ◌∙◌, arith}
use Rattle.std.proofs.lemmas.List.{get_or_read}
use Rattle.class_model.specs.declared.instr.Placed.{Placed}
use Rattle.expanded_code.specs.Expanded.{units_in}
use Rattle.inline_expand.proofs.LayoutParts.{as-long, points-by}
use Rattle.inline_expand.proofs.expanded.measures.measure_of.Goals as goal
use Rattle.inline_expand.specs.Inner.Layouts.{AreLayouts, capped}
use Rattle.inline_expand.specs.Inner.Measures.{host_expansion}
use Rattle.inline_expand.specs.Inner.Steps.{callees_of, expansion_by}
use Rattle.inline_expand.specs.declared.expansions.Step.{Step}
use Rattle.member_link.specs.Scope.{instructions}

pub returns : goal.returns
returns c =
    let host = c.args.host.now in
    let callees = callees_of c.args.bodies.now in
    let instrs = c.instrs.result.now in
    let starts = c.in_ok-starts.starts.items in
    let laid = c.in_ok-layouts.ensures in
    let numbers = c.in_ok-starts.ensures.numbers callees None (subst (AreLayouts callees) (sym c.as_slice.ensures.value) laid) refl in
    let long : length starts ≡ length (instructions host.host) + 1 = c.in_ok-starts.ensures.len in
    let as-many : length instrs ≡ length (instructions host.host) = ap (λ (all : List Placed). length all) c.instrs.ensures in
    let inside : length instrs < length starts = omega arith in
    let last = get_or_read starts (length instrs) c.index-points.result.now inside c.index-points.ensures 0 ∙ ap (λ (n : ℕ). get_or starts n 0) as-many in
    record {
      laid = laid;
      starts = numbers;
      points = points-by None starts (instructions host.host) (host_expansion c.args.bodies.now host) c.index-points.result.now numbers (as-long callees (instructions host.host) host.steps c.requires.host.steps) last;
      units = c.units_of-units.ensures callees (subst (AreLayouts callees) (sym c.as_slice-2.ensures.value) laid) ∙ ap (λ (steps : List Step). capped (units_in (expansion_by callees steps))) c.as_slice-3.ensures;
    }
