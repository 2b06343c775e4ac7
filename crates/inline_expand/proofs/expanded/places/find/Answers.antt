use Rattle.std.proofs.Common.{◌<◌, length, refl, sym, ap, ◌∙◌, arith}
use Rattle.std.proofs.lemmas.List.{length-take-le}
use Rattle.std.proofs.lemmas.Option.{slice_get_read}
use Rattle.class_model.specs.Laws.Lists.{at_index}
use Rattle.inline_expand.proofs.CalleeParts.{callee-at, layout-found, no-callee, ready-before}
use Rattle.inline_expand.proofs.expanded.places.find.Goals as goal
use Rattle.inline_expand.specs.Inner.Layouts.{replacing}
use Rattle.inline_expand.specs.Inner.Steps.{IsBody, callees_of}
use Rattle.inline_expand.specs.declared.expansions.Step.{Step}

pub returns-then-at-bodies-clause-some : goal.returns-then-at-bodies-clause-some
returns-then-at-bodies-clause-some c =
    let bodies = c.args.bodies.now in
    let layouts = c.args.layouts.now in
    let at = c.in-Replaced.number in
    let body = c.index-bodies-at.result in
    let layout = c.index-layouts-at.result in
    let inside : at < length bodies = omega (arith, c.if-at-bodies.true) in
    let body_is = slice_get_read bodies (length bodies) at body refl inside c.index-bodies-at.is in
    let layout_is = slice_get_read layouts (length bodies) at layout (sym c.requires) inside c.index-layouts-at.is in
    record {
      is = ap (λ (step : Step). replacing (callees_of bodies) step) c.in-Replaced.is ∙ callee-at bodies at body body_is inside;
      fewer = omega (arith, length-take-le at bodies (omega arith), inside);
      ready = ready-before bodies layouts at body body_is inside;
      body = λ ready. at_index IsBody bodies at body ready.each body_is;
      layout = layout-found bodies layouts at body layout body_is inside layout_is;
    }

pub returns-else-at-bodies-clause-none : goal.returns-else-at-bodies-clause-none
returns-else-at-bodies-clause-none c =
    ap (λ (step : Step). replacing (callees_of c.args.bodies.now) step) c.in-Replaced.is
    ∙ no-callee c.args.bodies.now c.in-Replaced.number (omega (arith, c.if-at-bodies.false))
