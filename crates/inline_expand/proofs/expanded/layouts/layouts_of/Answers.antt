use Rattle.std.proofs.Common.{◌≡◌, ◌∷◌, ◌++◌, ◌+◌, ◌<◌, List, [], length, refl, sym, ap, subst, ◌∙◌, take, arith}
use Rattle.std.proofs.lemmas.Option.{slice_get_read}
use Rattle.class_model.specs.Laws.Lists.{take_item}
use Rattle.inline_expand.proofs.LayoutParts.{behind-more, layouts-more}
use Rattle.inline_expand.proofs.expanded.layouts.layouts_of.Goals as goal
use Rattle.inline_expand.specs.Inner.Layouts.{AreLayouts}
use Rattle.inline_expand.specs.Inner.Steps.{Callee, callees_of, callee_by}
use Rattle.inline_expand.specs.declared.expanded.layouts.Layout.{Layout}

pub loop-body-preserved : goal.loop-body-preserved
loop-body-preserved c =
    let bodies = c.args.bodies.now in
    let at = c.loop-body.body-index in
    let body = c.body-item.result in
    let layouts = c.loop-body.layouts.items in
    let inside : at < length bodies = omega (arith, c.loop-body-test.true) in
    let own = take_item bodies at body (slice_get_read bodies (length bodies) at body refl inside c.body-item.is) in
    let callees = callees_of (take at bodies) in
    let all : callees_of (take (at + 1) bodies) ≡ callees ++ callee_by callees body ∷ [] = ap callees_of own ∙ behind-more [] (take at bodies) body in
    let layout = c.in_ok-layout.ensures callees (subst (AreLayouts callees) (sym c.as_slice.ensures.value) c.loop-body.invariant) in
    let are = layouts-more callees layouts (callee_by callees body) c.in_ok-layout.layout c.loop-body.invariant layout in
    subst (λ (items : List Layout). AreLayouts (callees_of (take (at + 1) bodies)) items) (sym c.in_ok-push.ensures.items) (subst (λ (some : List Callee). AreLayouts some (layouts ++ c.in_ok-layout.layout ∷ [])) (sym all) are)
