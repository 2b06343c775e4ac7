use Rattle.std.proofs.Common.{◌≡◌, ◌+◌, ◌<◌, ℕ, List, Some, get_or, length, sym, ap, ◌∙◌, arith}
use Rattle.std.proofs.lemmas.List.{get_or_read}
use Rattle.class_model.specs.declared.instr.Placed.{Placed}
use Rattle.expanded_code.specs.Expanded.{Narrowing, units_in}
use Rattle.inline_expand.proofs.LayoutParts.{as-long, layout-is}
use Rattle.inline_expand.proofs.expanded.layouts.layout_of.Goals as goal
use Rattle.inline_expand.specs.Inner.Layouts.{capped, return_width}
use Rattle.inline_expand.specs.Inner.Steps.{callee_by, expansion_by}
use Rattle.inline_expand.specs.declared.expansions.Step.{Step}
use Rattle.member_link.specs.Scope.{Scope, instructions}

pub returns : goal.returns
returns c = λ callees are.
    let body = c.args.body.now in
    let s : Scope = body.host in
    let instrs = c.instrs.result.now in
    let starts = c.in_ok-starts.starts.items in
    let shape = c.in_ok-shape.ensures in
    let width : c.len.result + 1 ≡ return_width s = ap (λ (n : ℕ). n + 1) (c.len.ensures ∙ ap (λ (all : List Narrowing). length all) (sym shape.narrowing)) in
    let long : length starts ≡ length (instructions s) + 1 = c.in_ok-starts.ensures.len in
    let as-many : length instrs ≡ length (instructions s) = ap (λ (all : List Placed). length all) c.instrs.ensures in
    let inside : length instrs < length starts = omega arith in
    let own = get_or_read starts (length instrs) c.index-own.result.now inside c.index-own.ensures 0 ∙ ap (λ (n : ℕ). get_or starts n 0) as-many in
    layout-is (callee_by callees body) (record { shape = c.in_ok-shape.shape; starts = c.in_ok-starts.starts; points = c.saturating_add-points.result; units = c.saturating_add-units.result })
    c.points_before.result c.index-own.result.now c.units_of-inner.result
    shape
    (c.in_ok-starts.ensures.numbers callees (Some s) are (ap Some width))
    (as-long callees (instructions s) body.steps c.requires.steps)
    (c.points_before.ensures s shape)
    own
    c.saturating_add-points.ensures
    (c.units_of-inner.ensures callees are ∙ ap (λ (steps : List Step). capped (units_in (expansion_by callees steps))) c.as_slice.ensures)
    (c.saturating_add-units.ensures ∙ ap (λ (n : ℕ). capped (n + c.units_of-inner.result)) c.max_locals.ensures)
