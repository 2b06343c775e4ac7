use Rattle.std.proofs.Common.{◌≡◌, ◌∷◌, ◌++◌, ◌+◌, ◌<◌, ◌≤◌, ℕ, List, [], drop, length, map, refl, sym, ap, ◌∙◌, arith, length-append}
use Rattle.std.proofs.lemmas.List.{drop_all}
use Rattle.std.proofs.lemmas.Option.{slice_get_read}
use Rattle.class_model.specs.Laws.Lists.{drop_item}
use Rattle.class_model.specs.declared.instr.Placed.{Placed}
use Rattle.inline_expand.proofs.LayoutParts.{capped-few, starts-more}
use Rattle.inline_expand.proofs.expanded.layouts.starts_of.Goals as goal
use Rattle.inline_expand.specs.Inner.Layouts.{capped, starts_from, step_points}
use Rattle.inline_expand.specs.Inner.Steps.{expansion_by}
use Rattle.inline_expand.specs.declared.expansions.Step.{Step}
use Rattle.member_link.specs.Scope.{instructions}

pub loop-at-preserved : goal.loop-at-preserved
loop-at-preserved c =
    let instrs = c.instrs-instrs.result.now in
    let steps = c.as_slice-steps.result.now in
    let at = c.loop-at.at in
    let placed = c.index-instrs-at.result in
    let step = c.index-steps-at.result in
    let number = c.loop-at.number in
    let in-instrs : at < length instrs = omega (arith, c.loop-at-test.true) in
    let as-many : length steps ≡ length instrs = ap (λ (all : List Step). length all) c.as_slice-steps.ensures ∙ c.requires ∙ ap (λ (all : List Placed). length all) (sym c.instrs-instrs.ensures) in
    let cut : drop at instrs ≡ placed ∷ drop (at + 1) instrs = drop_item instrs at placed (slice_get_read instrs (length instrs) at placed refl in-instrs c.index-instrs-at.is) in
    let cut-step : drop at steps ≡ step ∷ drop (at + 1) steps = drop_item steps at step (slice_get_read steps (length instrs) at step (sym as-many) in-instrs c.index-steps-at.is) in
    record {
      few = omega (arith, c.saturating_add-number.ensures);
      len = omega (arith, ap (λ (all : List ℕ). length all) c.in_ok-push.ensures.items, length-append c.loop-at.starts.items (number ∷ []), c.loop-at.invariant.len);
      numbers = λ callees method are returns.
          let whole = map capped (starts_from method 0 (instructions c.args.body.now.host) (expansion_by callees c.args.body.now.steps)) in
          let before : c.loop-at.starts.items ++ map capped (starts_from method number (placed ∷ drop (at + 1) instrs) (expansion_by callees (step ∷ drop (at + 1) steps))) ≡ whole =
          ap (λ (all : List Placed). c.loop-at.starts.items ++ map capped (starts_from method number all (expansion_by callees (step ∷ drop (at + 1) steps)))) (sym cut)
          ∙ ap (λ (all : List Step). c.loop-at.starts.items ++ map capped (starts_from method number (drop at instrs) (expansion_by callees all))) (sym cut-step)
          ∙ c.loop-at.invariant.numbers callees method are returns in
          ap (λ (items : List ℕ). items ++ map capped (starts_from method c.saturating_add-number.result (drop (at + 1) instrs) (expansion_by callees (drop (at + 1) steps)))) c.in_ok-push.ensures.items
          ∙ starts-more callees method c.loop-at.starts.items number c.saturating_add-number.result c.step_points.result placed (drop (at + 1) instrs) step (drop (at + 1) steps) whole
          c.loop-at.invariant.few c.saturating_add-number.ensures (c.step_points.ensures callees method are returns ∙ ap (λ (p : Placed). capped (step_points callees method p.instr step)) (sym c.index-instrs-at.is)) before;
    }

pub returns : goal.returns
returns c =
    let instrs = c.instrs-instrs.result.now in
    let steps = c.as_slice-steps.result.now in
    let at = c.loop-at.at in
    let number = c.loop-at.number in
    let as-many : length steps ≡ length instrs = ap (λ (all : List Step). length all) c.as_slice-steps.ensures ∙ c.requires ∙ ap (λ (all : List Placed). length all) (sym c.instrs-instrs.ensures) in
    let end : length instrs ≤ at = omega (arith, c.loop-at-test.false) in
    record {
      len = omega (arith, ap (λ (all : List ℕ). length all) c.in_ok-push-2.ensures.items, length-append c.loop-at.starts.items (number ∷ []), c.loop-at.invariant.len, c.loop-at.auto.at-end, ap (λ (all : List Placed). length all) c.instrs-instrs.ensures, end);
      numbers = λ callees method are returns.
          c.in_ok-push-2.ensures.items
          ∙ ap (λ (n : ℕ). c.loop-at.starts.items ++ n ∷ []) (sym (capped-few number c.loop-at.invariant.few))
          ∙ ap (λ (all : List Placed). c.loop-at.starts.items ++ map capped (starts_from method number all (expansion_by callees []))) (sym (drop_all at instrs end))
          ∙ ap (λ (all : List Step). c.loop-at.starts.items ++ map capped (starts_from method number (drop at instrs) (expansion_by callees all))) (sym (drop_all at steps (omega arith)))
          ∙ c.loop-at.invariant.numbers callees method are returns;
    }
