use Rattle.std.proofs.Common.{◌≤◌, ap, ◌∙◌, arith, rules}
use Rattle.class_model.specs.Frames.{is_top}
use Rattle.plan_flow.specs.Inner.Fitting.{or_plain}
use Rattle.plan_flow.proofs.TopEntries.{any_inside, none_later, entries_start, entries_next, entries_end}
use Rattle.plan_flow.proofs.beneath.add_entries.Goals as goal

pub loop-at-init : goal.loop-at-init
loop-at-init c = entries_start c.args.sites.now c.args.state.now c.args.types.now c.args.entries.now

pub loop-at-smaller : goal.loop-at-smaller
loop-at-smaller c =
    let low = any_inside is_top c.loop-at.at c.args.types.now (c.tops_end-end.ensures.before c.loop-at.at c.loop-at-test.true) in
    omega (arith, low)

pub overflow_add-at : goal.overflow_add-at
overflow_add-at c =
    let low = any_inside is_top c.loop-at.at c.args.types.now (c.tops_end-end.ensures.before c.loop-at.at c.loop-at-test.true) in
    search rules

pub loop-at-preserved : goal.loop-at-preserved
loop-at-preserved c =
    entries_next c.args.state.now c.args.types.now c.args.entries.now c.loop-at.at _ c.or_plain-slot.result c.is_present.result
    c.loop-at.invariant (c.tops_end-end.ensures.before c.loop-at.at c.loop-at-test.true)
    (c.or_plain-slot.ensures ∙ ap or_plain c.slot_at.ensures) c.is_present.ensures c.in_ok-add_tested.ensures (omega arith)

pub returns : goal.returns
returns c =
    let past : c.tops_end-end.result ≤ c.loop-at.at = omega arith in
    entries_end c.args.state.now c.args.types.now c.args.entries.now c.loop-at.at c.loop-at.invariant (none_later c.args.types.now c.tops_end-end.result c.loop-at.at past c.tops_end-end.ensures.behind)
