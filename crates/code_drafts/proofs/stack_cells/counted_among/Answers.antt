use Rattle.std.proofs.Common.{rules, ◌+◌, ◌<◌, ℕ, option_map, sym, ap, subst, ◌∙◌, arith}
use Rattle.code_drafts.proofs.CellLaws.{Counts, counts_all, counts_next, counts_past}
use Rattle.code_drafts.proofs.stack_cells.counted_among.Goals as goal
use Rattle.code_drafts.specs.Inner.CellWords.{cell_meant}
use Rattle.plan_flow.specs.Written.Templates.{cells}

pub returns-in_default-clause-plain : goal.returns-in_default-clause-plain
returns-in_default-clause-plain c =
    (counts_past (cells c.args.types.now c.args.state.now) c.args.units c.args.first c.loop-left.plain c.loop-left.left c.loop-left.next c.loop-left.invariant
    (sym c.cell_at.ensures.is ∙ ap (option_map cell_meant) c.in_default.is)).0

pub returns-in_default-clause-next : goal.returns-in_default-clause-next
returns-in_default-clause-next c =
    (counts_past (cells c.args.types.now c.args.state.now) c.args.units c.args.first c.loop-left.plain c.loop-left.left c.loop-left.next c.loop-left.invariant
    (sym c.cell_at.ensures.is ∙ ap (option_map cell_meant) c.in_default.is)).1

pub overflow_add-next : goal.overflow_add-next
overflow_add-next c =
    let less = c.in-Some.ensures.inside in
    search rules

pub loop-left-preserved : goal.loop-left-preserved
loop-left-preserved c =
    let stack = cells c.args.types.now c.args.state.now in
    let cell = cell_meant c.in-Some.cell in
    let test = c.loop-left-test.true in
    let some : 0 < c.loop-left.left = omega (arith, test) in
    subst (λ (left : ℕ). Counts stack c.args.units c.args.first (c.loop-left.plain + c.from-plain.result) left (c.loop-left.next + 1)) (sym c.saturating_sub-left.ensures)
    (counts_next stack c.args.units c.args.first c.loop-left.plain c.loop-left.left c.loop-left.next c.from-plain.result cell c.loop-left.invariant (sym c.in-Some.ensures.is) some
    (c.from-plain.ensures ∙ c.plain_units.ensures) c.in-Some.ensures.units.0 c.in-Some.ensures.units.1)

pub returns-clause-plain : goal.returns-clause-plain
returns-clause-plain c =
    let test = c.loop-left-test.false in
    (counts_all (cells c.args.types.now c.args.state.now) c.args.units c.args.first c.loop-left.plain c.loop-left.left c.loop-left.next c.loop-left.invariant (omega (arith, test))).0

pub returns-clause-next : goal.returns-clause-next
returns-clause-next c =
    let test = c.loop-left-test.false in
    (counts_all (cells c.args.types.now c.args.state.now) c.args.units c.args.first c.loop-left.plain c.loop-left.left c.loop-left.next c.loop-left.invariant (omega (arith, test))).1
