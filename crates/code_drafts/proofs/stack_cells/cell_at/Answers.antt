use Rattle.std.proofs.Common.{◌-◌, refl, sym, ap, ◌∙◌, arith}
use Rattle.std.specs.Option.{option_copied}
use Rattle.code_drafts.proofs.CellLaws.{cell_past, count_found, entry_there, no_slot, no_type}
use Rattle.code_drafts.proofs.stack_cells.cell_at.Goals as goal

pub returns-then-number-count-clause-is : goal.returns-then-number-count-clause-is
returns-then-number-count-clause-is c =
    let f = c.args.types.now in
    let state = c.args.state.now in
    let count = count_found f state c.as_slice-stack.result.now c.len-first.result c.len.result c.saturating_sub.result c.min-count.result
    c.as_slice-stack.ensures c.len-first.ensures c.len.ensures c.saturating_sub.ensures c.min-count.ensures in
    let past = c.if-number-count.true in
    sym (cell_past f state c.args.number (omega (arith, count, past)))

pub returns-in_default-clause-is : goal.returns-in_default-clause-is
returns-in_default-clause-is c =
    let f = c.args.types.now in
    let state = c.args.state.now in
    let count = count_found f state c.as_slice-stack.result.now c.len-first.result c.len.result c.saturating_sub.result c.min-count.result
    c.as_slice-stack.ensures c.len-first.ensures c.len.ensures c.saturating_sub.ensures c.min-count.ensures in
    let less = c.if-number-count.false in
    no_type f state c.as_slice-stack.result.now c.args.number _ c.min-count.result c.as_slice-stack.ensures count less refl
    (sym c.vtype_at.ensures ∙ ap option_copied c.in_default.is)

pub returns-in_default-slot-clause-is : goal.returns-in_default-slot-clause-is
returns-in_default-slot-clause-is c =
    let f = c.args.types.now in
    let state = c.args.state.now in
    let count = count_found f state c.as_slice-stack.result.now c.len-first.result c.len.result c.saturating_sub.result c.min-count.result
    c.as_slice-stack.ensures c.len-first.ensures c.len.ensures c.saturating_sub.ensures c.min-count.ensures in
    let less = c.if-number-count.false in
    no_slot f state c.args.number _ c.len-first.result c.min-count.result c.len-first.ensures count less refl (sym c.slot.ensures ∙ c.in_default-slot.is)

pub returns-clause-is : goal.returns-clause-is
returns-clause-is c =
    let f = c.args.types.now in
    let state = c.args.state.now in
    let count = count_found f state c.as_slice-stack.result.now c.len-first.result c.len.result c.saturating_sub.result c.min-count.result
    c.as_slice-stack.ensures c.len-first.ensures c.len.ensures c.saturating_sub.ensures c.min-count.ensures in
    let less = c.if-number-count.false in
    entry_there f state c.as_slice-stack.result.now c.args.number (c.min-count.result - c.args.number - 1) c.len-first.result _ c.min-count.result c.width.result _
    c.in-Some-slot.slot c.as_slice-stack.ensures c.len-first.ensures count less refl refl (sym c.in-Some.ensures) (sym c.slot.ensures ∙ c.in-Some-slot.is) c.width.ensures.is
