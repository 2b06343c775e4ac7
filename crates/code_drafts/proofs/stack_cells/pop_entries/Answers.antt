use Rattle.std.proofs.Common.{◌≡◌, ◌+◌, slice_get, Some, option_map, sym, ap, ◌∙◌}
use Rattle.code_drafts.proofs.CellLaws.{popped_from, pops_end, pops_more, pops_past}
use Rattle.code_drafts.proofs.PutLaws.{puts_as, rest_all, rest_more}
use Rattle.code_drafts.proofs.stack_cells.pop_entries.Goals as goal
use Rattle.code_drafts.specs.Inner.CellWords.{cell_meant, shuffle_of}
use Rattle.plan_flow.specs.Written.Templates.{cells, plain_units, pops}

pub returns-in_default : goal.returns-in_default
returns-in_default c = λ flat.
    let stack = cells c.args.types.now c.args.state.now in
    let number = c.loop-number.number in
    rest_all flat c.args.kept.now c.loop-number.kept (popped_from stack c.args.count 0) (popped_from stack c.args.count number) (c.loop-number.invariant flat)
    (pops_past stack c.args.count number (sym c.cell_at.ensures.is ∙ ap (option_map cell_meant) c.in_default.is))

pub loop-number-preserved : goal.loop-number-preserved
loop-number-preserved c = λ flat.
    let stack = cells c.args.types.now c.args.state.now in
    let number = c.loop-number.number in
    let cell = cell_meant c.in-Some.cell in
    let there : slice_get stack number ≡ Some cell = sym c.cell_at.ensures.is ∙ ap (option_map cell_meant) c.in-Some.is in
    let same : shuffle_of c.popped.result ≡ pops (plain_units cell) = c.popped.ensures ∙ ap pops (c.from.ensures ∙ c.plain_units.ensures) in
    rest_more flat c.args.kept.now c.loop-number.kept c.put_shuffle.new.kept (popped_from stack c.args.count 0) (pops (plain_units cell)) (popped_from stack c.args.count (number + 1))
    (popped_from stack c.args.count number) (c.loop-number.invariant flat) (pops_more stack c.args.count number cell there c.loop-number-test.true)
    (puts_as flat c.loop-number.kept c.put_shuffle.new.kept (shuffle_of c.popped.result) (pops (plain_units cell)) same (c.in_ok-put_shuffle.ensures flat))

pub returns : goal.returns
returns c = λ flat.
    let stack = cells c.args.types.now c.args.state.now in
    let number = c.loop-number.number in
    rest_all flat c.args.kept.now c.loop-number.kept (popped_from stack c.args.count 0) (popped_from stack c.args.count number) (c.loop-number.invariant flat)
    (pops_end stack c.args.count number c.loop-number-test.false)
