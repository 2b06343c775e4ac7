-- The word is the value of the option that stands before it.
use Rattle.std.proofs.Common.{refl}
use Rattle.pea_top.specs.Words.{Separate}
use Rattle.pea_top.specs.Seen.{option_view}
use Rattle.pea_top.proofs.WordsSeen.{value_ends, part_leads, part_fails, value_fails}
use Rattle.pea_top.proofs.words.Seen.with_value.Goals as goal

pub returns-in_err-operand-clause-none : goal.returns-in_err-operand-clause-none
returns-in_err-operand-clause-none c =
    rw c.from_residual.ensures (value_fails c.args.self c.args.option c.args.word.now c.requires c.in_err-operand.ensures.none)

pub returns-in_err-arguments-clause-none : goal.returns-in_err-arguments-clause-none
returns-in_err-arguments-clause-none c =
    let part = Separate (option_view c.args.option) c.args.word.now in
    let ends = value_ends _ c.args.option c.args.word.now c.requires in
    rw c.from_residual-in_err-arguments.ensures
    (part_fails c.args.self c.args.word.now part ends c.in_ok-operand.ensures.some c.in_err-arguments.ensures.none)

pub returns-clause-some : goal.returns-clause-some
returns-clause-some c =
    let part = Separate (option_view c.args.option) c.args.word.now in
    let ends = value_ends _ c.args.option c.args.word.now c.requires in
    let added = rw c.in_ok-operand.ensures.same at c.in_ok-arguments.ensures.some in
    part_leads c.args.self c.args.word.now part ends c.in_ok-operand.ensures.some _ refl
    (record { positional = added.positional; values = added.values })
