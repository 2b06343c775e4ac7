use Rattle.std.proofs.Common.{ap, ◌∙◌, arith}
use Rattle.class_model.specs.OffsetIndexes.{number_in}
use Rattle.machine_code.proofs.OffsetNumbers.{number_fits}
use Rattle.machine_code.proofs.translating.numbers.Numbers.of.Goals as goal

pub overflow_cast-result : goal.overflow_cast-result
overflow_cast-result c =
    let below = number_fits c.self.inside.instrs.now c.self.inside.index c.self.invariant c.args.at c.in-Some.number
    (c.in-Some.ensures ∙ ap (number_in c.self.inside.index) c.from.ensures) in
    omega (arith, below)
