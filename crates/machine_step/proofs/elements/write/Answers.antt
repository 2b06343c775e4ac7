use Rattle.machine_step.proofs.Writes.{written}
use Rattle.machine_step.proofs.elements.write.Goals as goal

pub returns : goal.returns
returns c =
    written c.put.result c.args.memory.now c.put.new.self c.args.at c.args.placed.index c.args.placed.value
    c.put.ensures.answer c.put.ensures.done c.put.ensures.outside
