use Rattle.machine_run.proofs.Written.{put_written}
use Rattle.machine_run.proofs.acting.arrays.write.Goals as goal

pub returns : goal.returns
returns c =
    let written = c.args.written in
    put_written c.args.memory.now c.put.new.self written.reference written.number written.value c.put.result c.put.ensures.answer c.put.ensures.done c.put.ensures.outside
