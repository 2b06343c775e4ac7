use Rattle.std.proofs.Common.{◌∙◌}
use Rattle.host_tree.specs.Host.{Bytes, Files}
use Rattle.pea_top.specs.Inner.Deciding.{AreInput}
use Rattle.pea_top.proofs.Outcomes.{said_of_same, stop_behind}
use Rattle.pea_top.proofs.top.read_folder.Goals as goal

-- what was read stands there still
pub returns-in-Ok-clause-stop : goal.returns-in-Ok-clause-stop
returns-in-Ok-clause-stop g c = λ words spelled tells.
    let found = c.in-Ok.ensures.found tells in
    let same = λ (root : Bytes) (name : Bytes). c.note_input.ensures.files tells root name ∙ c.in-Ok.ensures.files tells root name in
    let stands = said_of_same (λ (files : Files). AreInput c.args.input.now c.args.library.now files c.in-Ok.read.files.items c.in-Ok.read.classes c.in-Ok.read.headers) same (record { good = found.0; headers_read = found.1 }) in
    let noted = stop_behind words _ _ _ _ _ _ _ (c.note_input.ensures.files tells) (c.note_input.ensures.printed tells) (c.decide.ensures.stop c.args.input.now c.args.library.now words spelled tells stands) in
    stop_behind words _ _ _ _ _ _ _ (c.in-Ok.ensures.files tells) (c.in-Ok.ensures.printed tells) noted

pub returns-in-Ok-clause-write_count : goal.returns-in-Ok-clause-write_count
returns-in-Ok-clause-write_count g c = λ only_reads. c.decide.ensures.write_count only_reads ∙ (c.note_input.ensures.counts _ ∙ c.in-Ok.ensures.write_count)

pub returns-in-Err-clause-write_count : goal.returns-in-Err-clause-write_count
returns-in-Err-clause-write_count g c = λ only_reads. c.explain_reading.ensures.counts _ ∙ c.in-Err.ensures.write_count
