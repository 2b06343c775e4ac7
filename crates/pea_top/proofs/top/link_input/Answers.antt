-- what was read is linked, or cannot be
use Rattle.std.proofs.Common.{◌∙◌}
use Rattle.host_tree.specs.Host.{Bytes, Files}
use Rattle.pea_top.specs.Inner.Deciding.{IsPrepared}
use Rattle.pea_top.proofs.Outcomes.{input_read, prepared_script, said_of_same, stop_behind}
use Rattle.pea_top.proofs.ReadFiles.{files_for}
use Rattle.pea_top.proofs.Stopping.{stop_linking}
use Rattle.pea_top.proofs.top.link_input.Goals as goal

pub verify-requires-clause-files : goal.verify-requires-clause-files
verify-requires-clause-files g c = files_for c.args.input.files.items c.args.input.classes c.args.input.headers c.in-Ok.tree c.args.work.now c.requires.pairs c.in-Ok.ensures.linked.0 c.requires.names

pub returns-in-Ok-clause-stop : goal.returns-in-Ok-clause-stop
returns-in-Ok-clause-stop g c = λ folder library task words spelled tells prepared.
    let same = c.in-Ok.ensures.files tells in
    let still = said_of_same (λ (files : Files). IsPrepared folder library task files c.args.input.files.items c.args.input.classes c.args.input.headers c.args.work.now) same prepared in
    stop_behind words _ _ _ _ _ _ _ same (c.in-Ok.ensures.printed tells) (c.verify.ensures.stop folder library task words spelled tells
    (record { classes = c.args.input.classes; headers = c.args.input.headers; prepared = still; arranged = c.in-Ok.ensures.linked.0; is_tree = c.in-Ok.ensures.linked.1 }))

pub returns-in-Ok-clause-write_count : goal.returns-in-Ok-clause-write_count
returns-in-Ok-clause-write_count g c = λ writes_none. c.verify.ensures.write_count writes_none ∙ c.in-Ok.ensures.counts _

pub returns-in-Err-clause-stop : goal.returns-in-Err-clause-stop
returns-in-Err-clause-stop g c = λ folder library task words spelled tells prepared.
    let same = λ (root : Bytes) (name : Bytes). c.explain_linking.ensures.files tells root name ∙ c.in-Err.ensures.files tells root name in
    let printed = c.explain_linking.ensures.printed tells ∙ c.in-Err.ensures.printed tells in
    let stop = stop_linking words folder library task spelled _ _ _ _ same printed c.args.input.classes c.args.input.headers (input_read prepared.read) (prepared_script prepared) c.in-Err.stop.fault c.in-Err.ensures.linked in
    rw c.link_status.ensures stop
