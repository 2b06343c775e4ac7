-- what was linked verifies, or does not
use Rattle.std.proofs.Common.{◌∙◌}
use Rattle.host_tree.specs.Host.{Bytes, Files}
use Rattle.pea_top.specs.Inner.Deciding.{AreReady}
use Rattle.pea_top.proofs.Outcomes.{input_read, prepared_script, said_of_same, stop_behind}
use Rattle.pea_top.proofs.Kept.{kept_types}
use Rattle.pea_top.proofs.Stopping.{stop_verifying}
use Rattle.pea_top.proofs.top.verify.Goals as goal

pub returns-in-Ok-clause-stop : goal.returns-in-Ok-clause-stop
returns-in-Ok-clause-stop g c = λ folder library task words spelled tells found.
    let typed = kept_types c.args.tree.now c.args.work.now _ c.in-Ok.ensures.verified in
    let same = c.in-Ok.ensures.files tells in
    let ready = said_of_same (λ (files : Files). AreReady folder library task files c.args.files.items c.args.tree.now c.args.work.now) same
    (record {
      classes = found.classes;
      headers = found.headers;
      prepared = found.prepared;
      arranged = found.arranged;
      verified = record { tree = found.is_tree; linked = c.requires.linked; typed = typed.0; types = typed.1 };
    }) in
    stop_behind words _ _ _ _ _ _ _ same (c.in-Ok.ensures.printed tells) (c.carry_out.ensures.stop folder library task words spelled tells ready)

pub returns-in-Ok-clause-write_count : goal.returns-in-Ok-clause-write_count
returns-in-Ok-clause-write_count g c = λ writes_none. c.carry_out.ensures.write_count writes_none ∙ c.in-Ok.ensures.counts _

pub returns-in-Err-clause-stop : goal.returns-in-Err-clause-stop
returns-in-Err-clause-stop g c = λ folder library task words spelled tells found.
    let same = λ (root : Bytes) (name : Bytes). c.explain_verifying.ensures.files tells root name ∙ c.in-Err.ensures.files tells root name in
    let printed = c.explain_verifying.ensures.printed tells ∙ c.in-Err.ensures.printed tells in
    let stop = stop_verifying words folder library task spelled _ _ _ _ same printed found.classes found.headers (input_read found.prepared.read) (prepared_script found.prepared) c.args.tree.now found.arranged found.is_tree c.requires.linked c.in-Err.fault c.in-Err.ensures.verified in
    rw c.verify_status.ensures stop
