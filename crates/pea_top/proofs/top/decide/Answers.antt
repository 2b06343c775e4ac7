use Rattle.std.proofs.Common.{◌∙◌}
use Rattle.host_tree.specs.Host.{Bytes, Files}
use Rattle.pea_top.specs.CommandView.{task_view}
use Rattle.pea_top.specs.Inner.Deciding.{IsPrepared}
use Rattle.pea_top.proofs.Outcomes.{input_read, said_of_same, stop_behind}
use Rattle.pea_top.proofs.Stopping.{stop_making}
use Rattle.pea_top.proofs.top.decide.Goals as goal

-- what was read and made stands there still
pub returns-in-Ok-clause-stop : goal.returns-in-Ok-clause-stop
returns-in-Ok-clause-stop g c = λ folder library words spelled tells read.
    let same = c.in-Ok.ensures.files tells in
    let prepared = said_of_same (λ (files : Files). IsPrepared folder library (task_view c.args.task) files c.args.input.files.items c.args.input.classes c.args.input.headers c.in-Ok.work) same (record { read = read; is_work = c.in-Ok.ensures.work tells }) in
    stop_behind words _ _ _ _ _ _ _ same (c.in-Ok.ensures.printed tells) (c.link_input.ensures.stop folder library (task_view c.args.task) words spelled tells prepared)

-- or it was not made
pub returns-in-Err-clause-stop : goal.returns-in-Err-clause-stop
returns-in-Err-clause-stop g c = λ folder library words spelled tells read.
    let same = λ (root : Bytes) (name : Bytes). c.explain_script.ensures.files tells root name ∙ c.in-Err.ensures.files tells root name in
    let printed = c.explain_script.ensures.printed tells ∙ c.in-Err.ensures.printed tells in
    rw c.script_status.ensures (stop_making words _ _ _ _ same printed _ _ folder library (task_view c.args.task) spelled (input_read read) c.in-Err.stop (c.in-Err.ensures.stop tells))
