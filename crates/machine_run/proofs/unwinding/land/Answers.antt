use Rattle.std.proofs.Common.{refl, ap, subst, ◌∙◌}
use Rattle.member_link.specs.Machine.Performing.{unwind}
use Rattle.member_link.specs.Machine.Showing.{shows_threw}
use Rattle.member_link.specs.Machine.Worlds.{World, going, init_threw}
use Rattle.machine_run.specs.Inner.ThrowTargets.{shape_at}
use Rattle.machine_run.specs.Outcomes.{ended}
use Rattle.machine_run.proofs.Landings.{EndsIn, ends_in}
use Rattle.machine_run.proofs.Throws.{landed_in_handler, landed_in_initialiser, landed_in_library, popped}
use Rattle.machine_run.proofs.unwinding.land.Goals as goal

pub returns-in_ok-handle_in_top-in-Handler-clause-thrown : goal.returns-in_ok-handle_in_top-in-Handler-clause-thrown
returns-in_ok-handle_in_top-in-Handler-clause-thrown c = λ P before program since lands.
    let now = c.end_methods.new.w in
    let at = c.args.at in
    let is = c.end_methods.ensures in
    let alike = is.ending.lands P at c.args.target refl lands in
    let ends = ends_in P (shape_at now.memory.heap at) at c.args.target now.frames now.memory refl alike.lands is.few in
    let handler = subst (EndsIn at now.frames now.memory (unwind P at now.frames now.memory)) c.in-Handler.is ends in
    let frames = c.handle_in_top.new.frames in
    ap (λ (v : World). record v { frames = frames }) c.w.view_is
    ∙ landed_in_handler P before c.args.w.now now at since is.ending.rest alike.unwound c.in-Handler.to frames handler
    (λ f rest same. c.in_ok-handle_in_top-in-Handler.ensures f rest (ap (λ (v : World). v.frames) c.w.view_is ∙ same))

pub returns-in_ok-show_threw-in-Library-clause-thrown : goal.returns-in_ok-show_threw-in-Library-clause-thrown
returns-in_ok-show_threw-in-Library-clause-thrown c = λ P before program since lands.
    let now = c.end_methods.new.w in
    let at = c.args.at in
    let is = c.end_methods.ensures in
    let alike = is.ending.lands P at c.args.target refl lands in
    let ends = ends_in P (shape_at now.memory.heap at) at c.args.target now.frames now.memory refl alike.lands is.few in
    let library = subst (EndsIn at now.frames now.memory (unwind P at now.frames now.memory)) c.in-Library.is ends in
    let frames = c.clear_made.new.frames in
    ap (ended going) (c.in_ok-show_threw-in-Library.ensures P program)
    ∙ ap (λ (v : World). shows_threw P (record v { frames = frames }) at) c.w-in-Library.view_is
    ∙ landed_in_library P before c.args.w.now now at since is.ending.rest alike.unwound frames library
    (λ made rest same. c.clear_made.ensures made rest (ap (λ (v : World). v.frames) c.w-in-Library.view_is ∙ same))

pub returns-in-Initialiser-clause-thrown : goal.returns-in-Initialiser-clause-thrown
returns-in-Initialiser-clause-thrown c = λ P before program since lands.
    let now = c.end_methods.new.w in
    let at = c.args.at in
    let is = c.end_methods.ensures in
    let alike = is.ending.lands P at c.args.target refl lands in
    let ends = ends_in P (shape_at now.memory.heap at) at c.args.target now.frames now.memory refl alike.lands is.few in
    let initialiser = subst (EndsIn at now.frames now.memory (unwind P at now.frames now.memory)) c.in-Initialiser.is ends in
    let frames = c.pop_frame.new.frames in
    ap (λ (v : World). record v { frames = frames; halt = init_threw }) c.w-in-Initialiser.view_is
    ∙ landed_in_initialiser P before c.args.w.now now at since is.ending.rest alike.unwound frames initialiser
    (λ top rest same.
    popped c.pop_frame.result c.w-in-Initialiser.inside.frames frames c.pop_frame.ensures.some c.pop_frame.ensures.none top rest
    (ap (λ (v : World). v.frames) c.w-in-Initialiser.view_is ∙ same))
