use Rattle.std.proofs.Common.{◌≡◌, ◌∷◌, List, None, ap, ◌∙◌}
use Rattle.std.proofs.lemmas.Result.{on_ok_weaker}
use Rattle.machine_values.specs.declared.frame.RunFrame.{RunFrame as Frame}
use Rattle.machine_values.specs.declared.frame.RunFrame.TheVariants.{Library, Method}
use Rattle.machine_values.specs.declared.value.Value.{Value}
use Rattle.member_link.specs.Machine.Showing.{shows_asked}
use Rattle.member_link.specs.Machine.Worlds.{World, going}
use Rattle.machine_step.specs.Completing.{asked_of}
use Rattle.machine_run.specs.Inner.Performed.{operands_in, without_operands}
use Rattle.machine_run.proofs.performing.ask.Goals as goal

pub returns : goal.returns
returns c =
    let inside = c.w.inside in
    let with_frames : List Frame → World = λ frames. record { frames = frames; memory = inside.memory; known = inside.known; events = inside.events; steps = inside.steps; halt = going } in
    on_ok_weaker c.show_asked.result
    (λ shows P f rest program is.
    let before : inside.frames ≡ Method f ∷ rest = ap (λ (w : World). w.frames) c.w.view_is ∙ is in
    let frames : c.hand_over.new.frames ≡ Library None ∷ Method (without_operands c.args.count f) ∷ rest = c.in-Ok.ensures.frames f rest before in
    let values : c.deref.result.now ≡ operands_in c.args.count f = c.deref.ensures.value ∙ c.in-Ok.ensures.values f rest before in
    shows P program
    ∙ ap (λ (fs : List Frame). shows_asked P (with_frames fs) (asked_of c.deref.result.now c.args.asked)) frames
    ∙ ap (λ (vs : List Value). shows_asked P (with_frames (Library None ∷ Method (without_operands c.args.count f) ∷ rest)) (asked_of vs c.args.asked)) values
    ∙ ap (λ (w : World). shows_asked P (record w { frames = Library None ∷ Method (without_operands c.args.count f) ∷ rest }) (asked_of (operands_in c.args.count f) c.args.asked)) c.w.view_is)
    c.show_asked.ensures
