use Rattle.std.proofs.Common.{◌≡◌, ◌∷◌, List, sym, ap, subst, ◌∙◌}
use Rattle.std.proofs.lemmas.Result.{on_ok_weaker}
use Rattle.class_tree.specs.Headers.{Classes}
use Rattle.machine_values.specs.declared.frame.RunFrame.{RunFrame as Frame}
use Rattle.machine_values.specs.declared.frame.RunFrame.TheVariants.{Method}
use Rattle.machine_values.specs.declared.value.Value.{Value}
use Rattle.member_link.specs.Machine.Performing.{called}
use Rattle.member_link.specs.Machine.Worlds.{World, going}
use Rattle.member_link.specs.TreePrograms.{IsProgram}
use Rattle.machine_run.specs.Inner.CallWords.{AreArguments}
use Rattle.machine_run.specs.Inner.Performed.{operands_in, without_operands}
use Rattle.machine_run.proofs.performing.call.Goals as goal

pub returns-clause-called : goal.returns-clause-called
returns-clause-called c =
    let inside = c.w.inside in
    let with_frames : List Frame → World = λ frames. record { frames = frames; memory = inside.memory; known = inside.known; events = inside.events; steps = inside.steps; halt = going } in
    on_ok_weaker c.call_method.result
    (λ calls P f rest program is.
    let before : inside.frames ≡ Method f ∷ rest = ap (λ (w : World). w.frames) c.w.view_is ∙ is in
    let values = operands_in c.args.count f in
    let taken = c.take_operands.ensures f rest before in
    let arguments : AreArguments P c.args.at values c.in_ok-arguments.arguments =
    subst (λ (vs : List Value). AreArguments P c.args.at vs c.in_ok-arguments.arguments) (c.top_operands.ensures f rest before)
    (c.in_ok-arguments.ensures.arguments P program)
    in
    let tree : IsProgram c.tree.result.now P =
    subst (λ (classes : Classes). IsProgram classes P) (sym (c.tree.ensures ∙ c.in_ok-arguments.ensures.same)) program
    in
    calls P values tree arguments
    ∙ ap (λ (fs : List Frame). called P (with_frames fs) c.args.at values fs) taken
    ∙ ap (λ (w : World). called P (record w { frames = Method (without_operands c.args.count f) ∷ rest }) c.args.at values (Method (without_operands c.args.count f) ∷ rest)) c.w.view_is)
    c.call_method.ensures
