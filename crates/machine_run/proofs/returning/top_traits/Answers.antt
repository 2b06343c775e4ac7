use Rattle.std.proofs.Common.{◌≡◌, ◌-◌, List, Some, length, slice_get, sym, ap, subst, ◌∙◌}
use Rattle.class_model.specs.declared.class_file.MethodAt.{MethodAt}
use Rattle.machine_values.specs.Frames.{MethodState}
use Rattle.machine_values.specs.declared.frame.RunFrame.{RunFrame as Frame}
use Rattle.machine_values.specs.declared.frame.RunFrame.TheVariants.{Method}
use Rattle.machine_code.specs.Prepared.{IsTraitsOf}
use Rattle.machine_run.proofs.Tops.{top_got}
use Rattle.machine_run.proofs.returning.top_traits.Goals as goal

pub returns-in-Some-Method : goal.returns-in-Some-Method
returns-in-Some-Method c = λ P f rest program is.
    let arm = c.in-Some-Method in
    let top : Some arm.field-0.now ≡ Some (Method f) =
    arm.ensures.value
    ∙ ap (λ (xs : List Frame). slice_get xs (length xs - 1)) c.deref.ensures.value
    ∙ top_got c.frames.inside.frames.items (Method f) rest (c.frames.view_is ∙ is)
    in
    let now : arm.field-0.now ≡ Method f = cc in
    let both : Method arm.frame ≡ Method f = sym arm.field-0-is ∙ now in
    let frame : arm.frame ≡ f = cc in
    subst (λ (at : MethodAt). IsTraitsOf P at c.method_traits.result) (ap (λ (g : MethodState). g.at) (c.frame.view_is ∙ frame))
    (c.method_traits.ensures P program)
