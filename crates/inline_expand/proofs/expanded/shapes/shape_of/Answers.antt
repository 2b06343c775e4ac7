use Rattle.std.proofs.Common.{Bool, List, not, refl, sym, ap, subst, ◌∙◌}
use Rattle.class_model.specs.Members.{STATIC, has}
use Rattle.class_model.specs.declared.descriptor.FieldType.{FieldType}
use Rattle.expanded_code.specs.Expanded.{narrowing}
use Rattle.inline_expand.proofs.ShapeParts.{its-arguments, its-units}
use Rattle.inline_expand.proofs.expanded.shapes.shape_of.Goals as goal
use Rattle.inline_expand.specs.Inner.Layouts.{AreParameters}

pub returns : goal.returns
returns c =
    let s = c.args.host.now in
    let static = has s.method.flags STATIC in
    let types = c.in_ok-descriptor.descriptor.params in
    let parameters = c.in_ok-parameters.parameters.items in
    let are = subst (λ (all : List FieldType). AreParameters (not static) all parameters) c.as_slice.ensures
    (subst (λ (receiver : Bool). AreParameters receiver c.as_slice.result.now parameters) c.has_receiver.ensures c.in_ok-parameters.ensures) in
    record {
      arguments = its-arguments s static types parameters refl c.in_ok-descriptor.ensures.params are;
      tests = c.tests_receiver.ensures;
      narrowing = ap narrowing c.in_ok-descriptor.ensures.given ∙ sym c.narrowed_by.ensures;
      inside = its-units s static types parameters refl c.in_ok-descriptor.ensures.params c.requires.fits are;
    }
