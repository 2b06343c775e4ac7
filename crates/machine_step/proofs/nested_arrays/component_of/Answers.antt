use Rattle.std.proofs.Common.{sym, subst, ◌≡◌, ap, ◌∙◌}
use Rattle.class_model.specs.ModifiedUtf8.{IsText}
use Rattle.machine_values.specs.Values.{component_text}
use Rattle.machine_step.proofs.ComponentTexts.{component_is_text}
use Rattle.machine_step.proofs.nested_arrays.component_of.Goals as goal

pub of_text-requires : goal.of_text-requires
of_text-requires c =
    let same : c.component_text.result.now ≡ component_text c.args.desc.now = c.component_text.ensures ∙ ap component_text c.bytes.ensures.same in
    subst IsText (sym same) (component_is_text c.args.desc.now c.bytes.ensures.text)
