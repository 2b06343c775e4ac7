use Rattle.stackmap_emit.proofs.WideForms.{items_are_wide}
use Rattle.stackmap_emit.proofs.wide_laws.items_that_are_made_wide_are_those_of_the_wide_form.Goals as goal

pub returns : goal.returns
returns c = λ s constructor pool blocks emitted is_emitted same all closes. items_are_wide s constructor pool blocks emitted is_emitted same all closes
