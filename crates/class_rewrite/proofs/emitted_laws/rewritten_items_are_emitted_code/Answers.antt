use Rattle.std.proofs.Common.{List}
use Rattle.class_model.specs.declared.class_file.ClassFile.{ClassFile}
use Rattle.class_rewrite.proofs.EmittedItems.{EmittedLaws, items_emitted}
use Rattle.class_rewrite.proofs.emitted_laws.rewritten_items_are_emitted_code.Goals as goal

pub returns : goal.returns
returns c r files w verified = record {
  emitted = items_emitted laws r files w verified (c.a_written_folder_is_ready.ensures r files w verified);
} where
  laws : EmittedLaws
  laws = record {
    emitted = c.items_of_a_plan_are_emitted_code.ensures;
    goes_wide = c.items_of_a_plan_go_wide.ensures;
    wide = c.items_that_are_made_wide_are_those_of_the_wide_form.ensures;
    widened = c.emitted_code_that_is_made_wide_is_emitted.ensures;
    types = c.frames_type_written_code.ensures.types;
    framed = c.frames_type_written_code.ensures.there;
  }
