use Rattle.class_rewrite.proofs.LaidMethods.{LaidLaws, laid_method}
use Rattle.class_rewrite.proofs.method_laws.what_is_written_is_laid_out.Goals as goal

pub returns : goal.returns
returns c =
    let laws : LaidLaws = record {
      emitted = c.items_of_a_plan_are_emitted_code.ensures;
      goes_wide = c.items_of_a_plan_go_wide.ensures;
      wide = c.items_that_are_made_wide_are_those_of_the_wide_form.ensures;
      types = c.frames_type_written_code.ensures.types;
      framed = c.frames_type_written_code.ensures.there;
    } in
    λ of m before middle code meant edit is_code ready. laid_method laws of m before middle code meant edit is_code ready
