use Rattle.class_rewrite.proofs.SpelledWalk.{SpelledLaws, spelled_frames}
use Rattle.class_rewrite.proofs.frame_facts.frames_of_written_code_have_spelled_names.Goals as goal

pub returns : goal.returns
returns c = λ w state frames setting named framed. spelled_frames laws w state frames setting named framed where
  laws : SpelledLaws
  laws = record {
    compares = c.constants_compare_by_value.ensures;
    types = c.frames_type_written_code.ensures.types;
    stated = c.stated_frames_have_framed_names.ensures;
    no_results = c.written_field_constructors_have_no_result.ensures;
  }
