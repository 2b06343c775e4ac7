use Rattle.class_rewrite.proofs.LinkedFrames.{LinkingLaws, frames_linked}
use Rattle.class_rewrite.proofs.frame_facts.frames_of_rewritten_methods_are_linked.Goals as goal

pub returns : goal.returns
returns c = λ r files w at v host now verified here emitted.
    frames_linked laws r files w verified (c.a_written_folder_is_ready.ensures r files w verified) at v host now here
    (c.rewritten_methods_have_sound_frames.ensures r files w at v host here.is verified here.is_host) emitted where
      laws : LinkingLaws
      laws = record {
        typing = record { laid = c.what_types_items_types_the_laid_method.ensures; frames = c.frames_type_written_code.ensures.types };
        alike = c.grown_classes_are_found_alike.ensures.alike;
        states = c.a_laid_method_states_its_frames.ensures;
      }
