use Rattle.class_rewrite.proofs.SoundItems.{SoundLaws, sound_states}
use Rattle.class_rewrite.proofs.frame_facts.frames_of_written_items_are_sound.Goals as goal

pub returns : goal.returns
returns c = λ w items state frames of. sound_states laws w items state frames of where
  laws : SoundLaws
  laws = record {
    spelled = c.frames_of_written_code_have_spelled_names.ensures;
    whole = c.stated_frames_are_whole.ensures;
    stated = c.stated_frames_have_framed_names.ensures;
    consecutive = c.instructions_are_consecutive.ensures;
  }
