use Rattle.class_rewrite.proofs.SoundFramed.{FramedLaws, sound_framed}
use Rattle.class_rewrite.proofs.method_laws.written_frames_are_sound.Goals as goal

pub returns : goal.returns
returns c = λ of m f is. sound_framed laws of m f is where
  laws : FramedLaws
  laws = record {
    ready = c.what_is_meant_can_be_written.ensures;
    sound = c.frames_of_written_items_are_sound.ensures;
    named = c.expanded_flat_codes_have_framed_names.ensures;
  }
