use Rattle.class_rewrite.proofs.RewrittenFrames.{FrameLaws, sound_frames}
use Rattle.class_rewrite.proofs.frame_facts.rewritten_methods_have_sound_frames.Goals as goal

pub returns : goal.returns
returns c = λ r files w at v host is verified is_host.
    sound_frames laws r files w verified (c.a_written_folder_is_ready.ensures r files w verified) at v is host is_host where
      laws : FrameLaws
      laws = record { sound = c.frames_of_written_items_are_sound.ensures; named = c.expanded_flat_codes_have_framed_names.ensures }
