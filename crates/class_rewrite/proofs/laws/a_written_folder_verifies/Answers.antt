use Rattle.class_rewrite.proofs.laws.a_written_folder_verifies.Goals as goal

pub returns : goal.returns
returns c = λ r files w verified. (
  c.a_sound_written_folder_verifies.ensures r files w verified (c.a_written_folder_is_sound.ensures r files w verified),
  c.rewritten_items_are_emitted_code.ensures r files w verified,
)
