use Rattle.class_model.specs.Laws.Texts.{plain_text}
use Rattle.class_model.proofs.text.Text.of_plain.Goals as goal

pub of_text-requires : goal.of_text-requires
of_text-requires c = plain_text c.args.bytes.now c.requires
