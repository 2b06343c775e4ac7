use Rattle.std.proofs.Common.{◌∙◌, sym}
use Rattle.class_model.proofs.LocalParts.{top-unlisted}
use Rattle.class_model.proofs.local_types.unit_of.Goals as goal

pub returns-in-None : goal.returns-in-None
returns-in-None c = c.requires ∙ sym (top-unlisted c.args.parts.now c.args.at (sym c.in-None.ensures))
