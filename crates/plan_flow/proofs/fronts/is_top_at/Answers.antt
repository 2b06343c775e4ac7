use Rattle.std.proofs.Common.{◌∙◌, sym, ap}
use Rattle.std.specs.Option.{option_copied}
use Rattle.class_model.specs.Frames.{is_top}
use Rattle.plan_flow.proofs.KeptUnits.{none_there}
use Rattle.plan_flow.proofs.fronts.is_top_at.Goals as goal

pub returns-in-None : goal.returns-in-None
returns-in-None c = sym (ap is_top (none_there c.args.types.now c.args.at (sym c.get.ensures ∙ ap option_copied c.in-None.is)))
