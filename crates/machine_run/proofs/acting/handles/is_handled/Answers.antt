use Rattle.std.proofs.Common.{sym, ap, ◌∙◌}
use Rattle.std.specs.List.{list_any}
use Rattle.machine_run.specs.Inner.ActWords.{has_maker}
use Rattle.machine_run.proofs.Makers.{handled_is}
use Rattle.machine_run.proofs.acting.handles.is_handled.Goals as goal

pub returns : goal.returns
returns c = λ P is.
    c.has_maker_in.ensures
    ∙ ap (list_any (has_maker c.args.class.now c.args.desc.now)) (c.as_slice.ensures ∙ c.folder.ensures.same)
    ∙ sym (handled_is c.args.class.now c.args.desc.now c.args.tree.now P is)
