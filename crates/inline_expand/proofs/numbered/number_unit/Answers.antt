use Rattle.std.proofs.Common.{sym, ap, ◌∙◌}
use Rattle.expanded_code.specs.Alone.{number_at}
use Rattle.inline_expand.proofs.NumberedLocals.{unit-kept}
use Rattle.inline_expand.proofs.numbered.number_unit.Goals as goal
use Rattle.inline_expand.specs.Inner.Hosts.{uninit_of}

pub returns-in-None : goal.returns-in-None
returns-in-None c = unit-kept (number_at c.args.host.now) c.args.list.now c.args.unit (sym (c.in-None.ensures ∙ ap uninit_of c.get.ensures))
