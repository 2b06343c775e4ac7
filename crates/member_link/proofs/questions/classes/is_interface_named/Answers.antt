use Rattle.std.proofs.Common.{Some, None, sym, ◌∙◌}
use Rattle.member_link.specs.Laws.ProgramHeaders.{interface_is}
use Rattle.member_link.proofs.questions.classes.is_interface_named.Goals as goal

pub returns-in-Some : goal.returns-in-Some
returns-in-Some c = λ P is. c.has.ensures ∙ interface_is c.args.tree.now P is c.args.name.now (Some c.in-Some.header.now) (sym c.in-Some.ensures)

pub returns-in-None : goal.returns-in-None
returns-in-None c = λ P is. interface_is c.args.tree.now P is c.args.name.now None (sym c.in-None.ensures)
