use Rattle.std.proofs.Common.{ap, is_some, sym}
use Rattle.member_link.specs.Laws.ProgramHeaders.{class_with, name_at_number, none_at_number}
use Rattle.member_link.proofs.questions.classes.class_name.Goals as goal

pub returns-in-Some-clause-some : goal.returns-in-Some-clause-some
returns-in-Some-clause-some c = λ P is. name_at_number c.args.tree.now P is c.args.class c.in-Some.header.now (sym c.in-Some.ensures)

pub returns-in-Some-clause-there : goal.returns-in-Some-clause-there
returns-in-Some-clause-there c = λ P is. ap is_some (class_with c.args.tree.now P is c.args.class c.in-Some.header.now (sym c.in-Some.ensures)).1

pub returns-in-None-clause-none : goal.returns-in-None-clause-none
returns-in-None-clause-none c = λ P is. none_at_number c.args.tree.now P is c.args.class (sym c.in-None.ensures)
