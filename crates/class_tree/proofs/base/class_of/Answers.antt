use Rattle.std.proofs.Common.{sym, ◌∙◌}
use Rattle.class_tree.proofs.Places.{class_of_no_number}
use Rattle.class_tree.proofs.SuperNumbers.{class_at}
use Rattle.class_tree.proofs.base.class_of.Goals as goal

pub returns-in-Some : goal.returns-in-Some
returns-in-Some c = c.get.ensures ∙ class_at c.args.headers.now c.args.name.now c.in-Some.number (sym c.in-Some.ensures)

pub returns-in-None : goal.returns-in-None
returns-in-None c = sym (class_of_no_number c.args.headers.now c.args.name.now (sym c.in-None.ensures))
