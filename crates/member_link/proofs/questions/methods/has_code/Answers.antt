use Rattle.std.proofs.Common.{Some, None, ◌∙◌}
use Rattle.member_link.specs.Laws.ProgramMembers.{code_is}
use Rattle.member_link.proofs.questions.methods.has_code.Goals as goal

pub returns-in-Some : goal.returns-in-Some
returns-in-Some c = λ P is. c.runs_code.ensures ∙ code_is c.args.tree.now P is c.args.at (Some c.in-Some.method.now) c.in-Some.ensures

pub returns-in-None : goal.returns-in-None
returns-in-None c = λ P is. code_is c.args.tree.now P is c.args.at None c.in-None.ensures
