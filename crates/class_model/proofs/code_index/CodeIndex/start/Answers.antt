use Rattle.std.proofs.Common.{ap, ◌∙◌}
use Rattle.class_model.proofs.FirstAtOffset.{start_of, start_found}
use Rattle.class_model.proofs.code_index.CodeIndex.start.Goals as goal

pub returns-in_err-first : goal.returns-in_err-first
returns-in_err-first c = c.from_residual.ensures ∙ ap start_of c.in_err-first.ensures ∙ start_found c.args.self.now c.args.at

pub returns : goal.returns
returns c = ap start_of c.in_ok-first.ensures ∙ start_found c.args.self.now c.args.at
