use Rattle.code_layout.proofs.Running.{laid-has-code}
use Rattle.code_layout.proofs.laws.a_laid_code_means_its_items.Goals as goal

pub returns : goal.returns
returns c = λ spelled items laid emitted is. laid-has-code spelled items laid emitted is c.instructions_are_consecutive.ensures
