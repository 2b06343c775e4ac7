-- what was shown before left the files, and printed nothing
use Rattle.pea_top.proofs.Outcomes.{printed_behind}
use Rattle.pea_top.proofs.work.finish_noted.Goals as goal

pub returns-clause-left : goal.returns-clause-left
returns-clause-left g c = λ tells. printed_behind _ _ _ _ _ _ _ _ (c.show.ensures.files tells) (c.show.ensures.printed tells) (c.finish.ensures.left tells)
