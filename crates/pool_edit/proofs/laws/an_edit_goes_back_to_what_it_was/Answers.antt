use Rattle.pool_edit.proofs.Back.{continues-back, continues-boundary, continues-itself, continues-on}
use Rattle.pool_edit.proofs.laws.an_edit_goes_back_to_what_it_was.Goals as goal

pub returns-clause-itself : goal.returns-clause-itself
returns-clause-itself c = continues-itself

pub returns-clause-onwards : goal.returns-clause-onwards
returns-clause-onwards c = continues-on

pub returns-clause-boundary : goal.returns-clause-boundary
returns-clause-boundary c = continues-boundary

pub returns-clause-back : goal.returns-clause-back
returns-clause-back c = continues-back
