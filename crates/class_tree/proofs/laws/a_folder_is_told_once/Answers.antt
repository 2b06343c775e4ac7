use Rattle.class_tree.proofs.ToldOnce.{one_arrangement, one_problem}
use Rattle.class_tree.proofs.laws.a_folder_is_told_once.Goals as goal

pub returns-clause-problem : goal.returns-clause-problem
returns-clause-problem c = one_problem

pub returns-clause-arranged : goal.returns-clause-arranged
returns-clause-arranged c = one_arrangement
