use Rattle.machine_laws.proofs.OneLinks.{same_shown}
use Rattle.machine_laws.proofs.laws.programs_with_one_list_of_links_run_the_same.Goals as goal

pub returns : goal.returns
returns c = λ classes one other is also. same_shown classes one other (c.links_of_a_hierarchy_are_one.ensures _ one other is also)
