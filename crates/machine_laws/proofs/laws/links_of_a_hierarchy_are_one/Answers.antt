use Rattle.machine_laws.proofs.OneLinks.{links_once}
use Rattle.machine_laws.proofs.laws.links_of_a_hierarchy_are_one.Goals as goal

pub returns : goal.returns
returns c = λ headers one other is also. links_once c.a_look_up_finds_one_field.ensures c.a_look_up_finds_one_method.ensures c.a_selection_chooses_one.ensures headers one other is also
