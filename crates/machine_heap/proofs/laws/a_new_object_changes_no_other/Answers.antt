use Rattle.machine_heap.specs.Laws.Heaps.{made_object, monitors_of_made, other_objects}
use Rattle.machine_heap.proofs.laws.a_new_object_changes_no_other.Goals as goal

pub returns-clause-made : goal.returns-clause-made
returns-clause-made c = made_object

pub returns-clause-others : goal.returns-clause-others
returns-clause-others c = other_objects

pub returns-clause-monitors : goal.returns-clause-monitors
returns-clause-monitors c = monitors_of_made
