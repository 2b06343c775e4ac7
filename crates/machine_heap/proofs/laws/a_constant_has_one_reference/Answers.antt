use Rattle.machine_heap.specs.Laws.Heaps.{constant_kept, constants_stay, monitors_beside_constant, objects_beside_constant}
use Rattle.machine_heap.proofs.laws.a_constant_has_one_reference.Goals as goal

pub returns-clause-kept : goal.returns-clause-kept
returns-clause-kept c = constant_kept

pub returns-clause-others : goal.returns-clause-others
returns-clause-others c = constants_stay

pub returns-clause-objects : goal.returns-clause-objects
returns-clause-objects c = objects_beside_constant

pub returns-clause-monitors : goal.returns-clause-monitors
returns-clause-monitors c = monitors_beside_constant
