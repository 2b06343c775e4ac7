use Rattle.machine_heap.specs.Laws.Heaps.{monitors_where_written, other_values, shapes_where_written, value_written}
use Rattle.machine_heap.proofs.laws.a_write_changes_one_value.Goals as goal

pub returns-clause-value : goal.returns-clause-value
returns-clause-value c = value_written

pub returns-clause-others : goal.returns-clause-others
returns-clause-others c = other_values

pub returns-clause-shapes : goal.returns-clause-shapes
returns-clause-shapes c = shapes_where_written

pub returns-clause-monitors : goal.returns-clause-monitors
returns-clause-monitors c = monitors_where_written
