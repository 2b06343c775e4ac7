use Rattle.std.specs.Prelude.{◌+◌, ◌-◌}
use Rattle.machine_values.specs.Heaps.{monitor_count}
use Rattle.machine_heap.specs.Laws.Heaps.{count_of_monitor, other_monitors, shapes_where_counted, values_where_counted}
use Rattle.machine_heap.proofs.laws.a_monitor_changes_one_count.Goals as goal

pub returns-clause-entered : goal.returns-clause-entered
returns-clause-entered c heap at there = count_of_monitor heap at (monitor_count heap at + 1) there

pub returns-clause-left : goal.returns-clause-left
returns-clause-left c heap at there = count_of_monitor heap at (monitor_count heap at - 1) there

pub returns-clause-others_entered : goal.returns-clause-others_entered
returns-clause-others_entered c heap at other differ = other_monitors heap at (monitor_count heap at + 1) other differ

pub returns-clause-others_left : goal.returns-clause-others_left
returns-clause-others_left c heap at other differ = other_monitors heap at (monitor_count heap at - 1) other differ

pub returns-clause-shapes_entered : goal.returns-clause-shapes_entered
returns-clause-shapes_entered c heap at other = shapes_where_counted heap at (monitor_count heap at + 1) other

pub returns-clause-shapes_left : goal.returns-clause-shapes_left
returns-clause-shapes_left c heap at other = shapes_where_counted heap at (monitor_count heap at - 1) other

pub returns-clause-values_entered : goal.returns-clause-values_entered
returns-clause-values_entered c heap at other = values_where_counted heap at (monitor_count heap at + 1) other

pub returns-clause-values_left : goal.returns-clause-values_left
returns-clause-values_left c heap at other = values_where_counted heap at (monitor_count heap at - 1) other
