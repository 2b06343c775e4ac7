use Rattle.std.specs.Prelude.{refl}
use Rattle.class_model.specs.Descriptors as descriptors
use Rattle.machine_laws.specs.SynchronizationCases.{RunSynchronization}

pub synchronization_run : RunSynchronization
unfolding descriptors.types_before
synchronization_run = record {
  sync_counts = refl;
  sync_holds = refl;
  sync_throw_leaves = refl;
  sync_static = refl;
  class_monitor = refl;
  class_monitor_thrown = refl;
  entered_twice = refl;
  enter_null = refl;
}
