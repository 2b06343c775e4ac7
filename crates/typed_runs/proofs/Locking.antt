use Rattle.std.specs.Prelude.{◌+◌, ℕ, List, [], ◌∷◌, None, IfSome}
use Rattle.std.specs.List.{AllByRecursion}
use Rattle.class_tree.specs.Headers.{Name}
use Rattle.machine_values.specs.Heaps.{constant_made, entered, monitor_count}
use Rattle.machine_values.specs.declared.object.Constant.TheVariants.{Class}
use Rattle.machine_values.specs.declared.value.Value.{Value}
use Rattle.machine_values.specs.declared.value.Value.TheVariants as values
use Rattle.member_link.specs.Machine.Performing.{Locking, no_lock, receiver_lock, class_lock, Locked, locked_on, locked_by}
use Rattle.member_link.specs.Machine.Programs.{Program}
use Rattle.member_link.specs.Machine.Worlds.{Memory, with_heap}
use Rattle.typed_runs.proofs.ConstantObjects.{constant_typed}
use Rattle.typed_runs.proofs.Kept.{Keeps, keeps_same, keeps_through, in_heap_kept, there}
use Rattle.typed_runs.proofs.Memories.{monitor_typed}
use Rattle.typed_runs.proofs.Monitors.{entries_typed}
use Rattle.typed_runs.specs.Conforming.{IsInHeap, IsValueInHeap, IsTypedMemory}
use Rattle.typed_runs.specs.TypedPrograms.{Typings, IsTypedProgram}

-- the memory after a monitor is entered, or none is
pub record LockedTyped (P : Program) (m : Memory) (l : Locked) : Type 0 where
  pub keep : Keeps m.heap l.memory.heap
  pub typed : IsTypedMemory P l.memory
  pub held : IfSome l.held (IsInHeap l.memory.heap)

pub locked_on_typed : (P : Program) (m : Memory) (r : ℕ) → IsTypedMemory P m → IsInHeap m.heap r → LockedTyped P m (locked_on m r)
locked_on_typed P m r typed is =
    let l = monitor_typed P m r (monitor_count m.heap r + 1) typed in
    record {
      keep = l.keep;
      typed = entries_typed P (with_heap m (entered m.heap r)) (m.entries + 1) l.typed;
      held = in_heap_kept l.keep r
          is;
    }

pub no_lock_typed : (P : Program) (m : Memory) → IsTypedMemory P m → LockedTyped P m (record { memory = m; held = None })
no_lock_typed P m typed = record { keep = keeps_same m.heap; typed = typed; held = tt }

pub locked_typed : (P : Program) (T : Typings) → IsTypedProgram P T → (m : Memory) (class : Name) (k : Locking) (vs : List Value)
    → IsTypedMemory P m → AllByRecursion (IsValueInHeap m.heap) vs
    → LockedTyped P m (locked_by m class k vs)
locked_typed P T program m class no_lock vs typed are = no_lock_typed P m typed
locked_typed P T program m class receiver_lock [] typed are = no_lock_typed P m typed
locked_typed P T program m class receiver_lock (values.Ref r ∷ vs) typed are = locked_on_typed P m r typed are.0
locked_typed P T program m class receiver_lock (values.Int n ∷ vs) typed are = no_lock_typed P m typed
locked_typed P T program m class receiver_lock (values.Long n ∷ vs) typed are = no_lock_typed P m typed
locked_typed P T program m class receiver_lock (values.Float n ∷ vs) typed are = no_lock_typed P m typed
locked_typed P T program m class receiver_lock (values.Double n ∷ vs) typed are = no_lock_typed P m typed
locked_typed P T program m class receiver_lock (values.Null ∷ vs) typed are = no_lock_typed P m typed
locked_typed P T program m class class_lock vs typed are =
    let made = constant_typed P m (Class class) typed program.base.of_classes in
    let k : Memory = with_heap m (constant_made m.heap (Class class)).heap in
    let l = locked_on_typed P k (constant_made m.heap (Class class)).reference made.typed (there made.shape) in
    record { keep = keeps_through made.keep l.keep; typed = l.typed; held = l.held }
