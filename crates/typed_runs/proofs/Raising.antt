use Rattle.std.specs.Prelude.{◌≡◌, refl, ℕ, true, List, [], ◌∷◌}
use Rattle.std.proofs.Common.{sym, subst}
use Rattle.class_tree.specs.Headers.{Name}
use Rattle.class_tree.specs.Names.{throwable}
use Rattle.machine_values.specs.Heaps.{Heap, external}
use Rattle.machine_values.specs.declared.frame.RunFrame.{RunFrame}
use Rattle.machine_values.specs.declared.frame.RunFrame.TheVariants as frames
use Rattle.machine_values.specs.declared.object.Shape.TheVariants as shapes
use Rattle.member_link.specs.Machine.Performing.{Landing, lands_in, lands_in_library, leaves_initialiser, lands_nowhere, unwind, landed, thrown, thrown_in, raised}
use Rattle.member_link.specs.Machine.Programs.{Program}
use Rattle.member_link.specs.Machine.Shapes.{is_instance}
use Rattle.member_link.specs.Machine.Throwables as throwables
use Rattle.member_link.specs.Machine.Worlds.{World, Memory, with_heap}
use Rattle.typed_runs.proofs.Here.{stays}
use Rattle.typed_runs.proofs.Kept.{Keeps, keeps_same, keeps_through, known_kept, frames_kept, units_kept, stands_kept, in_heap_kept, there}
use Rattle.typed_runs.proofs.Memories.{made_keeps, made_shape, made_typed}
use Rattle.typed_runs.proofs.Shown.{reference_known, showing_stays}
use Rattle.typed_runs.proofs.Unwinding.{IsThrown, CanUnwind, LandsTyped, instance_conforms, unwinds}
use Rattle.typed_runs.specs.Conforming.{IsInHeap, HasShape, IsTypedMemory}
use Rattle.typed_runs.specs.TypedPoints.{IsOfLibrary}
use Rattle.typed_runs.specs.TypedPrograms.{Typings, IsTypedProgram}
use Rattle.typed_runs.specs.TypedWorlds.{TypedWorld, StaysTyped}

-- ---- where a thrown object lands

pub landed_stays : (P : Program) (T : Typings) (w : World) (r : ℕ) (l : Landing) (h : Heap) → TypedWorld P T w → Keeps w.memory.heap h → IsInHeap h r → LandsTyped P T h l → StaysTyped P T w (landed P w r l)
landed_stays P T w r (lands_in m fs) h typed keep is lands = stays P T w m fs typed (keeps_through keep lands.0) lands.1 lands.2
landed_stays P T w r (lands_in_library m fs) h typed keep is lands =
    let v : World = record w { memory = m; frames = fs } in
    let next = stays P T w m fs typed (keeps_through keep lands.0) lands.1 lands.2 in
    record {
      typed = showing_stays P T v _ next.typed (reference_known P m.heap m.heap w.known r (known_kept (keeps_through keep lands.0) w.known typed.known) (in_heap_kept lands.0 r is));
      not_stuck = λ no. no;
    }
landed_stays P T w r (leaves_initialiser m fs) h typed keep is lands = record {
  typed = record {
    program = typed.program;
    memory = lands.1;
    frames = lands.2;
    known = known_kept (keeps_through keep lands.0) w.known typed.known;
  };
  not_stuck = λ before after. cc;
}
landed_stays P T w r lands_nowhere h typed keep is lands = absurd lands

pub thrown_in_stays : (P : Program) (T : Typings) (w : World) (r : ℕ) (fs : List RunFrame) (m : Memory) → TypedWorld P T w → Keeps w.memory.heap m.heap → IsTypedMemory P m → IsThrown P m.heap r → CanUnwind P T m.heap fs
    → StaysTyped P T w (thrown_in P w r fs m)
thrown_in_stays P T w r fs m typed keep memory is can =
    let shape : HasShape m.heap r is.object.shape = record { object = is.object; is_there = is.is_there; same = refl } in
    landed_stays P T w r (unwind P r fs m) m.heap typed keep (there shape) (unwinds P T typed.program r fs m memory is can)

pub thrown_stays : (P : Program) (T : Typings) (w : World) (r : ℕ) (fs : List RunFrame) → TypedWorld P T w → IsThrown P w.memory.heap r → CanUnwind P T w.memory.heap fs → StaysTyped P T w (thrown P w r fs)
thrown_stays P T w r fs typed is can = thrown_in_stays P T w r fs w.memory typed (keeps_same w.memory.heap) typed.memory is can

pub can_kept : (P : Program) (T : Typings) (h k : Heap) → Keeps h k → (fs : List RunFrame) → CanUnwind P T h fs → CanUnwind P T k fs
can_kept P T h k keep [] can = can
can_kept P T h k keep (frames.Library made ∷ rest) can = frames_kept keep can
can_kept P T h k keep (frames.Beginning class ∷ rest) can = can
can_kept P T h k keep (frames.Method f ∷ rest) can = (record { stands = stands_kept keep can.0.stands; before = units_kept keep can.0.before }, frames_kept keep can.1)

-- ---- throwables of the machine

-- a class of the library, and a throwable
pub record IsRaised (P : Program) (name : Name) : Type 0 where
  pub library : IsOfLibrary P name
  pub is_throwable : P.links.below name throwable ≡ true

pub raised_stays : (P : Program) (T : Typings) (w : World) (name : Name) (fs : List RunFrame) → TypedWorld P T w → IsRaised P name → CanUnwind P T w.memory.heap fs → StaysTyped P T w (raised P w name fs)
raised_stays P T w name fs typed is can =
    let h : Heap = w.memory.heap in
    let made = external w.memory.heap name in
    let keep : Keeps w.memory.heap made.heap = made_keeps w.memory.heap (shapes.External name []) [] in
    let shape : HasShape made.heap made.reference (shapes.External name []) = made_shape w.memory.heap (shapes.External name []) [] in
    let memory : IsTypedMemory P (with_heap w.memory made.heap) =
    made_typed P w.memory (shapes.External name []) [] typed.memory (record { is_there = is.library.is_there; of_library = is.library.outside; interfaces = tt }) in
    thrown_in_stays P T w made.reference fs (with_heap w.memory made.heap) typed keep memory
    (record { object = shape.object; is_there = shape.is_there; is_throwable = instance_conforms P shape.object.shape throwable (subst (λ s. is_instance P s throwable ≡ true) (sym shape.same) (rw is.is_throwable refl)) })
    (can_kept P T w.memory.heap made.heap keep fs can)

module _ (P : Program) (T : Typings) (program : IsTypedProgram P T) where
  pub raises_null : IsRaised P throwables.null_pointer
  raises_null = let t = program.base.of_throwables.1.1.1.1.1.1.1.1.1.0 in record { library = t.0; is_throwable = t.1 }

  pub raises_arithmetic : IsRaised P throwables.arithmetic
  raises_arithmetic = let t = program.base.of_throwables.1.0 in record { library = t.0; is_throwable = t.1 }

  pub raises_index : IsRaised P throwables.index_outside
  raises_index = let t = program.base.of_throwables.1.1.0 in record { library = t.0; is_throwable = t.1 }

  pub raises_store : IsRaised P throwables.array_store
  raises_store = let t = program.base.of_throwables.1.1.1.0 in record { library = t.0; is_throwable = t.1 }

  pub raises_cast : IsRaised P throwables.class_cast
  raises_cast = let t = program.base.of_throwables.1.1.1.1.0 in record { library = t.0; is_throwable = t.1 }

  pub raises_access : IsRaised P throwables.illegal_access
  raises_access = let t = program.base.of_throwables.1.1.1.1.1.0 in record { library = t.0; is_throwable = t.1 }

  pub raises_monitor : IsRaised P throwables.illegal_monitor
  raises_monitor = let t = program.base.of_throwables.1.1.1.1.1.1.0 in record { library = t.0; is_throwable = t.1 }

  pub raises_change : IsRaised P throwables.incompatible_change
  raises_change = let t = program.base.of_throwables.1.1.1.1.1.1.1.0 in record { library = t.0; is_throwable = t.1 }

  pub raises_size : IsRaised P throwables.negative_size
  raises_size = let t = program.base.of_throwables.1.1.1.1.1.1.1.1.0 in record { library = t.0; is_throwable = t.1 }

  pub raises_abstract : IsRaised P throwables.abstract_called
  raises_abstract = let t = program.base.of_throwables.0 in record { library = t.0; is_throwable = t.1 }
