use Rattle.std.specs.Prelude.{◌≡◌, ℕ, true, List, ◌∷◌}
use Rattle.machine_values.specs.Heaps.{Heap}
use Rattle.machine_values.specs.declared.frame.RunFrame.{RunFrame}
use Rattle.machine_values.specs.declared.frame.RunFrame.TheVariants as frames
use Rattle.member_link.specs.Machine.Acting.{fault, with_made}
use Rattle.member_link.specs.Machine.Programs.{Program}
use Rattle.member_link.specs.Machine.Stepping.{is_library_turn}
use Rattle.member_link.specs.Machine.Worlds.{World}
use Rattle.typed_runs.proofs.Unwinding.{CanUnwind}
use Rattle.typed_runs.specs.Conforming.{IsInHeap}
use Rattle.typed_runs.specs.TypedFrames.{Above, FramesConform, lowest, upon}
use Rattle.typed_runs.specs.TypedPrograms.{Typings}
use Rattle.typed_runs.specs.TypedWorlds.{TypedWorld, StaysTyped}

-- a fault ends the run, and leaves all else
pub fault_stays : (P : Program) (T : Typings) (w : World) → TypedWorld P T w → StaysTyped P T w (fault w)
fault_stays P T w typed = record {
  typed = record { program = typed.program; memory = typed.memory; frames = typed.frames; known = typed.known };
  not_stuck = λ before after. cc;
}

-- the library's frame conforms below all that may stand on it
pub under_any : (P : Program) (T : Typings) (h : Heap) {a b : Above} (fs : List RunFrame) → is_library_turn fs ≡ true
    → FramesConform P T h a fs → FramesConform P T h b fs
under_any P T h fs is (lowest made) = lowest made
under_any P T h (frames.Library made ∷ rest) is (upon held below) = upon held below
under_any P T h (frames.Beginning class ∷ rest) is (upon held below) = cc
under_any P T h (frames.Method f ∷ rest) is (upon held below) = cc

-- what is raised at the library's turn lands in the library
pub library_can : (P : Program) (T : Typings) (h : Heap) {a : Above} (fs : List RunFrame) → is_library_turn fs ≡ true
    → FramesConform P T h a fs → CanUnwind P T h fs
library_can P T h fs is (lowest made) = lowest tt
library_can P T h (frames.Library made ∷ rest) is (upon held below) = upon tt below
library_can P T h (frames.Beginning class ∷ rest) is (upon held below) = cc
library_can P T h (frames.Method f ∷ rest) is (upon held below) = cc

-- it keeps what it makes
pub made_below : (P : Program) (T : Typings) (h : Heap) {a b : Above} (r : ℕ) (fs : List RunFrame) → is_library_turn fs ≡ true
    → FramesConform P T h a fs → IsInHeap h r → FramesConform P T h b (with_made r fs)
made_below P T h r fs is (lowest made) there = lowest there
made_below P T h r (frames.Library made ∷ rest) is (upon held below) there = upon there below
made_below P T h r (frames.Beginning class ∷ rest) is (upon held below) there = cc
made_below P T h r (frames.Method f ∷ rest) is (upon held below) there = cc
