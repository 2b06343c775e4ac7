use Rattle.std.specs.Prelude.{◌≢◌, ℕ, Bool, List, ◌∷◌, reverse, None}
use Rattle.class_model.specs.declared.frame.Frame.{Frame}
use Rattle.class_tree.specs.Headers.{Name}
use Rattle.machine_values.specs.Frames.{MethodState}
use Rattle.machine_values.specs.declared.frame.RunFrame.{RunFrame}
use Rattle.machine_values.specs.declared.frame.RunFrame.TheVariants as frames
use Rattle.machine_values.specs.declared.value.Value.{Value}
use Rattle.member_link.specs.Machine.Completions.{Asked, raises, throws, asks, ends}
use Rattle.member_link.specs.Machine.Ops.{Op}
use Rattle.member_link.specs.Machine.Performing.{perform}
use Rattle.member_link.specs.Machine.Programs.{Program}
use Rattle.member_link.specs.Machine.Showing.{asked_kind}
use Rattle.member_link.specs.Machine.Worlds.{World, Halt, stuck}
use Rattle.member_link.specs.RowScope.{RowScope}
use Rattle.member_link.specs.Rows.Row.{Row, stack_left}
use Rattle.typed_runs.proofs.Here.{Here, stays, stands_with}
use Rattle.typed_runs.proofs.Kept.{keeps_same}
use Rattle.typed_runs.proofs.Raising.{IsRaised, raised_stays, thrown_stays}
use Rattle.typed_runs.proofs.Shown.{AskedInHeap, asked_known, showing_stays}
use Rattle.typed_runs.proofs.Unwinding.{IsThrown, CanUnwind}
use Rattle.typed_runs.specs.Conforming.{AllConform, UnitsConform}
use Rattle.typed_runs.specs.TypedFrames.{asked_library, ShowsEvent, upon}
use Rattle.typed_runs.specs.TypedPrograms.{Typings}
use Rattle.typed_runs.specs.TypedWorlds.{StaysTyped}

module _ {P : Program} {T : Typings} {w : World} {f : MethodState} {rest : List RunFrame} {s : RowScope} {frame : Frame} {place : ℕ} {numbered : ℕ → ℕ} {row : Row} {op : Op} {falls : Bool} {places : List ℕ} (h : Here P T w f rest s frame place numbered row op falls places) where
  -- whatever its stack, the frame may throw
  pub can_throw : (stack : List Value) → CanUnwind P T w.memory.heap (frames.Method (record f { stack = stack }) ∷ rest)
  can_throw stack = (record { stands = stands_with stack h.stands; before = h.before }, h.below)

  pub raises_goes : (name : Name) (stack : List Value) → IsRaised P name → StaysTyped P T w (perform P w f (record f { stack = stack }) rest (raises name))
  raises_goes name stack is = raised_stays P T w name (frames.Method (record f { stack = stack }) ∷ rest) h.typed is (can_throw stack)

  pub throws_goes : (r : ℕ) (stack : List Value) → IsThrown P w.memory.heap r → StaysTyped P T w (perform P w f (record f { stack = stack }) rest (throws r))
  throws_goes r stack is = thrown_stays P T w r (frames.Method (record f { stack = stack }) ∷ rest) h.typed is (can_throw stack)

  pub ends_goes : (halt : Halt) (taken : MethodState) → halt ≢ stuck → StaysTyped P T w (perform P w f taken rest (ends halt))
  ends_goes halt taken other = record {
    typed = record { program = h.typed.program; memory = h.typed.memory; frames = h.typed.frames; known = h.typed.known };
    not_stuck = λ no. other;
  }

  pub asks_goes : (asked : Asked) (stack : List Value) → UnitsConform P (T f.at).scope w.memory.heap row.locals f.locals → AllConform P (T f.at).scope w.memory.heap (stack_left frame row) (reverse stack)
      → ShowsEvent op → AskedInHeap w.memory.heap asked → StaysTyped P T w (perform P w f (record f { stack = stack }) rest (asks asked))
  asks_goes asked stack locals under shows is =
      let fs : List RunFrame = frames.Library None ∷ frames.Method (record f { stack = stack }) ∷ rest in
      let v : World = record w { frames = fs } in
      let next = stays P T w w.memory fs h.typed (keeps_same w.memory.heap) h.typed.memory (upon tt (upon (h.waits stack locals under asked_library shows) h.below)) in
      record {
        typed = showing_stays P T v (asked_kind P w.memory.heap w.known asked) next.typed (asked_known P w.memory.heap w.memory.heap w.known asked h.typed.known is);
        not_stuck = λ no. no;
      }
