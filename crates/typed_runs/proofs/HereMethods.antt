use Rattle.std.specs.Prelude.{◌≡◌, ℕ, Bool, List, slice_get, Some, drop}
use Rattle.std.proofs.Common.{◌∙◌, subst}
use Rattle.class_model.specs.declared.frame.Frame.{Frame}
use Rattle.class_model.specs.declared.frame.VType.{VType}
use Rattle.machine_values.specs.Frames.{MethodState}
use Rattle.machine_values.specs.Heaps.{Heap}
use Rattle.machine_values.specs.declared.frame.RunFrame.{RunFrame}
use Rattle.machine_values.specs.declared.value.Value.{Value}
use Rattle.member_link.specs.Assignability.{IsAssignable}
use Rattle.member_link.specs.Machine.Completions.{Completion}
use Rattle.member_link.specs.Machine.Ops.{Op}
use Rattle.member_link.specs.Machine.Performing.{perform}
use Rattle.member_link.specs.Machine.Programs.{Program, Code, RunMethod, headers_in, run_method, code_run, code_at}
use Rattle.member_link.specs.Machine.Worlds.{World}
use Rattle.member_link.specs.RowScope.{RowScope}
use Rattle.member_link.specs.Rows.Row.{Row}
use Rattle.typed_runs.proofs.Assigned.{assigned}
use Rattle.typed_runs.proofs.Here.{Here}
use Rattle.typed_runs.proofs.Points.{of_chain}
use Rattle.typed_runs.specs.Conforming.{Conforms}
use Rattle.typed_runs.specs.TypedFrames.{StandsAt}
use Rattle.typed_runs.specs.TypedPrograms.{Typings, IsTypedProgram, IsTypedMethod}
use Rattle.typed_runs.specs.TypedWorlds.{StaysTyped}

-- the world stays typed behind an operation that took so many operands and comes to this
abbrev pub CompletesTyped : Program → Typings → World → MethodState → List RunFrame → ℕ → Completion → Type 0
CompletesTyped P T w f rest taken completion = StaysTyped P T w (perform P w f (record f { stack = drop taken f.stack }) rest completion)

-- the method of a frame, and how its code is typed
pub record MethodOf (P : Program) (T : Typings) (f : MethodState) : Type 0 where
  pub method : RunMethod
  pub run : run_method P f.at ≡ Some method
  pub code : Code
  pub typed : IsTypedMethod P f.at method.member code (T f.at)

pub method_of_frame : (P : Program) (T : Typings) (h : Heap) (f : MethodState) → IsTypedProgram P T → StandsAt P T h f → MethodOf P T f
method_of_frame P T h f program stands =
    let c = of_chain (λ (code : Code). slice_get code.points f.place) (code_at P f.at) stands.point stands.is_point in
    let m = of_chain code_run (run_method P f.at) c.0 c.1 in
    record { method = m.0; run = m.1; code = c.0; typed = program.methods f.at m.0 c.0 m.1 m.2 }

module _ {P : Program} {T : Typings} {w : World} {f : MethodState} {rest : List RunFrame} {s : RowScope} {frame : Frame} {place : ℕ}
    {numbered : ℕ → ℕ} {row : Row} {op : Op} {falls : Bool} {places : List ℕ} (h : Here P T w f rest s frame place numbered row op falls places) where
  pub method_here : MethodOf P T f
  method_here = method_of_frame P T w.memory.heap f h.typed.program h.stands

  -- what the row reads are the classes of the program
  pub headers_here : s.headers ≡ headers_in P
  headers_here = h.reads.headers ∙ method_here.typed.headers

  -- a value of a type that the row takes for another
  pub assigned_here : {t wanted : VType} {v : Value} → IsAssignable s.headers t wanted → Conforms P (T f.at).scope w.memory.heap t v
      → Conforms P (T f.at).scope w.memory.heap wanted v
  assigned_here {t = t} {wanted = wanted} assignable is =
      assigned P T h.typed.program (subst (λ hs. IsAssignable hs t wanted) headers_here assignable) is
