-- What a thrown object does not see: the operand stack of the frame on top.
use Rattle.std.proofs.Common.{◌≡◌, ◌∷◌, ℕ, List, Option, Some, None, refl, ap}
use Rattle.class_tree.specs.Headers.{Name}
use Rattle.machine_values.specs.Frames.{MethodState}
use Rattle.machine_values.specs.declared.frame.RunFrame.{RunFrame}
use Rattle.machine_values.specs.declared.frame.RunFrame.TheVariants.{Method}
use Rattle.machine_values.specs.declared.value.Value.{Value}
use Rattle.member_link.specs.Machine.Performing.{Landing, handler_at, landed, past_handler, raised, thrown, thrown_in, unwind}
use Rattle.member_link.specs.Machine.Programs.{Program, RunMethod, point_at, run_method}
use Rattle.member_link.specs.Machine.Worlds.{Memory, World}

same_past :
    (r : ℕ) (f : MethodState) (stack : List Value) (rest : List RunFrame) (m : Option RunMethod) (next : Memory → Landing) (memory : Memory) (to : Option ℕ)
    → past_handler r (record f { stack = stack }) rest m next memory to ≡ past_handler r f rest m next memory to
same_past r f stack rest m next memory (Some to) = refl
same_past r f stack rest m next memory None = refl

thrown_in_same :
    (P : Program) (w : World) (r : ℕ) (f : MethodState) (stack : List Value) (rest : List RunFrame) (memory : Memory)
    → thrown_in P w r (Method (record f { stack = stack }) ∷ rest) memory ≡ thrown_in P w r (Method f ∷ rest) memory
thrown_in_same P w r f stack rest memory =
    ap (landed P w r)
    (same_past r f stack rest (run_method P f.at) (unwind P r rest) memory (handler_at P memory.heap (point_at P f.at f.place) r))

pub thrown_same :
    (P : Program) (w : World) (r : ℕ) (f : MethodState) (stack : List Value) (rest : List RunFrame)
    → thrown P w r (Method (record f { stack = stack }) ∷ rest) ≡ thrown P w r (Method f ∷ rest)
thrown_same P w r f stack rest = thrown_in_same P w r f stack rest w.memory

pub raised_same :
    (P : Program) (w : World) (class : Name) (f : MethodState) (stack : List Value) (rest : List RunFrame)
    → raised P w class (Method (record f { stack = stack }) ∷ rest) ≡ raised P w class (Method f ∷ rest)
raised_same P w class f stack rest = thrown_in_same P w _ f stack rest _
