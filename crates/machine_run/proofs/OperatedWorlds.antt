-- The world behind an operation of the top frame, by the frames and the memory as they are then.
use Rattle.std.proofs.Common.{◌≡◌, ◌∷◌, List, Result, Ok, Err, IfOk, refl, sym, ap, subst, ◌∙◌}
use Rattle.machine_values.specs.Frames.{MethodState}
use Rattle.machine_values.specs.declared.frame.RunFrame.{RunFrame}
use Rattle.machine_values.specs.declared.frame.RunFrame.TheVariants.{Method}
use Rattle.member_link.specs.Machine.Performing.{returned}
use Rattle.member_link.specs.Machine.Programs.{Program}
use Rattle.member_link.specs.Machine.Stepping.{ends_stuck}
use Rattle.member_link.specs.Machine.Worlds.{Memory, World}
use Rattle.machine_step.specs.Bounded.{CanGoOn}
use Rattle.machine_step.specs.Completing.{values_of}
use Rattle.machine_run.specs.Inner.Performed.{CanFinish, CanFinishFrame, IsKept, operated_world, performed, world_operated}
use Rattle.machine_run.specs.declared.stepping.Operated.{Operated}
use Rattle.machine_run.specs.declared.stepping.Operated.TheVariants.{Went, Stuck, Returns, Works}

-- from two facts of what is there
pub if_ok_both :
    {T E : Type 0} (r : Result T E) (A B C : T → Type 0)
    → ((y : T) → A y → B y → C y)
    → IfOk r A → IfOk r B → IfOk r C
if_ok_both (Ok y) A B C f a b = f y a b
if_ok_both (Err e) A B C f a b = tt

same_world :
    (w : World) (fs : List RunFrame) (memory : Memory)
    → fs ≡ w.frames
    → memory ≡ w.memory
    → (let new : World = record w { frames = fs; memory = memory } in new) ≡ w
same_world w fs memory frames_are memory_is =
    ap (λ (gs : List RunFrame). let new : World = record w { frames = gs; memory = memory } in new) frames_are
    ∙ ap (λ (m : Memory). let new : World = record w { memory = m } in new) memory_is

pub operated_is :
    (P : Program) (w : World) (before now : MethodState) (rest : List RunFrame) (new : Memory) (operated : Operated)
    → w.frames ≡ Method before ∷ rest
    → IsKept before now w.memory new operated
    → world_operated P (record w { frames = Method now ∷ rest; memory = new }) now rest operated
    ≡ operated_world P w before now rest new operated
operated_is P w before now rest new Went top kept = refl
operated_is P w before now rest new Stuck top kept =
    ap ends_stuck (same_world w (Method now ∷ rest) new (ap (λ (g : MethodState). Method g ∷ rest) kept.0 ∙ sym top) kept.1)
operated_is P w before now rest new (Returns value) top kept =
    ap (λ (v : World). returned P v now rest (values_of value))
    (same_world w (Method now ∷ rest) new (ap (λ (g : MethodState). Method g ∷ rest) kept.0 ∙ sym top) kept.1)
    ∙ ap (λ (g : MethodState). returned P w g rest (values_of value)) kept.0
operated_is P w before now rest new (Works completed count) top kept =
    ap (λ (gs : List RunFrame). performed P (record w { frames = gs; memory = new }) now rest count completed.value)
    (ap (λ (g : MethodState). Method g ∷ rest) kept ∙ sym top)
    ∙ ap (λ (g : MethodState). performed P (record w { memory = new }) g rest count completed.value) kept

-- what is left to do in the frame, which is as it was, can be done
pub can_go_on :
    (before now : MethodState) (old new : Memory) (operated : Operated)
    → IsKept before now old new operated
    → CanFinishFrame before new operated
    → CanFinishFrame now new operated
can_go_on before now old new Went kept can = tt
can_go_on before now old new Stuck kept can = tt
can_go_on before now old new (Returns value) kept can = tt
can_go_on before now old new (Works completed count) kept can =
    subst (λ (f : MethodState). CanFinishFrame f new (Works completed count)) (sym kept) can

pub can_finish_is :
    (f : MethodState) (rest : List RunFrame) (memory : Memory) (fs : List RunFrame) (operated : Operated)
    → CanFinishFrame f memory operated
    → CanGoOn (Method f ∷ rest)
    → fs ≡ Method f ∷ rest
    → CanFinish memory fs operated
can_finish_is f rest memory fs Went can places is = tt
can_finish_is f rest memory fs Stuck can places is = tt
can_finish_is f rest memory fs (Returns value) can places is = subst CanGoOn (sym is) places
can_finish_is f rest memory fs (Works completed count) can places is = (
  can.0,
  record { top = f; rest = rest; same = is; enough = can.1; next = can.2 },
)
