-- An action as a step: where it is no fault it is counted, and a fault leaves the world as it was.
use Rattle.std.proofs.Common.{◌≡◌, ◌+◌, Bool, true, false, cond, refl, sym, ap, subst, ◌∙◌}
use Rattle.machine_values.specs.declared.action.Action.{Action}
use Rattle.member_link.specs.Machine.Acting.{act, acted, fault, is_fault, unless_fault}
use Rattle.member_link.specs.Machine.Programs.{Program}
use Rattle.member_link.specs.Machine.Worlds.{Halt, World}
use Rattle.member_link.specs.Machine.Worlds as halts
use Rattle.machine_step.specs.Bounded.{IsBoundedWorld}
use Rattle.machine_run.specs.Outcomes.{ended}

-- an action that is no fault
pub act_of :
    (P : Program) (a : Action) (w after : World) (h : Halt)
    → ended h after ≡ acted P a (record w { steps = w.steps + 1 })
    → is_fault h ≡ false
    → ended h after ≡ act P a w
act_of P a w after h same not_fault =
    sym (ap (λ (b : Bool). cond b (fault w) (ended h after)) not_fault) ∙ ap (unless_fault w) same

faulted_is : (h : Halt) → is_fault h ≡ true → h ≡ halts.faulted
faulted_is halts.going is = absurd cc
faulted_is halts.stopped is = absurd cc
faulted_is halts.faulted is = refl
faulted_is halts.init_threw is = absurd cc
faulted_is halts.array_too_long is = absurd cc
faulted_is halts.stuck is = absurd cc

-- an action that is a fault
pub fault_of :
    (P : Program) (a : Action) (w after : World) (h : Halt)
    → ended h after ≡ acted P a (record w { steps = w.steps + 1 })
    → is_fault h ≡ true
    → ended h w ≡ act P a w
fault_of P a w after h same is =
    ap (λ (k : Halt). ended k w) (faulted_is h is)
    ∙ sym (ap (λ (b : Bool). cond b (fault w) (ended h after)) is)
    ∙ ap (unless_fault w) same

pub bounded_of : (w v : World) (h : Halt) → ended h w ≡ v → IsBoundedWorld v → IsBoundedWorld w
bounded_of w v h same is =
    let ended_is : IsBoundedWorld (ended h w) = subst IsBoundedWorld (sym same) is in
    record { counts = ended_is.counts; places = ended_is.places }
