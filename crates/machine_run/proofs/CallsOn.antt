-- Calls on a receiver.
use Rattle.std.proofs.Common.{◌≡◌, ◌∷◌, true, false, List, refl, sym, ap}
use Rattle.class_model.specs.declared.class_file.MethodAt.{MethodAt}
use Rattle.machine_values.specs.declared.value.Value.{Value}
use Rattle.machine_values.specs.declared.value.Value.TheVariants.{Int, Long, Float, Double, Null, Ref}
use Rattle.member_link.specs.Machine.Acting.{call_on}
use Rattle.member_link.specs.Machine.Performing.{called, raised}
use Rattle.member_link.specs.Machine.Programs.{Program}
use Rattle.member_link.specs.Machine.Throwables.{null_pointer}
use Rattle.member_link.specs.Machine.Worlds.{Halt, World, going}
use Rattle.machine_run.specs.Inner.ActWords.{is_null}
use Rattle.machine_run.specs.Outcomes.{ended}

pub goes_on : (w : World) → w.halt ≡ going → ended going w ≡ w
goes_on w is = ap (λ (h : Halt). ended h w) (sym is)

pub on_null : (P : Program) (w : World) (at : MethodAt) (others : List Value) (receiver : Value) → is_null receiver ≡ true → raised P w null_pointer w.frames ≡ call_on P w at others receiver
on_null P w at others Null is = refl
on_null P w at others (Int number) is = absurd cc
on_null P w at others (Long number) is = absurd cc
on_null P w at others (Float bits) is = absurd cc
on_null P w at others (Double bits) is = absurd cc
on_null P w at others (Ref reference) is = absurd cc

pub on_object : (P : Program) (w : World) (at : MethodAt) (others : List Value) (receiver : Value) → is_null receiver ≡ false → called P w at (receiver ∷ others) w.frames ≡ call_on P w at others receiver
on_object P w at others Null is = absurd cc
on_object P w at others (Int number) is = refl
on_object P w at others (Long number) is = refl
on_object P w at others (Float bits) is = refl
on_object P w at others (Double bits) is = refl
on_object P w at others (Ref reference) is = refl
