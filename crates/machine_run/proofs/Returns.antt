-- The world in which a method has ended.
use Rattle.std.proofs.Common.{◌≡◌, Bool, true, false, List, Some, if◌then◌else◌, ap, ◌∙◌}
use Rattle.machine_values.specs.Frames.{MethodState}
use Rattle.machine_values.specs.declared.frame.RunFrame.{RunFrame}
use Rattle.machine_values.specs.declared.value.Value.{Value}
use Rattle.member_link.specs.Machine.Performing.{returned, returned_by, returned_to, unlocked}
use Rattle.member_link.specs.Machine.Programs.{Program}
use Rattle.member_link.specs.Machine.Worlds.{World}
use Rattle.machine_code.specs.Prepared.{IsTraitsOf}
use Rattle.machine_code.specs.declared.prepared_method.MethodTraits.{MethodTraits}

module _ (P : Program) (w : World) (f : MethodState) (rest : List RunFrame) (values : List Value) where
  abbrev by_name : Bool → World
  by_name initialises =
      if initialises
      then record w { memory = unlocked w.memory f.held; frames = rest }
      else returned_to P w f.held values rest

  pub returned_initialiser :
      (traits : MethodTraits) → IsTraitsOf P f.at (Some traits) → traits.is_initialiser ≡ true
      → returned P w f rest values ≡ record w { memory = unlocked w.memory f.held; frames = rest }
  returned_initialiser traits is initialises =
      ap (returned_by P w f.held rest values) is.1
      ∙ ap by_name (is.2.initialiser ∙ initialises)

  pub returned_other :
      (traits : MethodTraits) → IsTraitsOf P f.at (Some traits) → traits.is_initialiser ≡ false
      → returned P w f rest values ≡ returned_to P w f.held values rest
  returned_other traits is other =
      ap (returned_by P w f.held rest values) is.1
      ∙ ap by_name (is.2.initialiser ∙ other)
