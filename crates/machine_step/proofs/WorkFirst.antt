-- The class that is begun first.
use Rattle.std.proofs.Common.{◌≡◌, ℕ, true, false, Some, None, refl}
use Rattle.class_tree.specs.Headers.{Name}
use Rattle.member_link.specs.Machine.Completions.{Completion, begins}
use Rattle.member_link.specs.Machine.FieldSteps.{begun_first}
use Rattle.member_link.specs.Machine.Programs.{Program, folder_number}
use Rattle.member_link.specs.Machine.Worlds.{Memory, is_begun}

module _ (P : Program) (memory : Memory) (class : Name) (otherwise : Completion) where
  pub first_begins :
      (number : ℕ)
      → folder_number P class ≡ Some number
      → is_begun memory number ≡ false
      → begun_first P memory class otherwise ≡ begins number
  first_begins number home is = rw home (rw is refl)

  pub first_begun :
      (number : ℕ)
      → folder_number P class ≡ Some number
      → is_begun memory number ≡ true
      → begun_first P memory class otherwise ≡ otherwise
  first_begun number home is = rw home (rw is refl)

  pub first_none : folder_number P class ≡ None → begun_first P memory class otherwise ≡ otherwise
  first_none home = rw home refl
