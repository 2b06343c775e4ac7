-- What is found, or else found elsewhere.
use Rattle.std.proofs.Common.{◌≡◌, Option, Some, None, refl}
use Rattle.std.specs.Option.{option_or}
use Rattle.member_link.specs.DeclaredMembers.{Declared}
use Rattle.member_link.specs.Found.{AreSame}
use Rattle.member_link.specs.declared.found.Found.{Found}

module _ (Is : Found → Declared → Type 0) where
  pub none_same : (answer : Option Declared) → AreSame Is None answer → answer ≡ None
  none_same None same = refl
  none_same (Some member) same = absurd same

  pub some_same : (found : Found) (answer : Option Declared) → AreSame Is (Some found) answer → (member : Declared) × (answer ≡ Some member) × Is found member
  some_same found None same = absurd same
  some_same found (Some member) same = (member, refl, same)

  -- the first of both
  pub found_first : (found : Found) (one other : Option Declared) → AreSame Is (Some found) one → AreSame Is (Some found) (option_or one other)
  found_first found None other same = absurd same
  found_first found (Some member) other same = same

  pub found_then : (result : Option Found) (one other : Option Declared) → AreSame Is None one → AreSame Is result other → AreSame Is result (option_or one other)
  found_then result None other nothing same = same
  found_then result (Some member) other nothing same = absurd nothing
