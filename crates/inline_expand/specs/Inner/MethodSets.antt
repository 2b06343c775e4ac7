-- Sets of methods.
use Rattle.std.specs.Prelude.{◌≡◌, ◌⊎◌, List}
use Rattle.class_model.specs.declared.class_file.MethodAt.{MethodAt}
use Rattle.inline_expand.specs.Inner.Stacks.{IsAmong}

-- the new list has what the old one has, and this method
pub record Adds (before after : List MethodAt) (at : MethodAt) : Type 0 where
  pub keeps : (other : MethodAt) → IsAmong before other → IsAmong after other
  pub here : IsAmong after at
  pub only : (other : MethodAt) → IsAmong after other → IsAmong before other ⊎ (other ≡ at)

-- and these
pub record AddsAll (before after methods : List MethodAt) : Type 0 where
  pub keeps : (other : MethodAt) → IsAmong before other → IsAmong after other
  pub here : (other : MethodAt) → IsAmong methods other → IsAmong after other
  pub only : (other : MethodAt)
      → IsAmong after other
      → IsAmong before other ⊎ IsAmong methods other
