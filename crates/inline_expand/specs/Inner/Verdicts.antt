-- What was found of methods.
use Rattle.std.specs.Prelude.{◌≡◌, ◌≢◌, ◌&&◌, nat_eq, Bool, Option, Some}
use Rattle.std.specs.HashMap.{get}
use Rattle.class_model.specs.declared.class_file.MethodAt.{MethodAt}
use Rattle.inline_expand.specs.declared.verdicts.Verdicts.{Verdicts}

abbrev pub verdict : Verdicts → MethodAt → Option Bool
verdict verdicts at =
    get (λ x y. nat_eq x.0 y.0 && nat_eq x.1 y.1) verdicts.by_method (at.class, at.method)

-- one method is judged, and the others stay as they are
pub record Judges (before after : Verdicts) (at : MethodAt) (is_ready : Bool) : Type 0 where
  pub here : verdict after at ≡ Some is_ready
  pub apart : (other : MethodAt) → other ≢ at → verdict after other ≡ verdict before other

-- all stay as they are
abbrev pub AreSame : Verdicts → Verdicts → Type 0
AreSame before after = (at : MethodAt) → verdict after at ≡ verdict before at
