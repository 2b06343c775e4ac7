-- A replacement that replaces nothing.
use Rattle.std.specs.Prelude.{◌≡◌, ℕ, [], None}
use Rattle.class_model.specs.declared.class_file.MethodAt.{MethodAt}
use Rattle.member_link.specs.Machine.Replaced.{Replacement}

pub record ReplacesNothing (r : Replacement) : Type 0 where
  pub bodies : (at : MethodAt) → r.body at ≡ None
  pub cleared : (class field : ℕ) → r.cleared class field ≡ 0
  pub added : (class : ℕ) → r.added class ≡ []
