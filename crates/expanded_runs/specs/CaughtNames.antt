-- The classes that the handlers of an expanded flat code catch (JVM Specification SE 8, 4.7.3). It is this project's profile.
use Rattle.std.specs.Prelude.{◌≡◌, ℕ, slice_get, Some}
use Rattle.class_model.specs.PoolChecks.{class_at}
use Rattle.class_tree.specs.Headers.{Name}
use Rattle.flow_code.specs.FlatCode.{FlatCode, point_at}
use Rattle.flow_code.specs.declared.handlers.FlatHandler.{FlatHandler}
use Rattle.flow_code.specs.declared.point.Point.{Point}
use Rattle.member_link.specs.Scope.{Scope}

-- each is a class that the pool of the host's class names
abbrev pub AreNamedCatches : Scope → FlatCode → Type 0
AreNamedCatches host flat =
    (number : ℕ) (point : Point) (at : ℕ) (handler : FlatHandler) (name : Name)
    → point_at flat number ≡ Some point
    → slice_get point.handlers at ≡ Some handler
    → handler.catch_class ≡ Some name
    → (index : ℕ) × (class_at host.class.pool index ≡ Some name)
