-- Which methods count on the way up from a class, as the code tells them apart.
use Rattle.std.specs.Prelude.{◌≡◌, ◌≢◌, ◌⊎◌, ◌&&◌, not, Some, IsSome, IsTrue, IsFalse}
use Rattle.class_model.specs.Members.{has, PUBLIC, STATIC}
use Rattle.class_model.specs.declared.header.Header.{Header}
use Rattle.class_tree.specs.Headers.{Headers}
use Rattle.class_tree.specs.Names.{object}
use Rattle.class_tree.specs.Order.{header_at}
use Rattle.member_link.specs.DeclaredMembers.{Declared}
use Rattle.member_link.specs.Found.{IsMethodFound}
use Rattle.member_link.specs.Selection.{IsOrOverrides}
use Rattle.member_link.specs.declared.upwards.Counted.{Counted}
use Rattle.member_link.specs.declared.upwards.Counted.TheVariants.{Every, OfInterface, Overriding, Instance, InstanceOfInterface}

abbrev pub Counts : Headers → Counted → Declared → Type 0
Counts headers Every method = Unit {0}
Counts headers (OfInterface place) method =
    ((header : Header) → header_at headers place ≡ Some header → method.class ≡ header.name)
    ⊎ IsTrue (has method.member.flags PUBLIC && not (has method.member.flags STATIC))
Counts headers (Overriding found) method =
    (resolved : Declared)
    → IsMethodFound headers found resolved
    → IsOrOverrides headers resolved method
Counts headers Instance method = IsFalse (has method.member.flags STATIC)
Counts headers InstanceOfInterface method =
    IsFalse (has method.member.flags STATIC)
    × ((method.class ≢ object) ⊎ IsTrue (has method.member.flags PUBLIC))

-- it names what is there
abbrev pub IsValid : Headers → Counted → Type 0
IsValid headers (OfInterface place) = IsSome (header_at headers place)
IsValid headers (Overriding found) = (resolved : Declared) × IsMethodFound headers found resolved
IsValid headers Every = Unit {0}
IsValid headers Instance = Unit {0}
IsValid headers InstanceOfInterface = Unit {0}
