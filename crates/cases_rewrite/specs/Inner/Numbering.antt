-- Objects whose sites are their numbers, and whose fields hold objects of lesser sites alone: no site is reached from itself.
use Rattle.std.specs.Prelude.{◌≡◌, ◌⊎◌, ℕ, ◌+◌, ◌<◌, List, [], ◌∷◌, IsTrue}
use Rattle.std.specs.List.{AllByRecursion}
use Rattle.virtual_state.specs.States.{is_present}
use Rattle.virtual_state.specs.declared.slot.Slot.{Slot}
use Rattle.virtual_state.specs.declared.slot.Slot.TheVariants.{Plain, Virt, Unusable}
use Rattle.virtual_state.specs.declared.slot.VObject.{VObject}

-- a field holds no object but one of a lesser site
abbrev pub IsBelowSite : ℕ → Slot → Type 0
IsBelowSite site Plain = Unit {0}
IsBelowSite site (Virt one) = one < site
IsBelowSite site Unusable = ⊥

-- the sites are the numbers from one on
abbrev pub AreNumberedFrom : ℕ → List VObject → Type 0
AreNumberedFrom number [] = Unit {0}
AreNumberedFrom number (object ∷ objects) =
    (object.site ≡ number)
    × AllByRecursion (IsBelowSite number) object.fields
    × AreNumberedFrom (number + 1) objects

-- a place holds no object but one of a site below a number or of one of these objects
abbrev pub IsThere : ℕ → List VObject → Slot → Type 0
IsThere count rest Plain = Unit {0}
IsThere count rest (Virt one) = (one < count) ⊎ IsTrue (is_present rest one)
IsThere count rest Unusable = Unit {0}
