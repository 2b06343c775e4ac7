-- What is left of sites whose objects are made in order.
use Rattle.std.specs.Prelude.{◌&&◌, ℕ, Bool, not, List, Option, Some, None, IsTrue}
use Rattle.making_code.specs.MakeOrder.{ComesNext, names_one}
use Rattle.virtual_state.specs.Sites.{has}
use Rattle.virtual_state.specs.declared.slot.Slot.{Slot}
use Rattle.virtual_state.specs.declared.slot.Slot.TheVariants.{Plain, Virt, Unusable}
use Rattle.virtual_state.specs.declared.slot.VObject.{VObject}

-- a slot names one of these sites that is not made
abbrev pub is_pending : List ℕ → List ℕ → Slot → Bool
is_pending sites made Plain = Bool.false
is_pending sites made (Virt site) = not (has made site) && has sites site
is_pending sites made Unusable = Bool.false

-- the site that comes next; there is none where each one that is left names one that is left
abbrev pub IsNext : List VObject → List ℕ → Option ℕ → Type 0
IsNext objects left (Some site) = ComesNext objects left site
IsNext objects left None =
    (site : ℕ) → IsTrue (has left site) → IsTrue (names_one objects left site)
