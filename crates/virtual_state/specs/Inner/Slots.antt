-- Whether two slots are the same.
use Rattle.std.specs.Prelude.{◌==◌, Bool, true, false}
use Rattle.virtual_state.specs.declared.slot.Slot.{Slot}
use Rattle.virtual_state.specs.declared.slot.Slot.TheVariants.{Plain, Virt, Unusable}

abbrev pub slot_eq : Slot → Slot → Bool
slot_eq Plain Plain = true
slot_eq Plain (Virt other) = false
slot_eq Plain Unusable = false
slot_eq (Virt site) Plain = false
slot_eq (Virt site) (Virt other) = site == other
slot_eq (Virt site) Unusable = false
slot_eq Unusable Plain = false
slot_eq Unusable (Virt other) = false
slot_eq Unusable Unusable = true
