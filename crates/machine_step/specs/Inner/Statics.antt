-- The entries of a map as static fields with their values.
use Rattle.machine_values.specs.declared.value.Value.{Value}
use Rattle.member_link.specs.Machine.Worlds.{StaticValue}
use Rattle.machine_step.specs.declared.statics.StaticField.{StaticField}

abbrev pub static_of : StaticField × Value → StaticValue
static_of entry = record { class = entry.0.class; field = entry.0.field; value = entry.1 }
