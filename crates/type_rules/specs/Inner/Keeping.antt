-- Instructions that leave the locals as they are.
use Rattle.std.specs.Prelude.{◌==◌, Bool, true, false, not}
use Rattle.class_model.specs.declared.instr.Instr.{Instr}
use Rattle.class_model.specs.declared.instr.Instr.TheVariants.{Store, Invoke, New}
use Rattle.class_model.specs.declared.opcodes.TheConstants.{INVOKESPECIAL}

-- neither a store, nor a new, nor a call that may initialise an object
abbrev pub is_known_to_leave : Instr → Bool
is_known_to_leave (Store kind local) = false
is_known_to_leave (New index) = false
is_known_to_leave (Invoke opcode index count) = not (opcode == INVOKESPECIAL)
is_known_to_leave other = true
