use Rattle.std.proofs.Common.{◌*◌, ◌≤◌, drop, length}
use Rattle.constructor_methods.proofs.ShortForms.{BytesRest}
use Rattle.constructor_methods.proofs.constructor_bytes.bytes_of.Given as goal

abbrev pub invariant-loop-instr : goal.invariant-loop-instr
invariant-loop-instr l =
    BytesRest l.instrs l.bytes.items (drop l.instr-index l.instrs)
    × (length l.bytes.items ≤ 4 * l.instr-index)
