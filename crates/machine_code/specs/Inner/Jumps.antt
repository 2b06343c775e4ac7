-- Whether a jump is taken, by the topmost entries of the stack, the topmost last.
use Rattle.std.specs.Prelude.{◌==◌, ◌-◌, not, ℕ, pos, Bool, Option, Some, None, option_map, if◌then◌else◌}
use Rattle.class_model.specs.declared.opcodes.TheConstants.{IFEQ, IF_ICMPEQ, IF_ACMPEQ, IFNULL}
use Rattle.machine_values.specs.declared.value.Value.{Value}
use Rattle.machine_values.specs.declared.value.Value.TheVariants.{Int, Null, Ref}
use Rattle.member_link.specs.Machine.Arithmetic.{holds_for}
use Rattle.member_link.specs.Machine.Locals.{same_references}

abbrev pub int_jump : ℕ → Option Value → Option Bool
int_jump opcode (Some (Int number)) = holds_for (opcode - IFEQ) number (pos 0)
int_jump opcode top = None

abbrev pub ints_jump : ℕ → Option Value → Option Value → Option Bool
ints_jump opcode (Some (Int one)) (Some (Int other)) = holds_for (opcode - IF_ICMPEQ) one other
ints_jump opcode one other = None

abbrev pub references_jump : ℕ → Option Value → Option Value → Option Bool
references_jump opcode (Some one) (Some other) =
    option_map (λ same. if opcode == IF_ACMPEQ then same else not same) (same_references one other)
references_jump opcode one other = None

abbrev pub null_jump : ℕ → Option Value → Option Bool
null_jump opcode (Some Null) = Some (opcode == IFNULL)
null_jump opcode (Some (Ref reference)) = Some (not (opcode == IFNULL))
null_jump opcode top = None
