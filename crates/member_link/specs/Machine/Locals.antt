-- Instructions that move values between locals and the operand stack, and those that go on elsewhere (JVM Specification SE 8, 6.5): the
-- frame alone tells what they do. The top of the stack is first.
use Rattle.std.specs.Prelude.{◌==◌, ◌+◌, ◌-◌, ◌&&◌, not, nat_le, ℕ, zero, suc, ℤ, pos, int_lt, Bool, true, false, List, [], ◌∷◌, ◌++◌, length, take, drop, reverse, slice_get, slice_set, Option, Some, None, option_map, option_and_then, if◌then◌else◌}
use Rattle.std.specs.List.{flat_map}
use Rattle.std.specs.Int.{w32, int_gap, int_wrapping_add}
use Rattle.class_model.specs.declared.descriptor.Kind.{Kind}
use Rattle.class_model.specs.declared.instr.Pair.{Pair}
use Rattle.class_model.specs.declared.opcodes.TheConstants.{IFEQ, IF_ICMPEQ, IF_ACMPEQ, IFNULL}
use Rattle.machine_values.specs.declared.value.Value.{Value}
use Rattle.machine_values.specs.declared.value.Value.TheVariants.{Int, Null, Ref}
use Rattle.member_link.specs.Machine.Arithmetic.{holds_for}
use Rattle.machine_values.specs.Values.{has_kind, is_wide_value}
use Rattle.member_link.specs.Rows.ShuffleRows.{Form, Width, forms_of}
use Rattle.member_link.specs.Rows.ShuffleRows as widths

-- ---- locals

-- the value of a kind in a local, if one is there
abbrev pub local_value : Kind → List (Option Value) → ℕ → Option Value
local_value kind locals at = option_and_then of_unit (slice_get locals at) where
  if_kind : Value → Option Value
  if_kind value = if has_kind kind value then Some value else None

  of_unit : Option Value → Option Value
  of_unit None = None
  of_unit (Some value) = if_kind value

-- a long or double whose second unit is written is none any more
abbrev pub cut_before : ℕ → List (Option Value) → List (Option Value)
cut_before zero locals = locals
cut_before (suc at) locals = of_unit (slice_get locals at) where
  of_value : Option Value → List (Option Value)
  of_value None = locals
  of_value (Some value) = if is_wide_value value then slice_set locals at None else locals

  of_unit : Option (Option Value) → List (Option Value)
  of_unit None = locals
  of_unit (Some value) = of_value value

-- the units that a value takes
abbrev pub width_of : Value → ℕ
width_of value = if is_wide_value value then 2 else 1

-- a value is stored, if its units are there
abbrev pub stored : ℕ → Value → List (Option Value) → Option (List (Option Value))
stored at value locals =
    if nat_le (at + width_of value) (length locals)
    then Some (second (slice_set (cut_before at locals) at (Some value)))
    else None where
      second : List (Option Value) → List (Option Value)
      second units = if is_wide_value value then slice_set units (at + 1) None else units

abbrev pub incremented : ℤ → Value → Value
incremented by (Int number) = Int (int_wrapping_add w32 number by)
incremented by value = value

-- ---- the operand stack, with the top first

abbrev pub fits_width : Width → Value → Bool
fits_width widths.one value = not (is_wide_value value)
fits_width widths.two value = is_wide_value value

abbrev pub fit_widths : List Width → List Value → Bool
fit_widths [] [] = true
fit_widths (width ∷ widths) (value ∷ values) = fits_width width value && fit_widths widths values
fit_widths widths values = false

-- the topmost values, so many, the topmost last
abbrev pub topmost : ℕ → List Value → List Value
topmost count stack = reverse (take count stack)

-- the form of an instruction that the topmost values have
abbrev pub form_for : List Form → List Value → Option Form
form_for [] stack = None
form_for (form ∷ forms) stack =
    if fit_widths form.takes (topmost (length form.takes) stack)
    then Some form
    else form_for forms stack

abbrev pub chosen_values : List Value → List ℕ → List Value
chosen_values values numbers = flat_map (λ number. entry (slice_get values number)) numbers where
  entry : Option Value → List Value
  entry None = []
  entry (Some value) = value ∷ []

-- the stack behind pop, dup, swap and the like
abbrev pub shuffled : ℕ → List Value → Option (List Value)
shuffled opcode stack = option_map by_form (form_for (forms_of opcode) stack) where
  by_form : Form → List Value
  by_form form =
      reverse (chosen_values (topmost (length form.takes) stack) form.gives)
      ++ drop (length form.takes) stack

-- ---- where control goes on

-- whether a jump is taken, and the stack under its operands
abbrev pub Jump : Type 0
Jump = Option (Bool × List Value)

abbrev pub with_rest : List Value → Option Bool → Jump
with_rest rest None = None
with_rest rest (Some taken) = Some (taken, rest)

-- ifeq, ifne, iflt, ifge, ifgt, ifle
abbrev pub jump_of_int : ℕ → List Value → Jump
jump_of_int opcode (Int number ∷ rest) = with_rest rest (holds_for (opcode - IFEQ) number (pos 0))
jump_of_int opcode stack = None

-- if_icmpeq, ne, lt, ge, gt, le
abbrev pub jump_of_ints : ℕ → List Value → Jump
jump_of_ints opcode (Int other ∷ Int one ∷ rest) =
    with_rest rest (holds_for (opcode - IF_ICMPEQ) one other)
jump_of_ints opcode stack = None

abbrev pub same_references : Value → Value → Option Bool
same_references Null Null = Some true
same_references Null (Ref other) = Some false
same_references (Ref one) Null = Some false
same_references (Ref one) (Ref other) = Some (one == other)
same_references one other = None

-- if_acmpeq, if_acmpne
abbrev pub jump_of_references : ℕ → List Value → Jump
jump_of_references opcode (other ∷ one ∷ rest) =
    with_rest rest
    (option_map (λ same. if opcode == IF_ACMPEQ then same else not same)
    (same_references one other))
jump_of_references opcode stack = None

-- ifnull, ifnonnull
abbrev pub jump_of_null : ℕ → List Value → Jump
jump_of_null opcode (Null ∷ rest) = Some (opcode == IFNULL, rest)
jump_of_null opcode (Ref reference ∷ rest) = Some (not (opcode == IFNULL), rest)
jump_of_null opcode stack = None

-- the target of a tableswitch for a key: those from low on, else the default
abbrev pub table_target : ℤ → ℕ → List ℕ → ℤ → ℕ
table_target low other targets key =
    if int_lt key low then other else of_target (slice_get targets (int_gap low key)) where
      of_target : Option ℕ → ℕ
      of_target None = other
      of_target (Some to) = to

-- the target of a lookupswitch for a key
abbrev pub lookup_target : ℕ → List Pair → ℤ → ℕ
lookup_target other [] key = other
lookup_target other (pair ∷ pairs) key =
    if (if int_lt key pair.key then false else not (int_lt pair.key key))
    then pair.to
    else lookup_target other pairs key
