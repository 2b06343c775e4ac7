-- An instruction has a byte at least, so that code has at most as many instructions as bytes.
use Rattle.std.proofs.Common.{ℕ, ℤ, ◌+◌, ◌≤◌, ◌<◌, Bool, true, false, List, [], ◌∷◌, length, Option, Some, None, if◌then◌else◌, arith}
use Rattle.std.specs.Prelude.{◌&&◌, ◌+ℤ◌, ◌*◌, nat_lt, int_le, negsuc, pos, unsigned_abs}
use Rattle.std.specs.Int.{cast_unsigned, w16, w8}
use Rattle.class_model.specs.Spelling.{u2}
use Rattle.class_model.specs.declared.descriptor.Kind.{Kind}
use Rattle.class_model.specs.declared.instr.Imm.{Imm}
use Rattle.class_model.specs.declared.instr.Imm.TheVariants as imms
use Rattle.class_model.specs.declared.instr.Instr.{Instr}
use Rattle.class_model.specs.declared.instr.Instr.TheVariants.{Const, Goto, Iinc, Invoke, Ldc, Load, Return, Store}
use Rattle.class_model.specs.declared.opcodes.TheConstants.{BIPUSH, ILOAD, ILOAD_0, ISTORE, ISTORE_0, SIPUSH, WIDE}
use Rattle.code_bytes.specs.Forms.{instr_bytes, int_bytes, is_short, kind_index, local_bytes}
use Rattle.member_link.specs.Targets.{with_targets}
use Rattle.code_layout.specs.Layout.{Spelled, end_from, len_of, short_spelled, wide_spelled}
use Rattle.code_layout.specs.declared.emitted.EmitItem.{EmitItem}
use Rattle.plan_flow.specs.Written.WrittenCode.{Form, short, wide}
use Rattle.stackmap_emit.specs.PlacedFrames.{spelled_in}

-- a list has a first element
data HasFirst : List ℕ → Type 0 where
  first : (byte : ℕ) (bytes : List ℕ) → HasFirst (byte ∷ bytes)

some_first : (bytes : List ℕ) → HasFirst bytes → 0 < length bytes
some_first _ (first byte bytes) = omega arith

of_if : (b : Bool) (one other : List ℕ) → HasFirst one → HasFirst other → HasFirst (if b then one else other)
of_if true one other few also = few
of_if false one other few also = also

of_int : (number : ℤ) → HasFirst (int_bytes number)
of_int number =
    of_if (int_le (negsuc 0) number && int_le number (pos 5)) (unsigned_abs (number +ℤ pos 3) ∷ [])
    (if is_short number then BIPUSH ∷ cast_unsigned w8 number ∷ [] else SIPUSH ∷ u2 (cast_unsigned w16 number)) (first _ _)
    (of_if (is_short number) (BIPUSH ∷ cast_unsigned w8 number ∷ []) (SIPUSH ∷ u2 (cast_unsigned w16 number)) (first _ _) (first _ _))

of_local : (low general : ℕ) (kind : Kind) (index : ℕ) → HasFirst (local_bytes low general kind index)
of_local low general kind index =
    of_if (nat_lt index 4) ((low + 4 * kind_index kind + index) ∷ [])
    (if nat_lt index 256 then (general + kind_index kind) ∷ index ∷ [] else WIDE ∷ (general + kind_index kind) ∷ u2 index) (first _ _)
    (of_if (nat_lt index 256) ((general + kind_index kind) ∷ index ∷ []) (WIDE ∷ (general + kind_index kind) ∷ u2 index) (first _ _) (first _ _))

of_pushed : (at : ℕ) (value : Imm) → HasFirst (instr_bytes at (Const value))
unfolding instr_bytes
of_pushed at (imms.Int number) = of_int number
of_pushed at value = first _ _

of_returned : (at : ℕ) (kind : Option Kind) → HasFirst (instr_bytes at (Return kind))
unfolding instr_bytes
of_returned at None = first _ _
of_returned at (Some kind) = first _ _

of_instr : (at : ℕ) (instr : Instr) → HasFirst (instr_bytes at instr)
unfolding instr_bytes
of_instr at (Const value) = of_pushed at value
of_instr at (Ldc index) = of_if _ _ _ (first _ _) (first _ _)
of_instr at (Load kind index) = of_local ILOAD_0 ILOAD kind index
of_instr at (Store kind index) = of_local ISTORE_0 ISTORE kind index
of_instr at (Iinc index number) = of_if _ _ _ (first _ _) (first _ _)
of_instr at (Goto to) = of_if _ _ _ (first _ _) (first _ _)
of_instr at (Invoke opcode method count) = of_if _ _ _ (first _ _) (first _ _)
of_instr at (Return kind) = of_returned at kind
of_instr at instr = first _ _

some_instr : (at : ℕ) (instr : Instr) → 0 < length (instr_bytes at instr)
some_instr at instr = some_first (instr_bytes at instr) (of_instr at instr)

some_wide : (at : ℕ) (instr : Instr) → 0 < length (wide_spelled at instr)
some_wide at (Goto to) = omega arith
some_wide at instr = some_instr at instr

some_in : (form : Form) (at : ℕ) (instr : Instr) → 0 < length (spelled_in form at instr)
some_in short at instr = some_instr at instr
some_in wide at instr = some_wide at instr

bytes_from : (form : Form) (at : ℕ) (items : List EmitItem) → at + length items ≤ end_from (spelled_in form) at items
bytes_from form at [] = omega arith
bytes_from form at (item ∷ items) =
    let some = some_in form at (with_targets (λ _. at) item.instr) in
    let rest = bytes_from form (at + len_of (spelled_in form) at item.instr) items in omega arith

-- code has at least as many bytes as items
pub bytes_many : (form : Form) (items : List EmitItem) → length items ≤ end_from (spelled_in form) 0 items
bytes_many form items = let all = bytes_from form 0 items in omega (arith, all)
