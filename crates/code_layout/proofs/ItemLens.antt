-- An instruction has a byte at least, so that code has at most as many instructions as bytes.
use Rattle.std.proofs.Common.{ℕ, ℤ, ◌+◌, ◌≤◌, ◌<◌, Bool, true, false, List, [], ◌∷◌, length, Option, Some, None, if◌then◌else◌, arith}
use Rattle.std.specs.Prelude.{◌&&◌, ◌+ℤ◌, ◌*◌, nat_lt, int_le, negsuc, pos, unsigned_abs}
use Rattle.std.specs.Int.{cast_unsigned, w16, w8}
use Rattle.class_model.specs.Spelling.{u2}
use Rattle.class_model.specs.declared.descriptor.Kind.{Kind}
use Rattle.class_model.specs.declared.instr.Imm.{Imm}
use Rattle.class_model.specs.declared.instr.Imm.TheVariants as imms
use Rattle.class_model.specs.declared.instr.Instr.{Instr}
use Rattle.class_model.specs.declared.instr.Instr.TheVariants.{Const, Goto, Iinc, Invoke, Ldc, Load, Return, Store}
use Rattle.class_model.specs.declared.opcodes.TheConstants.{BIPUSH, ILOAD, ILOAD_0, ISTORE, ISTORE_0, SIPUSH, WIDE}
use Rattle.code_bytes.specs.Forms.{instr_bytes, int_bytes, is_short, kind_index, local_bytes}
use Rattle.member_link.specs.Targets.{with_targets}
use Rattle.code_layout.specs.Layout.{end_from, len_of, wide_spelled}
use Rattle.code_layout.specs.WideForm.{widened}
use Rattle.code_layout.specs.declared.emitted.EmitItem.{EmitItem}
use Rattle.code_layout.proofs.WideNumbers.{end-grows, length-widened}

-- a list has a first element
data HasFirst : List ℕ → Type 0 where
  first : (byte : ℕ) (bytes : List ℕ) → HasFirst (byte ∷ bytes)

some-first : (bytes : List ℕ) → HasFirst bytes → 0 < length bytes
some-first _ (first byte bytes) = omega arith

of-if : (b : Bool) (one other : List ℕ) → HasFirst one → HasFirst other → HasFirst (if b then one else other)
of-if true one other few also = few
of-if false one other few also = also

of-int : (number : ℤ) → HasFirst (int_bytes number)
of-int number =
    of-if (int_le (negsuc 0) number && int_le number (pos 5)) (unsigned_abs (number +ℤ pos 3) ∷ [])
    (if is_short number then BIPUSH ∷ cast_unsigned w8 number ∷ [] else SIPUSH ∷ u2 (cast_unsigned w16 number)) (first _ _)
    (of-if (is_short number) (BIPUSH ∷ cast_unsigned w8 number ∷ []) (SIPUSH ∷ u2 (cast_unsigned w16 number)) (first _ _) (first _ _))

of-local : (short general : ℕ) (kind : Kind) (index : ℕ) → HasFirst (local_bytes short general kind index)
of-local short general kind index =
    of-if (nat_lt index 4) ((short + 4 * kind_index kind + index) ∷ [])
    (if nat_lt index 256 then (general + kind_index kind) ∷ index ∷ [] else WIDE ∷ (general + kind_index kind) ∷ u2 index) (first _ _)
    (of-if (nat_lt index 256) ((general + kind_index kind) ∷ index ∷ []) (WIDE ∷ (general + kind_index kind) ∷ u2 index) (first _ _) (first _ _))

of-pushed : (at : ℕ) (value : Imm) → HasFirst (instr_bytes at (Const value))
unfolding instr_bytes
of-pushed at (imms.Int number) = of-int number
of-pushed at value = first _ _

of-returned : (at : ℕ) (kind : Option Kind) → HasFirst (instr_bytes at (Return kind))
unfolding instr_bytes
of-returned at None = first _ _
of-returned at (Some kind) = first _ _

of-instr : (at : ℕ) (instr : Instr) → HasFirst (instr_bytes at instr)
unfolding instr_bytes
of-instr at (Const value) = of-pushed at value
of-instr at (Ldc index) = of-if _ _ _ (first _ _) (first _ _)
of-instr at (Load kind index) = of-local ILOAD_0 ILOAD kind index
of-instr at (Store kind index) = of-local ISTORE_0 ISTORE kind index
of-instr at (Iinc index number) = of-if _ _ _ (first _ _) (first _ _)
of-instr at (Goto to) = of-if _ _ _ (first _ _) (first _ _)
of-instr at (Invoke opcode method count) = of-if _ _ _ (first _ _) (first _ _)
of-instr at (Return kind) = of-returned at kind
of-instr at instr = first _ _

some-instr : (at : ℕ) (instr : Instr) → 0 < length (instr_bytes at instr)
some-instr at instr = some-first (instr_bytes at instr) (of-instr at instr)

some-wide : (at : ℕ) (instr : Instr) → 0 < length (wide_spelled at instr)
some-wide at (Goto to) = omega arith
some-wide at instr = some-instr at instr

pub end-count : (at : ℕ) (items : List EmitItem) → at + length items ≤ end_from wide_spelled at items
end-count at [] = omega arith
end-count at (item ∷ items) =
    let some = some-wide at (with_targets (λ _. at) item.instr) in
    let rest = end-count (at + len_of wide_spelled at item.instr) items in omega arith

-- the wide form of more than 65,535 items has more than as many bytes
pub many-items : (items : List EmitItem) → 65535 < length items → 65535 < end_from wide_spelled 0 (widened items)
many-items items many =
    let count = end-count 0 (widened items) in
    let long = length-widened items in
    let low = end-grows 0 items in omega arith
