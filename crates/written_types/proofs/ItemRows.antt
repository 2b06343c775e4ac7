-- The row of a written item is that of its instruction, wherever it jumps, by the index that its constant has.
use Rattle.std.proofs.Common.{◌≡◌, ℕ, List, [], ◌∷◌, length, map, Option, Some, None, refl, sym, ap, arith}
use Rattle.class_model.specs.Instructions.{targets}
use Rattle.class_model.specs.declared.frame.Frame.{Frame}
use Rattle.class_model.specs.declared.instr.Instr.{Instr}
use Rattle.class_model.specs.declared.instr.Instr.TheVariants.{Nop, Const, Ldc, Ldc2, Load, Store, Iinc, ArrayLoad, ArrayStore, Shuffle, Pure, Divide, FloatAsk, If, If2, IfSame, IfNull, Goto, Table, Lookup, Return, GetStatic, PutStatic, GetField, PutField, Invoke, Dynamic, New, NewArray, NewRefArray, NewMulti, Length, Throw, Cast, InstanceOf, Enter, Leave}
use Rattle.class_model.specs.declared.instr.Pair.{Pair}
use Rattle.member_link.specs.Bodies.{falls_through}
use Rattle.member_link.specs.RowScope.{RowScope}
use Rattle.member_link.specs.Rows.Table.{row_of}
use Rattle.plan_flow.specs.Written.WrittenCode.{jumping_to, pairs_to}
use Rattle.plan_flow.specs.Written.WrittenConstants.{named_index, with_index}

-- ---- other targets

pub jumping_row : (s : RowScope) (f : Frame) (at : ℕ) (numbers : List ℕ) (instr : Instr) → row_of s f at (jumping_to numbers instr) ≡ row_of s f at instr
jumping_row s f at [] instr = refl
jumping_row s f at (number ∷ numbers) Nop = refl
jumping_row s f at (number ∷ numbers) (Const imm) = refl
jumping_row s f at (number ∷ numbers) (Ldc index) = refl
jumping_row s f at (number ∷ numbers) (Ldc2 index) = refl
jumping_row s f at (number ∷ numbers) (Load kind local) = refl
jumping_row s f at (number ∷ numbers) (Store kind local) = refl
jumping_row s f at (number ∷ numbers) (Iinc local by) = refl
jumping_row s f at (number ∷ numbers) (ArrayLoad opcode) = refl
jumping_row s f at (number ∷ numbers) (ArrayStore opcode) = refl
jumping_row s f at (number ∷ numbers) (Shuffle opcode) = refl
jumping_row s f at (number ∷ numbers) (Pure opcode) = refl
jumping_row s f at (number ∷ numbers) (Divide opcode) = refl
jumping_row s f at (number ∷ numbers) (FloatAsk opcode) = refl
jumping_row s f at (number ∷ numbers) (If opcode to) = refl
jumping_row s f at (number ∷ numbers) (If2 opcode to) = refl
jumping_row s f at (number ∷ numbers) (IfSame opcode to) = refl
jumping_row s f at (number ∷ numbers) (IfNull opcode to) = refl
jumping_row s f at (number ∷ numbers) (Goto to) = refl
jumping_row s f at (number ∷ numbers) (Table low other to) = refl
jumping_row s f at (number ∷ numbers) (Lookup other pairs) = refl
jumping_row s f at (number ∷ numbers) (Return kind) = refl
jumping_row s f at (number ∷ numbers) (GetStatic index) = refl
jumping_row s f at (number ∷ numbers) (PutStatic index) = refl
jumping_row s f at (number ∷ numbers) (GetField index) = refl
jumping_row s f at (number ∷ numbers) (PutField index) = refl
jumping_row s f at (number ∷ numbers) (Invoke opcode index count) = refl
jumping_row s f at (number ∷ numbers) (Dynamic index) = refl
jumping_row s f at (number ∷ numbers) (New index) = refl
jumping_row s f at (number ∷ numbers) (NewArray code) = refl
jumping_row s f at (number ∷ numbers) (NewRefArray index) = refl
jumping_row s f at (number ∷ numbers) (NewMulti index dimensions) = refl
jumping_row s f at (number ∷ numbers) Length = refl
jumping_row s f at (number ∷ numbers) Throw = refl
jumping_row s f at (number ∷ numbers) (Cast index) = refl
jumping_row s f at (number ∷ numbers) (InstanceOf index) = refl
jumping_row s f at (number ∷ numbers) Enter = refl
jumping_row s f at (number ∷ numbers) Leave = refl

pub jumping_falls : (numbers : List ℕ) (instr : Instr) → falls_through (jumping_to numbers instr) ≡ falls_through instr
jumping_falls [] instr = refl
jumping_falls (number ∷ numbers) Nop = refl
jumping_falls (number ∷ numbers) (Const imm) = refl
jumping_falls (number ∷ numbers) (Ldc index) = refl
jumping_falls (number ∷ numbers) (Ldc2 index) = refl
jumping_falls (number ∷ numbers) (Load kind local) = refl
jumping_falls (number ∷ numbers) (Store kind local) = refl
jumping_falls (number ∷ numbers) (Iinc local by) = refl
jumping_falls (number ∷ numbers) (ArrayLoad opcode) = refl
jumping_falls (number ∷ numbers) (ArrayStore opcode) = refl
jumping_falls (number ∷ numbers) (Shuffle opcode) = refl
jumping_falls (number ∷ numbers) (Pure opcode) = refl
jumping_falls (number ∷ numbers) (Divide opcode) = refl
jumping_falls (number ∷ numbers) (FloatAsk opcode) = refl
jumping_falls (number ∷ numbers) (If opcode to) = refl
jumping_falls (number ∷ numbers) (If2 opcode to) = refl
jumping_falls (number ∷ numbers) (IfSame opcode to) = refl
jumping_falls (number ∷ numbers) (IfNull opcode to) = refl
jumping_falls (number ∷ numbers) (Goto to) = refl
jumping_falls (number ∷ numbers) (Table low other to) = refl
jumping_falls (number ∷ numbers) (Lookup other pairs) = refl
jumping_falls (number ∷ numbers) (Return kind) = refl
jumping_falls (number ∷ numbers) (GetStatic index) = refl
jumping_falls (number ∷ numbers) (PutStatic index) = refl
jumping_falls (number ∷ numbers) (GetField index) = refl
jumping_falls (number ∷ numbers) (PutField index) = refl
jumping_falls (number ∷ numbers) (Invoke opcode index count) = refl
jumping_falls (number ∷ numbers) (Dynamic index) = refl
jumping_falls (number ∷ numbers) (New index) = refl
jumping_falls (number ∷ numbers) (NewArray code) = refl
jumping_falls (number ∷ numbers) (NewRefArray index) = refl
jumping_falls (number ∷ numbers) (NewMulti index dimensions) = refl
jumping_falls (number ∷ numbers) Length = refl
jumping_falls (number ∷ numbers) Throw = refl
jumping_falls (number ∷ numbers) (Cast index) = refl
jumping_falls (number ∷ numbers) (InstanceOf index) = refl
jumping_falls (number ∷ numbers) Enter = refl
jumping_falls (number ∷ numbers) Leave = refl

none_left : (numbers : List ℕ) → length numbers ≡ 0 → numbers ≡ []
none_left [] none = refl
none_left (number ∷ numbers) none = absurd (omega (arith, none))

pairs_targets : (pairs : List Pair) (numbers : List ℕ)
    → length (map (λ (p : Pair). p.to) pairs) ≡ length numbers
    → map (λ (p : Pair). p.to) (pairs_to pairs numbers) ≡ numbers
pairs_targets [] [] many = refl
pairs_targets [] (number ∷ numbers) many = absurd (omega (arith, many))
pairs_targets (pair ∷ pairs) [] many = absurd (omega (arith, many))
pairs_targets (pair ∷ pairs) (number ∷ numbers) many =
    ap (λ (rest : List ℕ). number ∷ rest) (pairs_targets pairs numbers (omega (arith, many)))

-- the targets are the numbers that are given, if these are as many
pub jumping_targets : (numbers : List ℕ) (instr : Instr) → length (targets instr) ≡ length numbers → targets (jumping_to numbers instr) ≡ numbers
jumping_targets [] instr many = none_left (targets instr) many
jumping_targets (number ∷ numbers) Nop many = absurd (omega (arith, many))
jumping_targets (number ∷ numbers) (Const imm) many = absurd (omega (arith, many))
jumping_targets (number ∷ numbers) (Ldc index) many = absurd (omega (arith, many))
jumping_targets (number ∷ numbers) (Ldc2 index) many = absurd (omega (arith, many))
jumping_targets (number ∷ numbers) (Load kind local) many = absurd (omega (arith, many))
jumping_targets (number ∷ numbers) (Store kind local) many = absurd (omega (arith, many))
jumping_targets (number ∷ numbers) (Iinc local by) many = absurd (omega (arith, many))
jumping_targets (number ∷ numbers) (ArrayLoad opcode) many = absurd (omega (arith, many))
jumping_targets (number ∷ numbers) (ArrayStore opcode) many = absurd (omega (arith, many))
jumping_targets (number ∷ numbers) (Shuffle opcode) many = absurd (omega (arith, many))
jumping_targets (number ∷ numbers) (Pure opcode) many = absurd (omega (arith, many))
jumping_targets (number ∷ numbers) (Divide opcode) many = absurd (omega (arith, many))
jumping_targets (number ∷ numbers) (FloatAsk opcode) many = absurd (omega (arith, many))
jumping_targets (number ∷ numbers) (If opcode to) many = ap (λ (rest : List ℕ). number ∷ rest) (sym (none_left numbers (omega (arith, many))))
jumping_targets (number ∷ numbers) (If2 opcode to) many = ap (λ (rest : List ℕ). number ∷ rest) (sym (none_left numbers (omega (arith, many))))
jumping_targets (number ∷ numbers) (IfSame opcode to) many = ap (λ (rest : List ℕ). number ∷ rest) (sym (none_left numbers (omega (arith, many))))
jumping_targets (number ∷ numbers) (IfNull opcode to) many = ap (λ (rest : List ℕ). number ∷ rest) (sym (none_left numbers (omega (arith, many))))
jumping_targets (number ∷ numbers) (Goto to) many = ap (λ (rest : List ℕ). number ∷ rest) (sym (none_left numbers (omega (arith, many))))
jumping_targets (number ∷ numbers) (Table low other to) many = refl
jumping_targets (number ∷ numbers) (Lookup other pairs) many =
    ap (λ (rest : List ℕ). number ∷ rest) (pairs_targets pairs numbers (omega (arith, many)))
jumping_targets (number ∷ numbers) (Return kind) many = absurd (omega (arith, many))
jumping_targets (number ∷ numbers) (GetStatic index) many = absurd (omega (arith, many))
jumping_targets (number ∷ numbers) (PutStatic index) many = absurd (omega (arith, many))
jumping_targets (number ∷ numbers) (GetField index) many = absurd (omega (arith, many))
jumping_targets (number ∷ numbers) (PutField index) many = absurd (omega (arith, many))
jumping_targets (number ∷ numbers) (Invoke opcode index count) many = absurd (omega (arith, many))
jumping_targets (number ∷ numbers) (Dynamic index) many = absurd (omega (arith, many))
jumping_targets (number ∷ numbers) (New index) many = absurd (omega (arith, many))
jumping_targets (number ∷ numbers) (NewArray code) many = absurd (omega (arith, many))
jumping_targets (number ∷ numbers) (NewRefArray index) many = absurd (omega (arith, many))
jumping_targets (number ∷ numbers) (NewMulti index dimensions) many = absurd (omega (arith, many))
jumping_targets (number ∷ numbers) Length many = absurd (omega (arith, many))
jumping_targets (number ∷ numbers) Throw many = absurd (omega (arith, many))
jumping_targets (number ∷ numbers) (Cast index) many = absurd (omega (arith, many))
jumping_targets (number ∷ numbers) (InstanceOf index) many = absurd (omega (arith, many))
jumping_targets (number ∷ numbers) Enter many = absurd (omega (arith, many))
jumping_targets (number ∷ numbers) Leave many = absurd (omega (arith, many))

-- ---- another index

pub index_falls : (new : ℕ) (instr : Instr) → falls_through (with_index new instr) ≡ falls_through instr
index_falls new Nop = refl
index_falls new (Const imm) = refl
index_falls new (Ldc index) = refl
index_falls new (Ldc2 index) = refl
index_falls new (Load kind local) = refl
index_falls new (Store kind local) = refl
index_falls new (Iinc local by) = refl
index_falls new (ArrayLoad opcode) = refl
index_falls new (ArrayStore opcode) = refl
index_falls new (Shuffle opcode) = refl
index_falls new (Pure opcode) = refl
index_falls new (Divide opcode) = refl
index_falls new (FloatAsk opcode) = refl
index_falls new (If opcode to) = refl
index_falls new (If2 opcode to) = refl
index_falls new (IfSame opcode to) = refl
index_falls new (IfNull opcode to) = refl
index_falls new (Goto to) = refl
index_falls new (Table low other to) = refl
index_falls new (Lookup other pairs) = refl
index_falls new (Return kind) = refl
index_falls new (GetStatic index) = refl
index_falls new (PutStatic index) = refl
index_falls new (GetField index) = refl
index_falls new (PutField index) = refl
index_falls new (Invoke opcode index count) = refl
index_falls new (Dynamic index) = refl
index_falls new (New index) = refl
index_falls new (NewArray code) = refl
index_falls new (NewRefArray index) = refl
index_falls new (NewMulti index dimensions) = refl
index_falls new Length = refl
index_falls new Throw = refl
index_falls new (Cast index) = refl
index_falls new (InstanceOf index) = refl
index_falls new Enter = refl
index_falls new Leave = refl

pub index_targets : (new : ℕ) (instr : Instr) → targets (with_index new instr) ≡ targets instr
index_targets new Nop = refl
index_targets new (Const imm) = refl
index_targets new (Ldc index) = refl
index_targets new (Ldc2 index) = refl
index_targets new (Load kind local) = refl
index_targets new (Store kind local) = refl
index_targets new (Iinc local by) = refl
index_targets new (ArrayLoad opcode) = refl
index_targets new (ArrayStore opcode) = refl
index_targets new (Shuffle opcode) = refl
index_targets new (Pure opcode) = refl
index_targets new (Divide opcode) = refl
index_targets new (FloatAsk opcode) = refl
index_targets new (If opcode to) = refl
index_targets new (If2 opcode to) = refl
index_targets new (IfSame opcode to) = refl
index_targets new (IfNull opcode to) = refl
index_targets new (Goto to) = refl
index_targets new (Table low other to) = refl
index_targets new (Lookup other pairs) = refl
index_targets new (Return kind) = refl
index_targets new (GetStatic index) = refl
index_targets new (PutStatic index) = refl
index_targets new (GetField index) = refl
index_targets new (PutField index) = refl
index_targets new (Invoke opcode index count) = refl
index_targets new (Dynamic index) = refl
index_targets new (New index) = refl
index_targets new (NewArray code) = refl
index_targets new (NewRefArray index) = refl
index_targets new (NewMulti index dimensions) = refl
index_targets new Length = refl
index_targets new Throw = refl
index_targets new (Cast index) = refl
index_targets new (InstanceOf index) = refl
index_targets new Enter = refl
index_targets new Leave = refl

-- the index that an instruction has, or 0
abbrev pub own_index : Instr → ℕ
own_index instr = or_zero (named_index instr) where
  or_zero : Option ℕ → ℕ
  or_zero None = 0
  or_zero (Some index) = index

pub with_own : (instr : Instr) → with_index (own_index instr) instr ≡ instr
with_own Nop = refl
with_own (Const imm) = refl
with_own (Ldc index) = refl
with_own (Ldc2 index) = refl
with_own (Load kind local) = refl
with_own (Store kind local) = refl
with_own (Iinc local by) = refl
with_own (ArrayLoad opcode) = refl
with_own (ArrayStore opcode) = refl
with_own (Shuffle opcode) = refl
with_own (Pure opcode) = refl
with_own (Divide opcode) = refl
with_own (FloatAsk opcode) = refl
with_own (If opcode to) = refl
with_own (If2 opcode to) = refl
with_own (IfSame opcode to) = refl
with_own (IfNull opcode to) = refl
with_own (Goto to) = refl
with_own (Table low other to) = refl
with_own (Lookup other pairs) = refl
with_own (Return kind) = refl
with_own (GetStatic index) = refl
with_own (PutStatic index) = refl
with_own (GetField index) = refl
with_own (PutField index) = refl
with_own (Invoke opcode index count) = refl
with_own (Dynamic index) = refl
with_own (New index) = refl
with_own (NewArray code) = refl
with_own (NewRefArray index) = refl
with_own (NewMulti index dimensions) = refl
with_own Length = refl
with_own Throw = refl
with_own (Cast index) = refl
with_own (InstanceOf index) = refl
with_own Enter = refl
with_own Leave = refl
