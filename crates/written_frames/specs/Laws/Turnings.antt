-- Instructions that have an opposite: conditional jumps.
use Rattle.std.proofs.Common.{◌≡◌, ℕ, None, refl}
use Rattle.class_model.specs.declared.instr.Instr.{Instr}
use Rattle.class_model.specs.declared.instr.Instr.TheVariants.{Nop, Const, Ldc, Ldc2, Load, Store, Iinc, ArrayLoad, ArrayStore, Shuffle, Pure, Divide, FloatAsk, If, If2, IfSame, IfNull, Goto, Table, Lookup, Return, GetStatic, PutStatic, GetField, PutField, Invoke, Dynamic, New, NewArray, NewRefArray, NewMulti, Length, Throw, Cast, InstanceOf, Enter, Leave}
use Rattle.making_code.specs.Opposites.{opposite_instr}

pub data Turning : Instr → Type 0 where
  no_turn : {instr : Instr} → opposite_instr instr ≡ None → Turning instr
  turn_if : (opcode to : ℕ) → Turning (If opcode to)
  turn_if2 : (opcode to : ℕ) → Turning (If2 opcode to)
  turn_same : (opcode to : ℕ) → Turning (IfSame opcode to)
  turn_null : (opcode to : ℕ) → Turning (IfNull opcode to)

pub turning : (instr : Instr) → Turning instr
turning (If opcode to) = turn_if opcode to
turning (If2 opcode to) = turn_if2 opcode to
turning (IfSame opcode to) = turn_same opcode to
turning (IfNull opcode to) = turn_null opcode to
turning Nop = no_turn refl
turning (Const imm) = no_turn refl
turning (Ldc index) = no_turn refl
turning (Ldc2 index) = no_turn refl
turning (Load kind local) = no_turn refl
turning (Store kind local) = no_turn refl
turning (Iinc local by) = no_turn refl
turning (ArrayLoad opcode) = no_turn refl
turning (ArrayStore opcode) = no_turn refl
turning (Shuffle opcode) = no_turn refl
turning (Pure opcode) = no_turn refl
turning (Divide opcode) = no_turn refl
turning (FloatAsk opcode) = no_turn refl
turning (Goto to) = no_turn refl
turning (Table low other to) = no_turn refl
turning (Lookup other pairs) = no_turn refl
turning (Return kind) = no_turn refl
turning (GetStatic index) = no_turn refl
turning (PutStatic index) = no_turn refl
turning (GetField index) = no_turn refl
turning (PutField index) = no_turn refl
turning (Invoke opcode index count) = no_turn refl
turning (Dynamic index) = no_turn refl
turning (New index) = no_turn refl
turning (NewArray code) = no_turn refl
turning (NewRefArray index) = no_turn refl
turning (NewMulti index dimensions) = no_turn refl
turning Length = no_turn refl
turning Throw = no_turn refl
turning (Cast index) = no_turn refl
turning (InstanceOf index) = no_turn refl
turning Enter = no_turn refl
turning Leave = no_turn refl
