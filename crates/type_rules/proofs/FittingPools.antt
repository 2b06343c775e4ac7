-- The constants that the instructions of a method name are of the kinds that they may name.
use Rattle.std.proofs.Common.{◌≡◌, inl, inr, ℕ, List, [], ◌∷◌, Result, Ok, Err, refl}
use Rattle.std.specs.List.{AllByRecursion}
use Rattle.class_model.specs.Checks.{Fault}
use Rattle.class_model.specs.Code.{IsCalled, OperandFits}
use Rattle.class_model.specs.Instructions.{decoded}
use Rattle.class_model.specs.Pool.{Constants}
use Rattle.class_model.specs.declared.instr.Instr.{Instr}
use Rattle.class_model.specs.declared.instr.Instr.TheVariants.{Nop, Const, Ldc, Ldc2, Load, Store, Iinc, ArrayLoad, ArrayStore, Shuffle, Pure, Divide, FloatAsk, If, If2, IfSame, IfNull, Goto, Table, Lookup, Return, GetStatic, PutStatic, GetField, PutField, Invoke, Dynamic, New, NewArray, NewRefArray, NewMulti, Length, Throw, Cast, InstanceOf, Enter, Leave}
use Rattle.class_model.specs.declared.instr.Placed.{Placed}
use Rattle.code_bytes.specs.Codes.{HaveOperands}
use Rattle.type_rules.specs.Rule.{FitsPool, NamesMethod}
use Rattle.member_link.specs.Scope.{Scope, instructions}

-- the count of an invokeinterface is asked apart from the kind
names_method : (pool : Constants) (major opcode method count : ℕ) → IsCalled pool major opcode method count → NamesMethod pool major opcode method
names_method pool major opcode method count (inl virtual) = inl virtual
names_method pool major opcode method count (inr (inl interface)) = inr (inl (interface.0, interface.1))
names_method pool major opcode method count (inr (inr other)) = inr (inr other)

-- the greatest number of locals is asked of locals alone
fits_pool : (s : Scope) (max_locals : ℕ) (instr : Instr) → OperandFits s.class.pool s.class.major max_locals instr → FitsPool s instr
fits_pool s max_locals Nop h = h
fits_pool s max_locals (Const imm) h = h
fits_pool s max_locals (Ldc index) h = h
fits_pool s max_locals (Ldc2 index) h = h
fits_pool s max_locals (Load kind local) h = tt
fits_pool s max_locals (Store kind local) h = tt
fits_pool s max_locals (Iinc local by) h = tt
fits_pool s max_locals (ArrayLoad opcode) h = h
fits_pool s max_locals (ArrayStore opcode) h = h
fits_pool s max_locals (Shuffle opcode) h = h
fits_pool s max_locals (Pure opcode) h = h
fits_pool s max_locals (Divide opcode) h = h
fits_pool s max_locals (FloatAsk opcode) h = h
fits_pool s max_locals (If opcode target) h = h
fits_pool s max_locals (If2 opcode target) h = h
fits_pool s max_locals (IfSame opcode target) h = h
fits_pool s max_locals (IfNull opcode target) h = h
fits_pool s max_locals (Goto target) h = h
fits_pool s max_locals (Table low other targets) h = h
fits_pool s max_locals (Lookup other pairs) h = h
fits_pool s max_locals (Return kind) h = h
fits_pool s max_locals (GetStatic index) h = h
fits_pool s max_locals (PutStatic index) h = h
fits_pool s max_locals (GetField index) h = h
fits_pool s max_locals (PutField index) h = h
fits_pool s max_locals (Invoke opcode index count) h = names_method s.class.pool s.class.major opcode index count h
fits_pool s max_locals (Dynamic index) h = h
fits_pool s max_locals (New index) h = h
fits_pool s max_locals (NewArray code) h = h
fits_pool s max_locals (NewRefArray index) h = h
fits_pool s max_locals (NewMulti index dimensions) h = h.0
fits_pool s max_locals Length h = h
fits_pool s max_locals Throw h = h
fits_pool s max_locals (Cast index) h = h
fits_pool s max_locals (InstanceOf index) h = h
fits_pool s max_locals Enter h = h
fits_pool s max_locals Leave h = h

all_fit : (s : Scope) (max_locals : ℕ) (instrs : List Placed) → AllByRecursion (λ placed. OperandFits s.class.pool s.class.major max_locals placed.instr) instrs → AllByRecursion (λ placed. FitsPool s placed.instr) instrs
all_fit s max_locals [] h = tt
all_fit s max_locals (placed ∷ instrs) h = (fits_pool s max_locals placed.instr h.0, all_fit s max_locals instrs h.1)

pub instructions_fit : (s : Scope) (max_locals : ℕ) → HaveOperands s.class.pool s.class.major max_locals (decoded s.part.code) → AllByRecursion (λ placed. FitsPool s placed.instr) (instructions s)
instructions_fit s max_locals have = by (decoded s.part.code) refl have
  where
    by : (read : Result (List Placed) Fault) → decoded s.part.code ≡ read → HaveOperands s.class.pool s.class.major max_locals read → AllByRecursion (λ placed. FitsPool s placed.instr) (instructions s)
    by (Ok instrs) is have = rw is (all_fit s max_locals instrs have)
    by (Err fault) is have = rw is tt
