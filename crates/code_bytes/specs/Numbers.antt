-- The numbers of an instruction are of their types.
use Rattle.std.specs.Prelude.{ℕ, ◌^◌, ◌<◌, List, FitsSigned}
use Rattle.std.specs.Int.{w16, w32}
use Rattle.std.specs.List.{AllByRecursion}
use Rattle.class_model.specs.declared.instr.Pair.{Pair}
use Rattle.class_model.specs.declared.instr.Instr.{Instr}
use Rattle.class_model.specs.declared.instr.Instr.TheVariants.{Ldc, Ldc2, Load, Store, Iinc, Table, Lookup, GetStatic, PutStatic, GetField, PutField, Invoke, Dynamic, New, NewRefArray, NewMulti, Cast, InstanceOf}

-- the keys of pairs have 32 bits
abbrev pub FitsKeys : List Pair → Type 0
FitsKeys pairs = AllByRecursion (λ p. FitsSigned w32 p.key) pairs

abbrev pub IsU1 : ℕ → Type 0
IsU1 number = number < 2 ^ 8

abbrev pub IsU2 : ℕ → Type 0
IsU2 number = number < 2 ^ 16

-- opcodes apart, and the numbers that FitsForm and the targets speak of
abbrev pub HasNumbers : Instr → Type 0
HasNumbers (Ldc index) = IsU2 index
HasNumbers (Ldc2 index) = IsU2 index
HasNumbers (Load kind index) = IsU2 index
HasNumbers (Store kind index) = IsU2 index
HasNumbers (Iinc index number) = IsU2 index × FitsSigned w16 number
HasNumbers (Table low other to) = FitsSigned w32 low
HasNumbers (Lookup other pairs) = FitsKeys pairs
HasNumbers (GetStatic field) = IsU2 field
HasNumbers (PutStatic field) = IsU2 field
HasNumbers (GetField field) = IsU2 field
HasNumbers (PutField field) = IsU2 field
HasNumbers (Invoke opcode method count) = IsU2 method × IsU1 count
HasNumbers (Dynamic site) = IsU2 site
HasNumbers (New class) = IsU2 class
HasNumbers (NewRefArray class) = IsU2 class
HasNumbers (NewMulti class dimensions) = IsU2 class × IsU1 dimensions
HasNumbers (Cast class) = IsU2 class
HasNumbers (InstanceOf class) = IsU2 class
HasNumbers instr = Unit {0}
