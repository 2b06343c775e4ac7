-- What stands in a pool fits its items (JVM Specification SE 8, 4.4.1 to 4.4.10).
use Rattle.std.specs.Prelude.{ℕ, ◌^◌, ◌<◌, ◌≤◌, length, Option, Some, None, FitsSigned}
use Rattle.std.specs.Int.{w32, w64}
use Rattle.std.specs.List.{AllByRecursion}
use Rattle.class_model.specs.Pool.{Constants}
use Rattle.class_model.specs.declared.pool.Const.{Const}
use Rattle.class_model.specs.declared.pool.Const.TheVariants.{Utf8, Integer, Float, Long, Double, Class, String, Fieldref, Methodref, InterfaceMethodref, NameAndType, MethodHandle, MethodType, InvokeDynamic}

-- a number of two bytes
abbrev pub IsU2 : ℕ → Type 0
IsU2 number = number < 2 ^ 16

-- The numbers of a constant fit their items, and its text its count.
abbrev pub FitsItems : Const → Type 0
FitsItems (Utf8 text) = length text ≤ 65535
FitsItems (Integer number) = FitsSigned w32 number
FitsItems (Float bits) = bits < 2 ^ 32
FitsItems (Long number) = FitsSigned w64 number
FitsItems (Double bits) = bits < 2 ^ 64
FitsItems (Class name) = IsU2 name
FitsItems (String text) = IsU2 text
FitsItems (Fieldref class member) = IsU2 class × IsU2 member
FitsItems (Methodref class member) = IsU2 class × IsU2 member
FitsItems (InterfaceMethodref class member) = IsU2 class × IsU2 member
FitsItems (NameAndType name descriptor) = IsU2 name × IsU2 descriptor
FitsItems (MethodHandle kind reference) = (kind < 2 ^ 8) × IsU2 reference
FitsItems (MethodType descriptor) = IsU2 descriptor
FitsItems (InvokeDynamic bootstrap member) = IsU2 bootstrap × IsU2 member

-- the constant at an index, if one is there
abbrev pub EntryFits : Option Const → Type 0
EntryFits None = Unit {0}
EntryFits (Some constant) = FitsItems constant

-- each constant of a pool
abbrev pub PoolFits : Constants → Type 0
PoolFits pool = AllByRecursion EntryFits pool
